-- What an object outside tells of its content.
use Rattle.std.specs.Prelude.{◌≡◌, Option, is_some}

-- a call changes nothing about whether the content is told
abbrev pub TellsAlike : {T : Type 0} → Option T → Option T → Type 0
TellsAlike old new = is_some new ≡ is_some old
