-- How fresh the snapshot of a search has to be.
use Rattle.std.specs.Prelude.{ℕ, ◌-◌, ◌*◌, ◌^◌}
use Rattle.hybrid_time.specs.declared.levels.Level.{Level}
use Rattle.hybrid_time.specs.declared.levels.Level.TheVariants.{Strong, Bounded, Session, Eventually}

-- the least timestamp that a snapshot may have, for a search at `now` by a caller whose last write was at `mine`
abbrev pub guarantee_of : Level → ℕ → ℕ → ℕ
guarantee_of Strong now mine = now
guarantee_of (Bounded delta_ms) now mine = now - delta_ms * 2 ^ 18
guarantee_of Session now mine = mine
guarantee_of Eventually now mine = 0
