-- Which moments count.
use Rattle.std.specs.Prelude.{ℕ}
use Rattle.manu_serve.specs.declared.paces.Pace.{Pace}
use Rattle.manu_serve.specs.declared.paces.Pace.TheVariants.{Still, Moving}

-- the least moment that a request can begin at, where the clock tells none below `least`
abbrev pub least_of : Pace → ℕ → ℕ
least_of Still least = 0
least_of Moving least = least
