use Rattle.std.proofs.Common.{◌∷◌}
use Rattle.phase_echo.proofs.Saying.{took}
use Rattle.phase_echo.proofs.echoing.EchoEngine.take.Goals as goal

pub returns-clause-taken : goal.returns-clause-taken
returns-clause-taken c header done waiting output s = (c.is_meet.ensures, took _ _ _ (header ∷ done) waiting output c.in_ok-say.ensures s)
