use Rattle.legal_output.proofs.Alone.{alone_legal}
use Rattle.legal_output.proofs.laws.runs_are_legal.Goals as goal

pub returns : goal.returns
returns c = alone_legal
