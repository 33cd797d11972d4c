use Rattle.legal_output.proofs.Pasts.{level_within, order_within, pending_within}
use Rattle.legal_output.proofs.laws.less_known_suffices.Goals as goal

pub returns : goal.returns
returns c = record { levels = level_within; order = order_within; pending = pending_within }
