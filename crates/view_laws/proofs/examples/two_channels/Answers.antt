use Rattle.view_laws.proofs.Worked.{keys, union, shared_here, shared_gone}
use Rattle.view_laws.proofs.examples.two_channels.Goals as goal

pub returns-clause-keys : goal.returns-clause-keys
returns-clause-keys c = keys

pub returns-clause-union : goal.returns-clause-union
returns-clause-union c = union

pub returns-clause-shared_here : goal.returns-clause-shared_here
returns-clause-shared_here c = shared_here

pub returns-clause-shared_gone : goal.returns-clause-shared_gone
returns-clause-shared_gone c = shared_gone
