use Rattle.view_laws.proofs.Seen.{hits_seen-append, hidden, refused, offered}
use Rattle.view_laws.proofs.laws.rows.Goals as goal

pub returns-clause-more : goal.returns-clause-more
returns-clause-more c = hits_seen-append

pub returns-clause-hidden : goal.returns-clause-hidden
returns-clause-hidden c = hidden

pub returns-clause-refused : goal.returns-clause-refused
returns-clause-refused c = refused

pub returns-clause-offered : goal.returns-clause-offered
returns-clause-offered c = offered
