use Rattle.view_laws.proofs.Values.{get_same}
use Rattle.view_laws.proofs.Wholes.{keys_scan}
use Rattle.view_laws.proofs.laws.keys.Goals as goal

pub returns-clause-row : goal.returns-clause-row
returns-clause-row c = get_same

pub returns-clause-hits : goal.returns-clause-hits
returns-clause-hits c = λ log other t plan query. keys_scan t plan query log other
