use Rattle.view_laws.proofs.Shows.{view_scan, is_live, not_live, exact_stays, exact_scan, looked_scan, members_found}
use Rattle.view_laws.proofs.laws.views.Goals as goal

pub returns-clause-shown : goal.returns-clause-shown
returns-clause-shown c = view_scan

pub returns-clause-absent : goal.returns-clause-absent
returns-clause-absent c = not_live

pub returns-clause-stays : goal.returns-clause-stays
returns-clause-stays c = exact_stays

pub returns-clause-later : goal.returns-clause-later
returns-clause-later c = exact_scan

pub returns-clause-looked : goal.returns-clause-looked
returns-clause-looked c = looked_scan

pub returns-clause-members : goal.returns-clause-members
returns-clause-members c = members_found

pub returns-clause-present : goal.returns-clause-present
returns-clause-present c = is_live
