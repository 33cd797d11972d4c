use Rattle.legal_output.proofs.Members.{entries_by_members, events_by_members}
use Rattle.legal_output.proofs.laws.members_suffice.Goals as goal

pub returns : goal.returns
returns c = record { entries = entries_by_members; events = events_by_members }
