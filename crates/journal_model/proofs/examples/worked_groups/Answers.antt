use Rattle.journal_model.proofs.Worked.{small, spared, meet, meet_earlier, counts, waiting_source}
use Rattle.journal_model.proofs.examples.worked_groups.Goals as goal

pub returns-clause-small : goal.returns-clause-small
returns-clause-small c = small

pub returns-clause-spared : goal.returns-clause-spared
returns-clause-spared c = spared

pub returns-clause-meet : goal.returns-clause-meet
returns-clause-meet c = meet

pub returns-clause-meet_earlier : goal.returns-clause-meet_earlier
returns-clause-meet_earlier c = meet_earlier

pub returns-clause-counts : goal.returns-clause-counts
returns-clause-counts c = counts

pub returns-clause-waiting_source : goal.returns-clause-waiting_source
returns-clause-waiting_source c = waiting_source
