use Rattle.view_laws.proofs.Shows.{look_serves}
use Rattle.view_laws.proofs.Wholes.{whole_of_key, whole_log, whole_row, channels_scan, looks_scan}
use Rattle.view_laws.proofs.laws.channels.Goals as goal

pub returns-clause-log : goal.returns-clause-log
returns-clause-log c = whole_log

pub returns-clause-each_key : goal.returns-clause-each_key
returns-clause-each_key c = λ home logs of_these lawful key. whole_of_key home key logs of_these lawful

pub returns-clause-cut : goal.returns-clause-cut
returns-clause-cut c = λ home logs t plan query. channels_scan t plan query home logs

pub returns-clause-looks : goal.returns-clause-looks
returns-clause-looks c = λ home looks t plan query. looks_scan t plan query home looks

pub returns-clause-row : goal.returns-clause-row
returns-clause-row c = whole_row

pub returns-clause-serves : goal.returns-clause-serves
returns-clause-serves c = look_serves
