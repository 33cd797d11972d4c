use Rattle.channel_pieces.proofs.DeathLaws.{search_found, search_missed}
use Rattle.channel_pieces.proofs.marking.find_row.Goals as goal

pub returns-in-Ok : goal.returns-in-Ok
returns-in-Ok c = search_found c.args.position c.in-Ok.row c.args.positions.now c.requires.rise c.in-Ok.ensures.position

pub returns-in-Err : goal.returns-in-Err
returns-in-Err c = search_missed c.args.position c.in-Err.field-0 c.args.positions.now c.requires.rise c.in-Err.ensures.position
