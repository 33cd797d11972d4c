use Rattle.channel_view.specs.Views.{view_in}
use Rattle.view_scan.proofs.Found.{seen_live}
use Rattle.view_scan.proofs.lookups.find.Goals as goal

pub returns-clause-live : goal.returns-clause-live
returns-clause-live c = λ notes more exact journal.
    seen_live (view_in c.args.view.now) c.args.ts.0 c.args.key.0 c.in_ok-found.found notes more c.requires.from_floor c.requires.to_tick c.in_ok-found.ensures exact journal
