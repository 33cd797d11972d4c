use Rattle.std.proofs.Common.{◌≡◌, ◌<◌, length, take, ap, ◌∙◌, arith}
use Rattle.turn_facts.specs.Prefixes.{IsAt}
use Rattle.phase_channels.proofs.Lasting.{kept_long}
use Rattle.phase_channels.proofs.Running.{read_at}
use Rattle.phase_channels.proofs.channels.keep_last_writes.Goals as goal

pub bounds-mine-did : goal.bounds-mine-did
bounds-mine-did c =
    let i = c.loop-did.did-index in
    let below : i < length c.args.done.now = c.loop-did-test.true in
    let at : IsAt c.args.done.now i c.did-item.result = read_at c.args.done.now i c.did-item.result below c.did-item.is in
    let low : c.did-item.result.caller < length c.args.mine.now = c.requires i c.did-item.result at in
    let long : length c.loop-did.mine ≡ length c.args.mine.now = ap length c.loop-did.invariant ∙ kept_long c.args.mine.now (take i c.args.done.now) in omega arith
