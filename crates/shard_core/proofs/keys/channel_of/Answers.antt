use Rattle.std.proofs.Common.{◌≡◌, ◌<◌, sym, subst, rules}
use Rattle.shard_core.specs.Keys.{channel_of}
use Rattle.shard_core.proofs.KeyLaws.{channel_below}
use Rattle.shard_core.proofs.keys.channel_of.Goals as goal

pub returns-clause-there : goal.returns-clause-there
returns-clause-there c =
    let is : c.unsigned_abs.result ≡ channel_of c.args.channels c.args.key.0 = search rules in
    subst (λ n. n < c.args.channels) (sym is) (channel_below c.args.channels c.args.key.0 c.requires)
