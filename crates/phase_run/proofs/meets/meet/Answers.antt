use Rattle.std.proofs.Common.{◌≡◌, ℕ, ◌<◌, List, length, get_or, inl, refl, subst, arith, rules}
use Rattle.std.proofs.lemmas.List.{take_all}
use Rattle.turn_facts.specs.Prefixes.{IsAt}
use Rattle.shard_core.specs.Counting.{counts_told}
use Rattle.shard_core.specs.Shards.{ChannelShard}
use Rattle.phase_run.specs.Meets.{AreCountsOf}
use Rattle.phase_run.proofs.Meeting.{on_err, MetUpTo, met_none, met_more, may_have_met, is_there, next_at, counts_none, counts_more, meets, bases_after}
use Rattle.phase_run.proofs.meets.meet.Goals as goal

pub channels-init : goal.channels-init
channels-init c = record { met = met_none c.args.ts.0 c.args.shards.now; counted = counts_none c.args.ts.0 c.args.shards.now _ refl refl refl refl refl refl refl }

pub meet_channel-requires : goal.meet_channel-requires
meet_channel-requires c =
    let a : ChannelShard = get_or c.channels.shards c.channels.k c.index-shards-k.result in
    let low : c.channels.k < length c.channels.shards = search rules in
    let there : IsAt c.channels.shards c.channels.k a = is_there c.channels.shards c.channels.k c.index-shards-k.result low in
    record { below = c.requires.above c.channels.k a (next_at c.args.ts.0 c.channels.k c.args.shards.now c.channels.shards a c.channels.invariant.met there) }

pub channels-preserved : goal.channels-preserved
channels-preserved c =
    let a : ChannelShard = get_or c.channels.shards c.channels.k c.index-shards-k.result in
    let low : c.channels.k < length c.channels.shards = search rules in
    let there : IsAt c.channels.shards c.channels.k a = is_there c.channels.shards c.channels.k c.index-shards-k.result low in
    record {
      met = met_more c.args.ts.0 c.channels.k c.args.shards.now c.channels.shards a c.meet_channel.new.shard c.channels.invariant.met there c.in_ok-counts.ensures.met;
      counted = counts_more c.args.ts.0 c.channels.k c.args.shards.now a (counts_told c.in_ok-counts.counts) c.channels.counted _ (next_at c.args.ts.0 c.channels.k c.args.shards.now c.channels.shards a c.channels.invariant.met there)
          c.in_ok-counts.ensures.counts c.channels.invariant.counted c.in_ok-counted.ensures;
    }

pub returns-in_err-counts-clause-err : goal.returns-in_err-counts-clause-err
returns-in_err-counts-clause-err c =
    let a : ChannelShard = get_or c.channels.shards c.channels.k c.index-shards-k.result in
    let low : c.channels.k < length c.channels.shards = search rules in
    let there : IsAt c.channels.shards c.channels.k a = is_there c.channels.shards c.channels.k c.index-shards-k.result low in
    on_err c.from_residual.result (may_have_met c.args.ts.0 c.channels.k c.args.shards.now c.channels.shards a c.meet_channel.new.shard c.channels.invariant.met there c.in_err-counts.ensures.err)

pub returns-in_err-counted-clause-err : goal.returns-in_err-counted-clause-err
returns-in_err-counted-clause-err c =
    let a : ChannelShard = get_or c.channels.shards c.channels.k c.index-shards-k.result in
    let low : c.channels.k < length c.channels.shards = search rules in
    let there : IsAt c.channels.shards c.channels.k a = is_there c.channels.shards c.channels.k c.index-shards-k.result low in
    on_err c.from_residual-in_err-counted.result (may_have_met c.args.ts.0 c.channels.k c.args.shards.now c.channels.shards a c.meet_channel.new.shard c.channels.invariant.met there (inl c.in_ok-counts.ensures.met))

pub returns : goal.returns
returns c =
    let all : c.channels.k ≡ length c.args.shards.now = search rules in
    let met : MetUpTo c.args.ts.0 (length c.args.shards.now) c.args.shards.now c.channels.shards = subst (λ (n : ℕ). MetUpTo c.args.ts.0 n c.args.shards.now c.channels.shards) all c.channels.invariant.met in
    let counted : AreCountsOf c.args.ts.0 c.args.shards.now c.channels.counted =
    subst (λ (l : List ChannelShard). AreCountsOf c.args.ts.0 l c.channels.counted) (take_all c.channels.k c.args.shards.now (omega arith)) c.channels.invariant.counted in
    record {
      meets = λ collection least floor old bases journals above early. meets c.args.ts.0 c.args.shards.now c.channels.shards met collection floor bases least old c.channels.counted counted journals above early;
      bases = λ collection floor bases. bases_after c.args.ts.0 c.args.shards.now c.channels.shards met collection floor bases;
      counted = counted;
      err = tt;
    }
