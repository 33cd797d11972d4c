use Rattle.std.proofs.Common.{rules, refl, ap, sym, ◌∙◌, subst}
use Rattle.std.specs.Arc.{arc_value}
use Rattle.coarse_lists.specs.declared.collections.Collection.{Collection}
use Rattle.coarse_lists.specs.Collections.{IsInRange}
use Rattle.shard_calls.proofs.Plain.{IsEmpty, two_shards, above_none}
use Rattle.shard_threads.proofs.Empty.{empty_of}
use Rattle.shard_threads.proofs.fronts.two_channels.Goals as goal

pub new-requires-4-clause-shards : goal.new-requires-4-clause-shards
new-requires-4-clause-shards c =
    let made : Collection = arc_value c.in_ok-collection.collection in
    let first : IsEmpty made 0 c.in_ok-first.first = empty_of made (arc_value c.in_ok-try_clone.field-0) 0 c.in_ok-first.first c.in_ok-try_clone.ensures c.in_ok-first.ensures.collection c.in_ok-first.ensures.channel c.in_ok-first.ensures.state in
    let second : IsEmpty made 1 c.in_ok-second.second = empty_of made made 1 c.in_ok-second.second refl c.in_ok-second.ensures.collection c.in_ok-second.ensures.channel c.in_ok-second.ensures.state in
    two_shards made c.in_ok-first.first c.in_ok-second.second first second c.push-2.new.self.items (search rules) (subst IsInRange (sym c.in_ok-collection.ensures.ok) c.small_collection.ensures.range)
    (ap (λ (d : Collection). d.channels) c.in_ok-collection.ensures.ok ∙ c.small_collection.ensures.channels)

pub new-requires-4-clause-above : goal.new-requires-4-clause-above
new-requires-4-clause-above c =
    let made : Collection = arc_value c.in_ok-collection.collection in
    let first : IsEmpty made 0 c.in_ok-first.first = empty_of made (arc_value c.in_ok-try_clone.field-0) 0 c.in_ok-first.first c.in_ok-try_clone.ensures c.in_ok-first.ensures.collection c.in_ok-first.ensures.channel c.in_ok-first.ensures.state in
    let second : IsEmpty made 1 c.in_ok-second.second = empty_of made made 1 c.in_ok-second.second refl c.in_ok-second.ensures.collection c.in_ok-second.ensures.channel c.in_ok-second.ensures.state in
    above_none made c.in_ok-first.first c.in_ok-second.second first second c.push-2.new.self.items (search rules)
