use Rattle.std.proofs.Common.{◌≡◌, ℕ, List, [], ◌∷◌, map, ap, sym, subst, ◌∙◌, rules}
use Rattle.std.specs.Arc.{arc_value}
use Rattle.coarse_lists.specs.declared.collections.Collection.{Collection}
use Rattle.coarse_lists.specs.Collections.{IsInRange}
use Rattle.journal_model.specs.Layouts.{Channel}
use Rattle.shard_core.specs.Shards.{ChannelShard}
use Rattle.shard_calls.specs.Fronts.{notes_of}
use Rattle.call_tests.proofs.Openings.{two_shards, two_empty, front_collection}
use Rattle.call_tests.proofs.Seats.{first_ready, first_whole}
use Rattle.call_tests.proofs.fronts.two_channels.Goals as goal

abbrev named : ℕ → ℕ → Channel
named number seal_rows = record { number = number; seal_rows = seal_rows }

pub new-requires-4-clause-shards : goal.new-requires-4-clause-shards
new-requires-4-clause-shards c =
    let collection = arc_value c.in_ok-collection.collection in
    let copied : arc_value c.in_ok-copy.copy ≡ collection = c.in_ok-copy.ensures in
    two_shards collection c.in_ok-first.first c.in_ok-second.second c.push-2.new.self.items (search rules) (search rules) (search rules)
    (c.in_ok-first.ensures.collection ∙ copied) (c.in_ok-first.ensures.channel ∙ ap (λ (d : Collection). named 0 d.seal_rows) copied) c.in_ok-first.ensures.state c.in_ok-second.ensures.collection c.in_ok-second.ensures.channel c.in_ok-second.ensures.state

pub new-requires-4-clause-above : goal.new-requires-4-clause-above
new-requires-4-clause-above c = two_empty c.in_ok-first.first c.in_ok-second.second c.push-2.new.self.items (search rules) c.in_ok-first.ensures.state c.in_ok-second.ensures.state

pub returns-clause-channels : goal.returns-clause-channels
returns-clause-channels c =
    let is : c.in-Ok.made.0.collection ≡ c.in_ok-first.first.collection = front_collection c.in-Ok.made.0 c.in_ok-first.first c.in_ok-second.second c.push-2.new.self.items c.in-Ok.ensures.front c.in-Ok.ensures.bases (search rules) in
    ap (λ (d : Collection). d.channels) (is ∙ c.in_ok-first.ensures.collection ∙ c.in_ok-copy.ensures) ∙ (search rules)

pub returns-clause-seat : goal.returns-clause-seat
returns-clause-seat c = first_ready c.in-Ok.made.0.table (map notes_of c.push-2.new.self.items) c.in-Ok.made.1 c.in-Ok.ensures.seat

pub returns-clause-whole : goal.returns-clause-whole
returns-clause-whole c = first_whole c.in-Ok.made.0.table (map notes_of c.push-2.new.self.items) c.in-Ok.made.1 c.in-Ok.ensures.seat
