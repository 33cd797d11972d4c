use Rattle.std.proofs.Common.{◌≡◌, ◌≤◌, ◌+◌, List, map, refl, ap, sym, ◌∙◌, subst, arith}
use Rattle.std.specs.Vec.{with_items}
use Rattle.std.proofs.lemmas.List.{with_items_is}
use Rattle.turn_facts.specs.Prefixes.{IsAt}
use Rattle.hybrid_time.specs.Times.{of_moment}
use Rattle.shard_core.specs.Shards.{ChannelShard, base_of}
use Rattle.shard_calls.specs.Fronts.{notes_of, AreBases}
use Rattle.phase_model.specs.Meets.{Meets}
use Rattle.phase_run.specs.Meets.{met_rest}
use Rattle.phase_channels.specs.declared.channels.Channels.{Channels}
use Rattle.phase_channels.specs.Rests.{collection_in}
use Rattle.phase_channels.proofs.Meeting.{above_all, have_met}
use Rattle.phase_channels.proofs.channels.Channels.meet.Goals as goal

pub meet-requires : goal.meet-requires
meet-requires c =
    let known = c.requires.known in
    let later : c.args.self.clock ≤ c.max-ts.result = omega arith in
    record { above = λ k x at. above_all known.0 c.args.self known.1 known.2 c.max-ts.result later k x (subst (λ (l : List ChannelShard). IsAt l k x) c.as_mut_slice.ensures.value at) }

pub returns-clause-met : goal.returns-clause-met
returns-clause-met c rest least early journals at_rest =
    let ts = c.max-ts.result in
    let later : c.args.self.clock ≤ ts = omega arith in
    let moment : c.of_moment.result.0 ≡ of_moment c.args.moment = c.of_moment.ensures in
    let clock : rest.clock ≡ c.args.self.clock = at_rest.clock in
    let shards : c.as_mut_slice.result.now ≡ c.args.self.shards.items = c.as_mut_slice.ensures.value in
    let bases : AreBases (collection_in c.args.self) rest.floor (map base_of c.as_mut_slice.result.now) = subst (λ (l : List ChannelShard). AreBases (collection_in c.args.self) rest.floor (map base_of l)) (sym shards) at_rest.bases in
    let notes : rest.journals ≡ map notes_of c.as_mut_slice.result.now = at_rest.journals ∙ ap (λ (l : List ChannelShard). map notes_of l) (sym shards) in
    let after : Channels = record { collection = c.args.self.collection; shards = with_items c.args.self.shards c.meet.new.shards; clock = ts + 1; mine = c.args.self.mine } in
    let items : after.shards.items ≡ c.meet.new.shards = with_items_is c.args.self.shards c.meet.new.shards (omega arith) in
    have_met rest c.args.self journals at_rest ts later least after c.in_ok-reply.reply refl refl refl
    (subst (λ (l : List ChannelShard). AreBases (collection_in c.args.self) ts (map base_of l)) (sym items) (c.in_ok-reply.ensures.bases (collection_in c.args.self) rest.floor bases))
    (subst (λ (l : List ChannelShard). Meets (collection_in c.args.self) least rest (met_rest rest ts (map notes_of l)) c.in_ok-reply.reply) (sym items)
    (c.in_ok-reply.ensures.meets (collection_in c.args.self) least rest.floor rest bases notes (omega arith) (omega arith)))
