use Rattle.std.proofs.Common.{◌≡◌, ◌+◌, ◌<◌, ◌^◌, None, length, refl, sym, ap, subst, ◌∙◌, rules, arith}
use Rattle.std.specs.Arc.{arc_value}
use Rattle.journal_model.specs.declared.notes.Kind.TheVariants.{Load}
use Rattle.journal_model.specs.Notes.{note_of}
use Rattle.journal_model.specs.Layouts.{layout_of}
use Rattle.journal_model.specs.Refusals.{load_refusal}
use Rattle.journal_model.specs.Runs.{State}
use Rattle.journal_model.proofs.CallLaws.{load_step}
use Rattle.shard_core.specs.Shards.{ChannelShard}
use Rattle.shard_core.proofs.ViewLaws.{source_of}
use Rattle.shard_core.proofs.LentLaws.{loaded_elsewhere}
use Rattle.shard_core.proofs.MovedLaws.{up_shows, kept_ready, kept_load, room_ready, room_committed, committed}
use Rattle.shard_core.proofs.shard.Shard.add_place.Goals as goal

pub make_ready-requires-clause-source : goal.make_ready-requires-clause-source
make_ready-requires-clause-source c = source_of (arc_value c.self.inside.collection) c.self.inside.journal c.self.inside.lagging c.self.inside.spare c.self.inside.lagging.room c.self.invariant.0 c.self.invariant.1 c.len-notes.ensures.sound

pub load-requires-clause-elsewhere : goal.load-requires-clause-elsewhere
load-requires-clause-elsewhere c =
    let k = c.make_ready.new.journal in
    let free : load_refusal (layout_of k.channel k.state.notes) c.args.segment c.args.from c.args.node ≡ None =
    rw (c.make_ready.ensures.channel, c.make_ready.ensures.state) (ap (λ (s : ChannelShard). load_refusal (layout_of s.channel s.state.notes) c.args.segment c.args.from c.args.node) c.self.view_is ∙ sym c.refuse_load.ensures ∙ c.in_default.is) in
    loaded_elsewhere k.channel k.state.notes c.make_ready.new.lagging.pieces (up_shows k c.make_ready.new.lagging c.make_ready.ensures.behind c.in_ok-make_ready.ensures.up) c.args.segment c.args.from c.args.node free

pub append-requires-clause-step : goal.append-requires-clause-step
append-requires-clause-step c =
    let k = c.make_ready.new.journal in
    let free : load_refusal (layout_of k.channel k.state.notes) c.args.segment c.args.from c.args.node ≡ None =
    rw (c.make_ready.ensures.channel, c.make_ready.ensures.state) (ap (λ (s : ChannelShard). load_refusal (layout_of s.channel s.state.notes) c.args.segment c.args.from c.args.node) c.self.view_is ∙ sym c.refuse_load.ensures ∙ c.in_default.is) in
    load_step k.channel k.state c.args.by c.args.line c.args.segment c.args.from c.args.node free

pub invariant_of-self-2 : goal.invariant_of-self-2
invariant_of-self-2 c =
    let collection = arc_value c.self.inside.collection in
    let j = c.self.inside.journal in
    let l = c.self.inside.lagging in
    let k = c.make_ready.new.journal in
    let m = c.make_ready.new.lagging in
    let note = note_of c.args.by c.args.line (Load c.args.segment c.args.node) in
    let few : length k.state.notes + 1 < 2 ^ 56 = subst (λ (s : State). length s.notes + 1 < 2 ^ 56) (sym c.make_ready.ensures.state) c.in_ok-make_ready.ensures.few in (
      room_committed c.self.inside.spare _ m.room c.load.new.self.room k c.append.new.self note (grind (arith, rules))
          (room_ready c.self.inside.spare l.room m.room j k c.self.invariant.0 c.make_ready.ensures.state c.make_ready.ensures.spare c.make_ready.ensures.pending_room) few c.append.ensures.note c.load.ensures.room,
      kept_load collection k c.append.new.self m c.load.new.self
          (kept_ready collection j k l m c.self.invariant.1 c.make_ready.ensures.state c.make_ready.ensures.channel c.make_ready.ensures.shape c.make_ready.ensures.behind)
          c.in_ok-make_ready.ensures.up.0 c.in_ok-make_ready.ensures.up.1 c.load.ensures.pending c.load.ensures.deaths note c.args.segment c.args.node refl c.append.ensures.note c.in_ok-load.ensures.ok,
    )

pub returns-clause-step : goal.returns-clause-step
returns-clause-step c =
    committed c.args.self.now (arc_value c.self.inside.collection) c.self.inside.spare _ c.self.inside.journal c.make_ready.new.journal c.append.new.self (note_of c.args.by c.args.line (Load c.args.segment c.args.node)) c.self.view_is
    c.make_ready.ensures.state c.make_ready.ensures.channel c.append.ensures.note
    (load_step c.args.self.now.channel c.args.self.now.state c.args.by c.args.line c.args.segment c.args.from c.args.node (sym c.refuse_load.ensures ∙ c.in_default.is)) (grind (arith, rules))
