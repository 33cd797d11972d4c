use Rattle.std.proofs.Common.{◌≡◌, ◌+◌, ◌<◌, ◌≤◌, ◌^◌, true, None, List, length, refl, sym, ap, ap₂, subst, ◌∙◌, rules, arith}
use Rattle.std.specs.Prelude.{is_some}
use Rattle.std.specs.Arc.{arc_value}
use Rattle.std.specs.List.{AllByRecursion, sum_by}
use Rattle.journal_model.specs.declared.notes.Kind.TheVariants.{Number}
use Rattle.journal_model.specs.Notes.{note_of}
use Rattle.journal_model.specs.Layouts.{Channel, number_at, sources_in, layout_of}
use Rattle.journal_model.specs.Groups.{kept_rows}
use Rattle.journal_model.specs.Refusals.{begin_merge_refusal}
use Rattle.journal_model.specs.Runs.{State, IsSound, is_step}
use Rattle.journal_model.proofs.CallLaws.{number_step}
use Rattle.channel_pieces.specs.Pieces.{MarkedSegment, segment_in}
use Rattle.shard_core.specs.Shelves.{Shelves}
use Rattle.shard_core.specs.Kept.{LaggingPieces, KeepsShard}
use Rattle.shard_core.specs.Shards.{ChannelShard}
use Rattle.shard_core.specs.Merging.{BegunMerging, IsMergingOf}
use Rattle.shard_core.proofs.PlaceLaws.{sources_there}
use Rattle.shard_core.proofs.KeepLaws.{kept_plain}
use Rattle.shard_core.proofs.ViewLaws.{source_of}
use Rattle.shard_core.proofs.MovedLaws.{up_shows, kept_ready, room_ready, room_committed, committed}
use Rattle.shard_core.proofs.MergingLaws.{Begins, merging_begun}
use Rattle.shard_core.proofs.shard.Shard.begin_merge.Goals as goal

pub make_ready-requires-clause-source : goal.make_ready-requires-clause-source
make_ready-requires-clause-source c = source_of (arc_value c.self.inside.collection) c.self.inside.journal c.self.inside.lagging c.self.inside.spare c.self.inside.lagging.room c.self.invariant.0 c.self.invariant.1 c.len-notes.ensures.sound

pub lend-requires : goal.lend-requires
lend-requires c =
    let k = c.make_ready.new.journal in
    let m = c.make_ready.new.lagging in
    let free : begin_merge_refusal (layout_of k.channel k.state.notes) c.args.segments.now ≡ None =
    rw (c.make_ready.ensures.channel, c.make_ready.ensures.state) (ap (λ (s : ChannelShard). begin_merge_refusal (layout_of s.channel s.state.notes) c.args.segments.now) c.self.view_is ∙ sym c.refuse_merge.ensures ∙ c.in_default.is) in
    record {
      there = subst (λ (l : List MarkedSegment). AllByRecursion (λ n. is_some (segment_in l n) ≡ true) c.args.segments.now)
          (sym (ap (λ (z : Shelves). z.segments) (up_shows k m c.make_ready.ensures.behind c.in_ok-make_ready.ensures.up)))
          (sources_there k.state.notes (layout_of k.channel k.state.notes) c.args.segments.now free);
    }

pub append-requires-clause-step : goal.append-requires-clause-step
append-requires-clause-step c =
    let k = c.make_ready.new.journal in
    subst (λ n. is_step k.channel k.state (note_of c.args.by c.args.line (Number n c.floor-floor.result)) ≡ true) (sym c.next_number-number.ensures)
    (number_step k.channel k.state c.args.by c.args.line c.floor-floor.result c.floor-floor.ensures)

-- the invariant of the shard that is brought up, with a note of the merge
pub invariant_of-self-2 : goal.invariant_of-self-2
invariant_of-self-2 c =
    let collection = arc_value c.self.inside.collection in
    let j = c.self.inside.journal in
    let l = c.self.inside.lagging in
    let k = c.make_ready.new.journal in
    let m = c.make_ready.new.lagging in
    let e = c.lend.new.self in
    let note = note_of c.args.by c.args.line (Number c.next_number-number.result c.floor-floor.result) in
    let few : length k.state.notes + 1 < 2 ^ 56 = subst (λ (s : State). length s.notes + 1 < 2 ^ 56) (sym c.make_ready.ensures.state) c.in_ok-make_ready.ensures.few in
    let kept : KeepsShard collection k m = kept_ready collection j k l m c.self.invariant.1 c.make_ready.ensures.state c.make_ready.ensures.channel c.make_ready.ensures.shape c.make_ready.ensures.behind in
    let sound : IsSound k.channel k.state = rw (c.make_ready.ensures.channel, c.make_ready.ensures.state) c.len-notes.ensures.sound in (
      room_committed c.self.inside.spare _ m.room e.room k c.append.new.self note (grind (arith, rules))
          (room_ready c.self.inside.spare l.room m.room j k c.self.invariant.0 c.make_ready.ensures.state c.make_ready.ensures.spare c.make_ready.ensures.pending_room) few c.append.ensures.note (ap (λ (x : LaggingPieces). x.room) c.lend.ensures.same),
      kept_plain collection k c.append.new.self e note (subst (KeepsShard collection k) (sym c.lend.ensures.same) kept) sound (tt, tt) refl c.append.ensures.note refl refl,
    )

pub returns-clause-step : goal.returns-clause-step
returns-clause-step c =
    let j = c.self.inside.journal in
    let k = c.make_ready.new.journal in
    let note = note_of c.args.by c.args.line (Number c.next_number-number.result c.floor-floor.result) in
    let step_then : is_step k.channel k.state note ≡ true = subst (λ n. is_step k.channel k.state (note_of c.args.by c.args.line (Number n c.floor-floor.result)) ≡ true) (sym c.next_number-number.ensures)
    (number_step k.channel k.state c.args.by c.args.line c.floor-floor.result c.floor-floor.ensures) in
    let step_now : is_step j.channel j.state note ≡ true = subst (λ (s : State). is_step j.channel s note ≡ true) c.make_ready.ensures.state (subst (λ (h : Channel). is_step h k.state note ≡ true) c.make_ready.ensures.channel step_then) in
    committed c.args.self.now (arc_value c.self.inside.collection) c.self.inside.spare _ j k c.append.new.self note c.self.view_is c.make_ready.ensures.state c.make_ready.ensures.channel c.append.ensures.note
    (subst (λ (s : ChannelShard). is_step s.channel s.state note ≡ true) c.self.view_is step_now) (grind (arith, rules))

pub returns-clause-begun : goal.returns-clause-begun
returns-clause-begun c =
    let collection = arc_value c.self.inside.collection in
    let j = c.self.inside.journal in
    let l = c.self.inside.lagging in
    let k = c.make_ready.new.journal in
    let m = c.make_ready.new.lagging in
    let note = note_of c.args.by c.args.line (Number c.next_number-number.result c.floor-floor.result) in
    let merging : BegunMerging = record { parts = c.in_ok-parts.parts.items; number = c.next_number-number.result; by = c.args.by; floor = c.floor-floor.result.0; begun = c.len-notes.result + 1 } in
    let kept : KeepsShard collection k m = kept_ready collection j k l m c.self.invariant.1 c.make_ready.ensures.state c.make_ready.ensures.channel c.make_ready.ensures.shape c.make_ready.ensures.behind in
    let few : length k.state.notes + 1 < 2 ^ 56 = subst (λ (s : State). length s.notes + 1 < 2 ^ 56) (sym c.make_ready.ensures.state) c.in_ok-make_ready.ensures.few in
    let taken : (layout_of k.channel k.state.notes).taken ≤ length k.state.notes = let a = c.taken-taken.ensures.taken in let b = c.taken-taken.ensures.few in omega arith in
    let asked : sum_by (kept_rows j.state.notes j.state.floor) (sources_in c.args.segments.now (layout_of j.channel j.state.notes).segments) ≤ j.channel.seal_rows =
    subst (λ (s : ChannelShard). sum_by (kept_rows s.state.notes s.state.floor) (sources_in c.args.segments.now (layout_of s.channel s.state.notes).segments) ≤ s.channel.seal_rows) (sym c.self.view_is) c.requires.few in
    let begins : Begins k.channel k.state note m.pieces c.args.segments.now merging = record {
      sound = rw (c.make_ready.ensures.channel, c.make_ready.ensures.state) c.len-notes.ensures.sound;
      step = subst (λ n. is_step k.channel k.state (note_of c.args.by c.args.line (Number n c.floor-floor.result)) ≡ true) (sym c.next_number-number.ensures)
          (number_step k.channel k.state c.args.by c.args.line c.floor-floor.result c.floor-floor.ensures);
      shows = up_shows k m c.make_ready.ensures.behind c.in_ok-make_ready.ensures.up;
      low = kept.channel.low;
      few_notes = omega arith;
      taken = taken;
      at = c.floor-floor.result;
      kind = refl;
      floor = refl;
      by = refl;
      number = c.next_number-number.ensures;
      begun = ap (λ n. n + 1) (c.len-notes.ensures.len ∙ sym (ap (λ (s : State). length s.notes) c.make_ready.ensures.state));
      rise = c.requires.rise;
      some = c.requires.some;
      free = rw (c.make_ready.ensures.channel, c.make_ready.ensures.state) (ap (λ (s : ChannelShard). begin_merge_refusal (layout_of s.channel s.state.notes) c.args.segments.now) c.self.view_is ∙ sym c.refuse_merge.ensures ∙ c.in_default.is);
      few = rw (c.floor-floor.ensures, c.make_ready.ensures.channel, c.make_ready.ensures.state) asked;
      found = c.in_ok-parts.ensures.rows;
      numbers_are = c.in_ok-parts.ensures.numbers;
      applied = c.in_ok-parts.ensures.applied;
      shapes = c.in_ok-parts.ensures.shapes;
    } in
    subst (λ (h : Channel). IsMergingOf h c.append.new.self.state.notes merging) (sym c.append.ensures.note.channel)
    (subst (λ (s : State). IsMergingOf k.channel s.notes merging) (sym c.append.ensures.note.state)
    (merging_begun k.channel k.state note m.pieces c.args.segments.now merging begins))

pub returns-clause-number : goal.returns-clause-number
returns-clause-number c =
    c.next_number-number.ensures
    ∙ ap₂ (λ (h : Channel) (s : State). number_at h (layout_of h s.notes).taken) c.make_ready.ensures.channel c.make_ready.ensures.state
    ∙ ap (λ (s : ChannelShard). number_at s.channel (layout_of s.channel s.state.notes).taken) c.self.view_is

pub returns-clause-floor : goal.returns-clause-floor
returns-clause-floor c = c.floor-floor.ensures ∙ ap (λ (s : State). s.floor) c.make_ready.ensures.state ∙ ap (λ (s : ChannelShard). s.state.floor) c.self.view_is

pub returns-clause-at : goal.returns-clause-at
returns-clause-at c = ap (λ n. n + 1) (c.len-notes.ensures.len ∙ ap (λ (s : ChannelShard). length s.state.notes) c.self.view_is)
