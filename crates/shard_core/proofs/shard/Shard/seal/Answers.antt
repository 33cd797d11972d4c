use Rattle.std.proofs.Common.{◌≡◌, ◌≤◌, ◌++◌, ℕ, Option, Some, None, sym, ap, subst, refl, ◌∙◌, arith, append-nil}
use Rattle.std.specs.Arc.{arc_value}
use Rattle.journal_model.specs.declared.notes.Kind.TheVariants.{Seal}
use Rattle.journal_model.specs.Notes.{note_of}
use Rattle.journal_model.proofs.CallLaws.{seal_step}
use Rattle.channel_journal.specs.Outcomes.{segment_number}
use Rattle.shard_core.specs.Shards.{ChannelShard}
use Rattle.shard_core.specs.Steps.{closed_by, pending_end}
use Rattle.shard_core.proofs.KeepLaws.{kept_note, kept_plain, room_less, stepped, seal_told}
use Rattle.shard_core.proofs.shard.Shard.seal.Goals as goal

pub invariant_of-self : goal.invariant_of-self
invariant_of-self c =
    let note = note_of c.args.by c.args.line (Seal c.args.ts) in
    let j = c.self.inside.journal in
    let k = c.seal.new.self in
    let one : 1 ≤ c.self.inside.spare = subst (λ (s : ChannelShard). 1 ≤ s.spare) (sym c.self.view_is) c.requires.room in
    let none : ◌≡◌ {A = Option ℕ} None (closed_by j.channel j.state.notes (Seal c.args.ts)) = ap segment_number (sym c.in-Empty.is) ∙ seal_told j k note c.seal.ensures.note c.args.ts (segment_number c.seal.result) refl c.seal.ensures.sealed in (
      room_less c.self.inside.spare c.self.inside.lagging.room c.self.inside.lagging.room j k note c.self.invariant.0 one c.seal.ensures.note (omega arith),
      kept_plain (arc_value c.self.inside.collection) j k c.self.inside.lagging note c.self.invariant.1 c.len.ensures.sound (tt, tt) refl c.seal.ensures.note (ap pending_end (sym none)) refl,
    )

pub invariant_of-self-in-Segment : goal.invariant_of-self-in-Segment
invariant_of-self-in-Segment c =
    let note = note_of c.args.by c.args.line (Seal c.args.ts) in
    let j = c.self.inside.journal in
    let k = c.seal.new.self in
    let l = c.self.inside.lagging in
    let one : 1 ≤ c.self.inside.spare = subst (λ (s : ChannelShard). 1 ≤ s.spare) (sym c.self.view_is) c.requires.room in
    let some : Some c.in-Segment.number ≡ closed_by j.channel j.state.notes (Seal c.args.ts) = ap segment_number (sym c.in-Segment.is) ∙ seal_told j k note c.seal.ensures.note c.args.ts (segment_number c.seal.result) refl c.seal.ensures.sealed in (
      room_less c.self.inside.spare l.room c.close.new.self.room j k note c.self.invariant.0 one c.seal.ensures.note c.close.ensures.room,
      kept_note (arc_value c.self.inside.collection) j k l c.close.new.self note c.self.invariant.1 c.len.ensures.sound (tt, tt) refl c.seal.ensures.note
          (c.close.ensures.pending ∙ ap (λ o. l.pending ++ pending_end o) some)
          (c.close.ensures.deaths ∙ sym (append-nil l.deaths))
          c.close.ensures.pieces,
    )

pub returns-in-Empty-clause-step : goal.returns-in-Empty-clause-step
returns-in-Empty-clause-step c =
    stepped c.args.self.now (arc_value c.self.inside.collection) c.self.inside.spare c.self.inside.journal c.seal.new.self (note_of c.args.by c.args.line (Seal c.args.ts)) c.self.view_is c.seal.ensures.note c.requires.room
    (seal_step c.args.self.now.channel c.args.self.now.state c.args.by c.args.line c.args.ts c.requires.below)

pub returns-in-Segment-clause-step : goal.returns-in-Segment-clause-step
returns-in-Segment-clause-step c =
    stepped c.args.self.now (arc_value c.self.inside.collection) c.self.inside.spare c.self.inside.journal c.seal.new.self (note_of c.args.by c.args.line (Seal c.args.ts)) c.self.view_is c.seal.ensures.note c.requires.room
    (seal_step c.args.self.now.channel c.args.self.now.state c.args.by c.args.line c.args.ts c.requires.below)

pub returns-in-Segment-clause-segment : goal.returns-in-Segment-clause-segment
returns-in-Segment-clause-segment c =
    ap segment_number (sym c.in-Segment.is)
    ∙ seal_told c.self.inside.journal c.seal.new.self (note_of c.args.by c.args.line (Seal c.args.ts)) c.seal.ensures.note c.args.ts (segment_number c.seal.result) refl c.seal.ensures.sealed
    ∙ ap (λ (s : ChannelShard). closed_by s.channel s.state.notes (Seal c.args.ts)) c.self.view_is
