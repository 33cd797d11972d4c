use Rattle.std.proofs.Common.{◌≡◌, ℕ, [], ◌∷◌, Ok, refl, ap, subst, ◌∙◌}
use Rattle.journal_model.specs.Layouts.{Channel}
use Rattle.seg_sealed.specs.Parts.{SegmentPart}
use Rattle.shard_core.specs.Moves.{BegunMove}
use Rattle.call_model.specs.Calls.{channel_at}
use Rattle.vault.specs.declared.storing.Stored.{Stored}
use Rattle.vault.specs.declared.storing.Stored.TheVariants as stored
use Rattle.vault.specs.Names.{names_of}
use Rattle.vault.specs.Stores.{Stores, IsLeft, kept_notes}
use Rattle.handoff_calls.specs.Handoffs.{Left, Moved}
use Rattle.handoff_calls.proofs.Own.{of_line_none, stores_of_line}
use Rattle.handoff_calls.proofs.Handing.{if_err, did_on, vault_none, gone_hand, committed}
use Rattle.handoff_calls.proofs.handoffs.hand.Goals as goal

pub returns-in-Err-clause-did : goal.returns-in-Err-clause-did
returns-in-Err-clause-did g c =
    let b = c.in-Err.ensures.did in (
      b.0 ∷ [],
      [],
      b.1,
      vault_none c.args.seats.now.vault,
      of_line_none c.args.call.now.line,
      gone_hand (channel_at c.args.front.now.collection c.args.channel) c.args.front.now.collection.nodes c.args.seats.now.front.number c.args.seats.now.vault.number c.args.call.now.line c.args.segment b.0 c.in-Err.why c.not_begun.result b.2 b.3 c.not_begun.ensures,
    )

pub returns-in_err-part-clause-did : goal.returns-in_err-part-clause-did
returns-in_err-part-clause-did g c =
    let b = c.begin.ensures.did in
    let s = c.store.ensures.did in (
      b.0 ∷ [],
      s.0 ∷ [],
      b.1,
      s.1,
      stores_of_line c.args.seats.now.vault.number c.args.call.now.line (names_of c.part.result.now) c.store.result s.0.notes s.4,
      if_err c.from_residual.result _ c.from_residual.ensures.0,
    )

pub returns-in_err-load-in-Kept-clause-did : goal.returns-in_err-load-in-Kept-clause-did
returns-in_err-load-in-Kept-clause-did g c =
    let b = c.begin.ensures.did in
    let s = c.store.ensures.did in
    let l = c.load.ensures.did in (
      b.0 ∷ l.0 ∷ [],
      s.0 ∷ [],
      did_on c.args.seats.now.front c.begin.new.seat c.load.new.seat (b.0 ∷ []) (l.0 ∷ []) b.1 l.1,
      s.1,
      stores_of_line c.args.seats.now.vault.number c.args.call.now.line (names_of c.part.result.now) c.store.result s.0.notes s.4,
      if_err c.from_residual-in_err-load-in-Kept.result _ c.from_residual-in_err-load-in-Kept.ensures.0,
    )

pub returns-in_ok-load-in-Kept-clause-did : goal.returns-in_ok-load-in-Kept-clause-did
returns-in_ok-load-in-Kept-clause-did g c =
    let channel : Channel = channel_at c.args.front.now.collection c.args.channel in
    let nodes : ℕ = c.args.front.now.collection.nodes in
    let by : ℕ = c.args.seats.now.front.number in
    let keeps : ℕ = c.args.seats.now.vault.number in
    let line : ℕ = c.args.call.now.line in
    let moving : BegunMove = c.in-Ok.moving in
    let b = c.in-Ok.ensures.did in
    let s = c.in_ok-part.ensures.did in
    let l = c.in_ok-load-in-Kept.ensures.did in
    let told : Stores keeps line (names_of c.part.result.now) (Ok (stored.Kept c.in-Kept.part)) s.0.notes = subst (λ (x : Stored). Stores keeps line (names_of c.part.result.now) (Ok x) s.0.notes) c.in-Kept.is s.4 in
    let kept : s.0.notes ≡ kept_notes keeps line (names_of moving.part) = told ∙ ap (λ (p : SegmentPart). kept_notes keeps line (names_of p)) c.part.ensures in (
      b.0 ∷ l.0 ∷ [],
      s.0 ∷ [],
      did_on c.args.seats.now.front c.begin.new.seat c.load.new.seat (b.0 ∷ []) (l.0 ∷ []) b.1 l.1,
      s.1,
      stores_of_line keeps line (names_of c.part.result.now) (Ok c.in_ok-part.field-0) s.0.notes s.4,
      (
        Moved b.0 moving s.0 l.0,
        refl,
        refl,
        refl,
        (
          record { turn = b.2; begins = b.3 },
          record { slot = s.2; undrawn = s.3; kept = kept },
          committed channel nodes by c.begin.new.seat.number keeps line c.args.segment moving.part.sealed.number l.0 c.begin.ensures.spends.number b.3.segment_is l.2 l.3 l.4,
        ),
      ),
    )

pub returns-in-Failed-clause-did : goal.returns-in-Failed-clause-did
returns-in-Failed-clause-did g c =
    let keeps : ℕ = c.args.seats.now.vault.number in
    let line : ℕ = c.args.call.now.line in
    let moving : BegunMove = c.in-Ok.moving in
    let b = c.in-Ok.ensures.did in
    let s = c.in_ok-part.ensures.did in
    let told : Stores keeps line (names_of c.part.result.now) (Ok stored.Failed) s.0.notes = subst (λ (x : Stored). Stores keeps line (names_of c.part.result.now) (Ok x) s.0.notes) c.in-Failed.is s.4 in
    let left : IsLeft keeps line (names_of moving.part) s.0.notes = subst (λ (p : SegmentPart). IsLeft keeps line (names_of p) s.0.notes) c.part.ensures told in (
      b.0 ∷ [],
      s.0 ∷ [],
      b.1,
      s.1,
      stores_of_line keeps line (names_of c.part.result.now) (Ok c.in_ok-part.field-0) s.0.notes s.4,
      (Left b.0 moving s.0, refl, refl, refl, (record { turn = b.2; begins = b.3 }, record { slot = s.2; undrawn = s.3; left = left })),
    )
