-- A write whose row may be shared.
use Rattle.std.proofs.Common.{◌≡◌, ℕ, ℤ, Bool, true, false, refl, ap, sym, subst, ◌∙◌, Some, Ok, Err}
use Rattle.std.specs.Prelude.{IfOk, IsOkAnd}
use Rattle.std.specs.declared.result.Result.{Result}
use Rattle.row_types.specs.declared.rows.Row.{Row}
use Rattle.hybrid_time.specs.declared.times.Timestamp.{Timestamp}
use Rattle.coarse_lists.specs.declared.collections.Collection.{Collection}
use Rattle.coarse_lists.specs.Collections.{IsRowOf}
use Rattle.log_model.specs.declared.logs.Write.{Write}
use Rattle.log_model.specs.declared.logs.Write.TheVariants as writes
use Rattle.log_model.specs.Logs.{key_of}
use Rattle.answer_lines.specs.declared.answers.Wrote.{Wrote}
use Rattle.legal_output.specs.Legal.{told_of}
use Rattle.request_lines.specs.Requests.{FitsWrite}
use Rattle.journal_model.specs.declared.notes.PutKind.{PutKind}
use Rattle.journal_model.specs.declared.notes.PutKind.TheVariants.{Insert, Upsert}
use Rattle.journal_model.specs.declared.notes.Kind.{Kind}
use Rattle.journal_model.specs.declared.notes.Kind.TheVariants.{Put}
use Rattle.journal_model.specs.Notes.{put_write, ts_of}
use Rattle.shard_core.specs.Keys.{channel_of}
use Rattle.shard_core.specs.Shards.{ChannelBase, put_reply}
use Rattle.call_model.specs.Turns.{kind_of}
use Rattle.shard_calls.specs.declared.writes.Change.{Change}
use Rattle.shard_calls.specs.Fronts.{FrontView, base_at}
use Rattle.shard_calls.specs.Under.{written, FitsIn, put_told}

-- the note of a write is at its timestamp
pub kind_time : (ts : Timestamp) (write : Write) → ts_of (kind_of ts write) ≡ Some ts.0
kind_time ts (writes.Insert row) = refl
kind_time ts (writes.Upsert row) = refl
kind_time ts (writes.Delete key) = refl

module _ {E : Type 0} where
  -- the write that was prepared fits the base of its channel
  pub prepared_fits : (front : FrontView) (write : Write) (base : ChannelBase) (k : ℕ) (change : Result Change E) → IfOk change (λ c. written c ≡ write) → FitsWrite front.collection write → base ≡ base_at front.collection front.floor k → k ≡ channel_of front.collection.channels (key_of write) → IfOk change (FitsIn base)
  prepared_fits front write base k (Ok c) is fits at place =
      let there : FitsIn (base_at front.collection front.floor k) c = record {
        write = subst (FitsWrite front.collection) (sym is) fits;
        key = ap (λ (w : Write). channel_of front.collection.channels (key_of w)) is ∙ sym place;
      } in
      subst (λ (b : ChannelBase). FitsIn b c) (sym at) there
  prepared_fits front write base k (Err e) is fits at place = tt

  -- a change that was prepared is the write that was asked for
  pub prepared_write : (change : Result Change E) (write : Write) (P : Write → Type 0) → IfOk change (λ c. written c ≡ write) → IsOkAnd change (λ c. P (written c)) → P write
  prepared_write (Ok c) write P is p = subst P is p
  prepared_write (Err e) write P is p = absurd p
