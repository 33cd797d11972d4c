-- Two shards without notes. Only tests need it.
use Rattle.std.proofs.Common.{◌≡◌, ℕ, zero, suc, ◌+◌, ◌<◌, ◌≤◌, List, [], ◌∷◌, length, Some, refl, ap, sym, ◌∙◌, subst, arith}
use Rattle.std.specs.Prelude.{map}
use mathlib.Core.Option.{some-injective, some-ne-none}
use Rattle.turn_facts.specs.Counts.{count, Among}
use Rattle.turn_facts.specs.Notes.{times}
use Rattle.turn_facts.specs.Prefixes.{IsAt}
use Rattle.turn_facts.proofs.Counts.{count-nil}
use Rattle.coarse_lists.specs.declared.collections.Collection.{Collection}
use Rattle.coarse_lists.specs.Collections.{IsInRange}
use Rattle.journal_model.specs.declared.notes.Note.{Note}
use Rattle.journal_model.specs.Layouts.{Channel}
use Rattle.journal_model.specs.Runs.{State}
use Rattle.shard_core.specs.Shards.{ChannelShard, ChannelBase, base_of}
use Rattle.call_model.specs.Turns.{time_of}
use Rattle.shard_calls.specs.Fronts.{base_at, AreBases, AreShards}

-- a shard without notes of a channel of the collection
pub record IsEmpty (collection : Collection) (k : ℕ) (s : ChannelShard) : Type 0 where
  pub collection_is : s.collection ≡ collection
  pub channel_is : s.channel ≡ record { number = k; seal_rows = collection.seal_rows }
  pub state_is : s.state ≡ record { notes = []; floor = 0 }

empty_base : (collection : Collection) (k : ℕ) (s : ChannelShard) → IsEmpty collection k s → base_of s ≡ base_at collection 0 k
empty_base collection k s e =
    let one : s.collection ≡ collection = e.collection_is in
    let two : s.channel ≡ record { number = k; seal_rows = collection.seal_rows } = e.channel_is in
    let three : s.state.floor ≡ 0 = ap (λ (st : State). st.floor) e.state_is in
    cc

module _ (collection : Collection) (a b : ChannelShard) (first : IsEmpty collection 0 a) (second : IsEmpty collection 1 b) where
  each_base : (k : ℕ) (x : ChannelBase) → IsAt (base_of a ∷ base_of b ∷ []) k x → x ≡ base_at collection 0 k
  each_base zero x at = sym (some-injective (base_of a) x at) ∙ empty_base collection 0 a first
  each_base (suc zero) x at = sym (some-injective (base_of b) x at) ∙ empty_base collection 1 b second
  each_base (suc (suc k)) x at = absurd (some-ne-none x (sym at))

  pub two_shards : (shards : List ChannelShard) → shards ≡ a ∷ b ∷ [] → IsInRange collection → collection.channels ≡ 2 → AreShards shards
  two_shards shards is range two = subst AreShards (sym is) record { collection = collection; floor = 0; bases = record { range = range; many = sym two; each = each_base } }

  none_there : (s : ChannelShard) (t : ℕ) → s.state ≡ record { notes = []; floor = 0 } → Among t (times time_of s.state.notes) → ⊥
  unfolding times
  none_there s t e among =
      let z : count t [] ≡ 0 = count-nil t in
      let none : Among t (times time_of []) = subst (λ (st : State). Among t (times time_of st.notes)) e among in
      omega arith

  empty_at : (k : ℕ) (x : ChannelShard) → IsAt (a ∷ b ∷ []) k x → x.state ≡ record { notes = []; floor = 0 }
  empty_at zero x at = ap (λ (s : ChannelShard). s.state) (sym (some-injective a x at)) ∙ first.state_is
  empty_at (suc zero) x at = ap (λ (s : ChannelShard). s.state) (sym (some-injective b x at)) ∙ second.state_is
  empty_at (suc (suc k)) x at = absurd (some-ne-none x (sym at))

  pub above_none : (shards : List ChannelShard) → shards ≡ a ∷ b ∷ [] → (k : ℕ) (x : ChannelShard) (t : ℕ) → IsAt shards k x → Among t (times time_of x.state.notes) → t < 1
  above_none shards is k x t at among = absurd (none_there x t (empty_at k x (subst (λ (l : List ChannelShard). IsAt l k x) is at)) among)
