-- The channels of a new collection.
use Rattle.std.proofs.Common.{◌≡◌, ℕ, zero, suc, ◌+◌, List, [], ◌∷◌, ◌++◌, length, map, replicate, refl, ap, sym, ◌∙◌, subst, arith, ⊎_elim, length-append}
use Rattle.std.proofs.lemmas.List.{length-map, length-replicate}
use mathlib.Core.Option.{some-injective, some-ne-none}
use Rattle.coarse_lists.specs.declared.collections.Collection.{Collection}
use Rattle.coarse_lists.specs.Collections.{IsInRange}
use Rattle.journal_model.specs.Runs.{State}
use Rattle.turn_facts.specs.Prefixes.{IsAt}
use Rattle.turn_facts.proofs.Places.{at_map_back, at_more, same_lists}
use Rattle.shard_core.specs.Shards.{ChannelShard, base_of}
use Rattle.shard_calls.specs.Fronts.{notes_of, base_at, AreBases}

-- an element of equal ones is that one
pub replicate_at : {A : Type 0} (n : ℕ) (x : A) (k : ℕ) (y : A) → IsAt (replicate n x) k y → x ≡ y
replicate_at zero x k y at = absurd (some-ne-none y (sym at))
replicate_at (suc n) x zero y at = some-injective x y at
replicate_at (suc n) x (suc k) y at = replicate_at n x k y at

-- a shard without notes, of the channel k of the collection
pub record IsNewShard (collection : Collection) (k : ℕ) (shard : ChannelShard) : Type 0 where
  pub base : base_of shard ≡ base_at collection 0 k
  pub notes : notes_of shard ≡ []

-- the shards of the first channels
pub record AreNewShards (collection : Collection) (n : ℕ) (shards : List ChannelShard) : Type 0 where
  pub many : length shards ≡ n
  pub each : (k : ℕ) (shard : ChannelShard) → IsAt shards k shard → IsNewShard collection k shard

pub new_none : (collection : Collection) → AreNewShards collection 0 []
new_none collection = record { many = refl; each = λ k shard at. absurd (some-ne-none shard (sym at)) }

pub new_shard : (collection : Collection) (k : ℕ) (shard : ChannelShard) → shard.collection ≡ collection → shard.channel ≡ record { number = k; seal_rows = collection.seal_rows } → shard.state ≡ record { notes = []; floor = 0 } → IsNewShard collection k shard
new_shard collection k shard of channel state = record {
  base = λ i. record { channel = channel i; collection = of i; floor = (state i).floor };
  notes = ap (λ (s : State). s.notes) state;
}

pub new_more : (collection : Collection) (n : ℕ) (shards : List ChannelShard) (shard : ChannelShard) → AreNewShards collection n shards → IsNewShard collection n shard → AreNewShards collection (n + 1) (shards ++ shard ∷ [])
new_more collection n shards shard are new = record {
  many = let e : length (shards ++ shard ∷ []) ≡ length shards + 1 = length-append shards (shard ∷ []) in let m : length shards ≡ n = are.many in omega arith;
  each = λ k s at. ⊎_elim (λ (old : IsAt shards k s). are.each k s old)
      (λ (last : (shard ≡ s) × (k ≡ length shards)). subst (λ (j : ℕ). IsNewShard collection j s) (sym (last.1 ∙ are.many)) (subst (IsNewShard collection n) last.0 new))
      (at_more shards shard s k at);
}

module _ (collection : Collection) (shards : List ChannelShard) (are : AreNewShards collection collection.channels shards) where
  pub new_bases : IsInRange collection → AreBases collection 0 (map base_of shards)
  new_bases range = record {
    range = range;
    many = length-map shards base_of ∙ are.many;
    each = λ k b at. let s = at_map_back base_of shards k b at in sym s.2 ∙ (are.each k s.0 s.1).base;
  }

  pub new_journals : map notes_of shards ≡ replicate collection.channels []
  new_journals = same_lists (map notes_of shards) (replicate collection.channels [])
      (length-map shards notes_of ∙ are.many ∙ sym (length-replicate collection.channels []))
      (λ k a b at_a at_b. let s = at_map_back notes_of shards k a at_a in sym s.2 ∙ (are.each k s.0 s.1).notes ∙ replicate_at collection.channels [] k b at_b)
