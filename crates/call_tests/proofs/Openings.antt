-- Two empty channels are all channels of a collection that has two.
use Rattle.std.proofs.Common.{◌≡◌, ℕ, zero, suc, ◌<◌, List, [], ◌∷◌, map, length, refl, ap, ap₂, sym, ◌∙◌, subst, arith}
use mathlib.Core.Option.{some-injective, some-ne-none}
use Rattle.turn_facts.specs.Counts.{count, Among}
use Rattle.turn_facts.specs.Notes.{times}
use Rattle.turn_facts.specs.Prefixes.{IsAt}
use Rattle.turn_facts.proofs.Counts.{count-nil}
use Rattle.turn_facts.proofs.Notes.{times-nil}
use Rattle.coarse_lists.specs.declared.collections.Collection.{Collection}
use Rattle.coarse_lists.specs.Collections.{IsInRange}
use Rattle.journal_model.specs.declared.notes.Note.{Note}
use Rattle.journal_model.specs.Layouts.{Channel}
use Rattle.journal_model.specs.Runs.{State}
use Rattle.shard_core.specs.Shards.{ChannelShard, ChannelBase, base_of}
use Rattle.call_model.specs.Turns.{by_of, time_of}
use Rattle.shard_calls.specs.Fronts.{FrontView, IsFront, notes_of, base_at, AreShards}
use lib.ListN.{get_elem?}

-- the shard is that of the channel k, without notes
record IsEmptyShard (collection : Collection) (k : ℕ) (s : ChannelShard) : Type 0 where
  pub same : s.collection ≡ collection
  pub named : s.channel ≡ record { number = k; seal_rows = collection.seal_rows }
  pub empty : s.state ≡ record { notes = []; floor = 0 }

base_is : (collection : Collection) (k : ℕ) (s : ChannelShard) → IsEmptyShard collection k s → base_of s ≡ base_at collection 0 k
base_is collection k s e =
    let made : Channel → Collection → ℕ → ChannelBase = λ c d f. record { channel = c; collection = d; floor = f } in
    let at_floor : s.state.floor ≡ 0 = ap (λ (st : State). st.floor) e.empty in
    ap (λ (c : Channel). made c s.collection s.state.floor) e.named ∙ ap₂ (made (record { number = k; seal_rows = collection.seal_rows })) e.same at_floor

each_base : (collection : Collection) (u v : ChannelBase) (k : ℕ) (x : ChannelBase) → IsAt (u ∷ v ∷ []) k x → u ≡ base_at collection 0 0 → v ≡ base_at collection 0 1 → x ≡ base_at collection 0 k
each_base collection u v zero x at p q = sym (some-injective u x at) ∙ p
each_base collection u v (suc zero) x at p q = sym (some-injective v x at) ∙ q
each_base collection u v (suc (suc k)) x at p q = absurd (some-ne-none x (sym at))

pub two_shards : (collection : Collection) (a b : ChannelShard) (xs : List ChannelShard) → xs ≡ a ∷ b ∷ [] → IsInRange collection → collection.channels ≡ 2
    → a.collection ≡ collection → a.channel ≡ record { number = 0; seal_rows = collection.seal_rows } → a.state ≡ record { notes = []; floor = 0 }
    → b.collection ≡ collection → b.channel ≡ record { number = 1; seal_rows = collection.seal_rows } → b.state ≡ record { notes = []; floor = 0 } → AreShards xs
two_shards collection a b xs e range two a_of a_named a_rests b_of b_named b_rests =
    let first : base_of a ≡ base_at collection 0 0 = base_is collection 0 a record { same = a_of; named = a_named; empty = a_rests } in
    let second : base_of b ≡ base_at collection 0 1 = base_is collection 1 b record { same = b_of; named = b_named; empty = b_rests } in
    subst AreShards (sym e) record {
      collection = collection;
      floor = 0;
      bases = record { range = range; many = sym two; each = λ k x at. each_base collection (base_of a) (base_of b) k x at first second };
    }

none_there : (s : ChannelShard) (t : ℕ) → s.state ≡ record { notes = []; floor = 0 } → Among t (times time_of s.state.notes) → ⊥
none_there s t e a =
    let p : count t (times time_of s.state.notes) ≡ count t [] = ap (λ (st : State). count t (times time_of st.notes)) e ∙ ap (count t) (times-nil by_of time_of) in
    let z : count t [] ≡ 0 = count-nil t in
    omega arith

each_of_two : (a b : ChannelShard) (k : ℕ) (x : ChannelShard) → IsAt (a ∷ b ∷ []) k x → a.state ≡ record { notes = []; floor = 0 } → b.state ≡ record { notes = []; floor = 0 } → x.state ≡ record { notes = []; floor = 0 }
each_of_two a b zero x at p q = ap (λ (s : ChannelShard). s.state) (sym (some-injective a x at)) ∙ p
each_of_two a b (suc zero) x at p q = ap (λ (s : ChannelShard). s.state) (sym (some-injective b x at)) ∙ q
each_of_two a b (suc (suc k)) x at p q = absurd (some-ne-none x (sym at))

pub two_empty : (a b : ChannelShard) (xs : List ChannelShard) → xs ≡ a ∷ b ∷ [] → a.state ≡ record { notes = []; floor = 0 } → b.state ≡ record { notes = []; floor = 0 } → (k : ℕ) (x : ChannelShard) (t : ℕ) → IsAt xs k x → Among t (times time_of x.state.notes) → t < 1
two_empty a b xs e p q k x t at among = absurd (none_there x t (each_of_two a b k x (subst (λ (l : List ChannelShard). IsAt l k x) e at) p q) among)

-- the collection of a front is that of its shards
pub front_collection : (front : FrontView) (a b : ChannelShard) (shards : List ChannelShard) → IsFront front → front.table.bases ≡ map base_of shards → shards ≡ a ∷ b ∷ [] → front.collection ≡ a.collection
front_collection front a b shards f bases is =
    let at : front.table.bases ≡ base_of a ∷ base_of b ∷ [] = bases ∙ ap (map base_of) is in
    let first : base_of a ≡ base_at front.collection front.floor 0 = f.bases.each 0 (base_of a) (ap (λ (l : List ChannelBase). get_elem? l 0) at) in
    sym (ap (λ (b : ChannelBase). b.collection) first)
