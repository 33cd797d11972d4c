-- What shards keep of their journals, as a phase asks it.
use Rattle.std.proofs.Common.{◌≡◌, ⊎_elim, ℕ, ◌+◌, ◌<◌, ◌≤◌, List, [], length, map, get_or, All, ap, sym, ◌∙◌, subst, arith}
use Rattle.std.proofs.lemmas.Bool.{cases_lt}
use Rattle.std.proofs.lemmas.List.{length-map}
use Rattle.coarse_lists.specs.declared.collections.Collection.{Collection}
use Rattle.legal_output.specs.Lines.{Line}
use Rattle.journal_model.specs.declared.notes.Note.{Note}
use Rattle.journal_model.specs.Layouts.{Channel}
use Rattle.journal_model.specs.Notes.{log_of}
use Rattle.journal_model.specs.Runs.{IsSound}
use Rattle.view_laws.specs.Wholes.{IsOfChannel}
use Rattle.turn_facts.specs.Prefixes.{IsAt}
use Rattle.turn_facts.proofs.Places.{at_get, at_below, at_some, at_map}
use Rattle.turn_table.specs.Knowledge.{at_slot}
use Rattle.shard_core.specs.Keys.{channel_of, AreKeysIn}
use Rattle.shard_core.specs.Shards.{ChannelShard, ChannelBase, base_of}
use Rattle.call_model.specs.Calls.{channel_at}
use Rattle.shard_calls.specs.Fronts.{notes_of, base_at, AreBases}
use Rattle.phase_model.specs.Rests.{Rest, IsKept, AreKept}
use Rattle.phase_run.specs.Phases.{ran_rest, KeepsJournal}
use Rattle.phase_run.proofs.Meeting.{log_home}

-- one shard more, at the place i
pub keeps_more : (shards : List ChannelShard) (i : ℕ) (x : ChannelShard) → i < length shards → x ≡ get_or shards i x → KeepsJournal x → ((k : ℕ) (d : ChannelShard) → k < i → KeepsJournal (get_or shards k d)) → (k : ℕ) (d : ChannelShard) → k < i + 1 → KeepsJournal (get_or shards k d)
keeps_more shards i x low is keeps before k d below =
    let p = at_some shards i low in
    ⊎_elim (λ (h : k < i). before k d h)
    (λ (h : i ≤ k). let same : i ≡ k = omega arith in
    subst (λ (n : ℕ). KeepsJournal (get_or shards n d)) same (subst KeepsJournal (is ∙ at_get shards i p.0 x p.1 ∙ sym (at_get shards i p.0 d p.1)) keeps))
    (cases_lt k i)

module _ (collection : Collection) (floor : ℕ) (shards : List ChannelShard) (bases : AreBases collection floor (map base_of shards)) (keeps : All KeepsJournal shards) where
  kept_at : (k : ℕ) (x : ChannelShard) → IsAt shards k x → IsKept collection floor k x.state.notes
  kept_at k x at =
      let base : base_of x ≡ base_at collection floor k = bases.each k (base_of x) (at_map base_of shards k x at) in
      let channel : x.channel ≡ channel_at collection k = ap (λ (b : ChannelBase). b.channel) base in
      let of : x.collection ≡ collection = ap (λ (b : ChannelBase). b.collection) base in
      let low : x.state.floor ≡ floor = ap (λ (b : ChannelBase). b.floor) base in
      let t : KeepsJournal x = subst KeepsJournal (at_get shards k x x at) (keeps k x (at_below shards k x at)) in
      record {
        sound = subst (λ (n : ℕ). IsSound (channel_at collection k) (record { notes = x.state.notes; floor = n })) low (subst (λ (c : Channel). IsSound c x.state) channel t.sound);
        keys = log_home collection.channels k x.state.notes
            (subst (λ (c : Channel). AreKeysIn collection.channels c.number x.state.notes) channel (subst (λ (d : Collection). AreKeysIn d.channels x.channel.number x.state.notes) of t.keys));
      }

  kept : (k : ℕ) → k < collection.channels → IsKept collection floor k (at_slot (map notes_of shards) k)
  kept k below =
      let many : length (map base_of shards) ≡ collection.channels = bases.many in
      let long : length (map base_of shards) ≡ length shards = length-map shards base_of in
      let p = at_some shards k (omega arith) in
      let notes : at_slot (map notes_of shards) k ≡ p.0.state.notes = at_get (map notes_of shards) k (notes_of p.0) [] (at_map notes_of shards k p.0 p.1) in
      subst (λ (l : List Note). IsKept collection floor k l) (sym notes) (kept_at k p.0 p.1)

  -- where the floor is that of the shards
  pub rest_kept : (old : Rest) (clock : ℕ) (block : List Line) → old.floor ≡ floor → AreKept collection (ran_rest old clock (map notes_of shards) block)
  rest_kept old clock block same k below = subst (λ (n : ℕ). IsKept collection n k (at_slot (map notes_of shards) k)) (sym same) (kept k below)
