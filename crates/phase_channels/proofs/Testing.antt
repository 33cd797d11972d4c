-- What the tests know of channels and of lines.
use Rattle.std.proofs.Common.{◌≡◌, ℕ, ◌+◌, ◌++◌, List, length, map, ap, sym, subst, arith}
use Rattle.std.specs.List.{AllByRecursion as Each}
use Rattle.std.proofs.lemmas.List.{length-map}
use Rattle.coarse_lists.specs.declared.collections.Collection.{Collection}
use Rattle.shard_core.specs.Shards.{ChannelBase}
use Rattle.phase_model.specs.Rests.{Rest, AreJournals, new_rest}
use Rattle.phase_order.proofs.Kept.{phase_journals}
use Rattle.phase_laws.proofs.Begun.{new_run}
use Rattle.phase_lines.specs.declared.lines.PhaseLines.{PhaseLines}
use Rattle.phase_lines.specs.Waiting.{Read, slot_of, AreHeld}
use Rattle.phase_channels.specs.declared.channels.Channels.{Channels}
use Rattle.phase_channels.specs.Rests.{collection_in, AreAtRest}
use Rattle.phase_channels.specs.Steps.{FitsRead, CanRunLines, HasRunPhase}

-- the number of the next line
pub held_next : (first : ℕ) (reads : List Read) (lines : PhaseLines) → AreHeld first reads lines → lines.first + length lines.slots.items ≡ first + length reads
held_next first reads lines held =
    let is : lines.first ≡ first = held.first_is in
    let slots : length lines.slots.items ≡ length (map slot_of reads) = ap length held.slots in
    let long : length (map slot_of reads) ≡ length reads = length-map reads slot_of in omega arith

module _ (collection : Collection) (channels : Channels) (at_rest : AreAtRest (new_rest collection 1) channels) (same : collection_in channels ≡ collection) where
  journals : AreJournals (collection_in channels) (new_rest collection 1)
  journals = subst (λ (c : Collection). AreJournals c (new_rest collection 1)) (sym same) (new_run collection 1 (omega arith) 0).journals

  -- a new collection may meet
  pub new_known : (rest : Rest) × AreJournals (collection_in channels) rest × AreAtRest rest channels
  new_known = (new_rest collection 1, journals, at_rest)

  -- and run lines
  pub can_run : (lines : PhaseLines) (reads : List Read) → AreHeld 2 reads lines → Each (FitsRead (collection_in channels)) reads → length reads ≡ 4 → CanRunLines (new_rest collection 1) 2 reads channels lines
  can_run lines reads held fit four = record { journals = journals; at_rest = at_rest; held = held; fit = fit; few = omega arith }

  -- behind a phase they may meet
  pub ran_known : (least : ℕ) (lines : PhaseLines) (reads : List Read) → CanRunLines (new_rest collection 1) 2 reads channels lines → (after : Channels) (text text' : List ℕ)
      → ((rest : Rest) (first : ℕ) (reads : List Read) → CanRunLines rest first reads channels lines → (written : List ℕ) × (text' ≡ text ++ written) × HasRunPhase least first reads rest channels after written)
      → (rest : Rest) × AreJournals (collection_in after) rest × AreAtRest rest after
  ran_known least lines reads can after text text' ran =
      let has = (ran (new_rest collection 1) 2 reads can).2 in (
        has.new,
        subst (λ (c : Collection). AreJournals c has.new) (sym has.same) (phase_journals ChannelBase (collection_in channels) least (new_rest collection 1) has.new has.block journals has.phase),
        has.rest,
      )
