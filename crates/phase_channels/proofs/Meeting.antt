-- A meet of channels at rest.
use Rattle.std.proofs.Common.{◌≡◌, ℕ, ◌+◌, ◌<◌, ◌≤◌, true, Option, Some, None, List, [], ◌∷◌, length, map, refl, ap, sym, ◌∙◌, subst, arith, ltb-true, lt-ltb}
use Rattle.coarse_lists.specs.declared.collections.Collection.{Collection}
use Rattle.hybrid_time.specs.declared.times.Timestamp.{Timestamp}
use Rattle.answer_lines.specs.declared.answers.MeetReply.{MeetReply}
use Rattle.journal_model.specs.declared.notes.Note.{Note}
use Rattle.journal_model.specs.Notes.{ts_of}
use Rattle.journal_model.specs.Journals.{is_below, AreBelow}
use Rattle.turn_facts.specs.Prefixes.{IsAt}
use Rattle.shard_core.specs.Shards.{ChannelShard, base_of}
use Rattle.shard_calls.specs.Fronts.{notes_of, AreBases}
use Rattle.phase_model.specs.Rests.{Rest, AreJournals}
use Rattle.phase_model.specs.Meets.{Meets}
use Rattle.phase_run.specs.Meets.{met_rest}
use Rattle.phase_channels.specs.declared.channels.Channels.{Channels}
use Rattle.phase_channels.specs.Rests.{collection_in, AreAtRest}
use Rattle.phase_channels.specs.Steps.{HaveMet}
use Rattle.phase_channels.proofs.Running.{shard_below}

below_later : (clock ts : ℕ) (o : Option ℕ) → clock ≤ ts → is_below o (Some clock) ≡ true → is_below o (Some ts) ≡ true
below_later clock ts None later below = refl
below_later clock ts (Some s) later below = let low : s < clock = ltb-true s clock below in lt-ltb s ts (omega arith)

all_later : (clock ts : ℕ) (notes : List Note) → clock ≤ ts → AreBelow clock notes → AreBelow ts notes
all_later clock ts [] later below = tt
all_later clock ts (note ∷ notes) later below = (below_later clock ts (ts_of note.kind) later below.0, all_later clock ts notes later below.1)

module _ (rest : Rest) (channels : Channels) (journals : AreJournals (collection_in channels) rest) (at_rest : AreAtRest rest channels) (ts : ℕ) (later : channels.clock ≤ ts) where
  -- the number of the meet is above all timestamps
  pub above_all : (k : ℕ) (x : ChannelShard) → IsAt channels.shards.items k x → AreBelow ts x.state.notes
  above_all k x at = all_later channels.clock ts x.state.notes later (shard_below rest channels journals at_rest k x at)

  pub have_met : (least : ℕ) (after : Channels) (reply : MeetReply) → collection_in after ≡ collection_in channels → after.clock ≡ ts + 1 → after.mine.items ≡ channels.mine.items
      → AreBases (collection_in channels) ts (map base_of after.shards.items) → Meets (collection_in channels) least rest (met_rest rest ts (map notes_of after.shards.items)) reply → HaveMet least rest channels after reply
  have_met least after reply of clock mine bases meets = record {
    new = met_rest rest ts (map notes_of after.shards.items);
    meets = meets;
    rest = record {
      bases = subst (λ (c : Collection). AreBases c ts (map base_of after.shards.items)) (sym of) bases;
      journals = refl;
      clock = sym clock;
      many = ap length mine ∙ at_rest.many;
      mine = λ caller stamp at. at_rest.mine caller stamp (subst (λ (l : List Timestamp). IsAt l caller stamp) mine at);
    };
    same = of;
  }
