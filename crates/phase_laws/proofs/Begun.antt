-- A new collection.
use Rattle.std.proofs.Common.{◌≡◌, ℕ, zero, suc, ◌≤◌, List, [], length, replicate, refl, sym, ap, subst, arith}
use Rattle.turn_table.specs.Knowledge.{at_slot}
use Rattle.coarse_lists.specs.declared.collections.Collection.{Collection}
use Rattle.legal_output.specs.Phases.{Begins, of_key}
use Rattle.legal_output.specs.Outputs.{start_of}
use Rattle.legal_output.specs.Lines.{channel_of}
use Rattle.journal_model.specs.declared.notes.Note.{Note}
use Rattle.journal_model.specs.Notes.{log_of}
use Rattle.journal_model.proofs.PlaceLaws.{start_sound}
use Rattle.call_model.specs.Calls.{channel_at}
use Rattle.phase_model.specs.Rests.{IsChannel, AreJournals, new_rest}
use Rattle.phase_logs.specs.Events.{events_in}
use Rattle.phase_laws.specs.Runs.{running_of, HasRun}

empty_slot : (n k : ℕ) → at_slot {N = Note} (replicate n []) k ≡ []
empty_slot zero k = refl
empty_slot (suc n) zero = refl
empty_slot (suc n) (suc k) = empty_slot n k

long_slots : (n : ℕ) → length {A = List Note} (replicate n []) ≡ n
long_slots zero = refl
long_slots (suc n) = ap suc (long_slots n)

module _ (collection : Collection) (clock : ℕ) (one : 1 ≤ clock) where
  empty_at : (k : ℕ) → at_slot (new_rest collection clock).journals k ≡ []
  empty_at k = empty_slot collection.channels k

  empty_channel : (k : ℕ) → IsChannel collection (new_rest collection clock) k []
  empty_channel k = record { kept = record { sound = start_sound (channel_at collection k); keys = tt }; below = tt; ticked = omega arith }

  new_journals : AreJournals collection (new_rest collection clock)
  new_journals = record {
    many = long_slots collection.channels;
    each = λ k below. subst (IsChannel collection (new_rest collection clock) k) (sym (empty_at k)) (empty_channel k);
    met = omega arith;
    mine = λ caller. omega arith;
  }

  new_begins : Begins (start_of collection) (running_of (new_rest collection clock))
  new_begins = record {
    m0 = omega arith;
    met = refl;
    written = λ caller. refl;
    whole = λ key. ap (λ (notes : List Note). of_key key (log_of notes)) (sym (empty_at (channel_of collection.channels key)));
    events = λ k. ap events_in (empty_at k);
    failures = refl;
  }

  pub new_run : (least : ℕ) → HasRun collection least [] (new_rest collection clock)
  new_run least = record { first = running_of (new_rest collection clock); begins = new_begins; run = refl; journals = new_journals; timely = tt }
