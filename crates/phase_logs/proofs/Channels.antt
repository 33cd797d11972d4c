-- The logs of the channels, one behind another.
use Rattle.std.proofs.Common.{◌≡◌, ◌≢◌, ℕ, ℤ, zero, suc, ◌+◌, ◌<◌, List, [], ◌∷◌, ◌++◌, length, map, refl, sym, ap, subst, ◌∙◌, append-nil, arith}
use Rattle.std.specs.List.{AllByRecursion as Each}
use Rattle.std.specs.Ordering.{int_eq}
use Rattle.std.proofs.lemmas.Bool.{false_from_ne_true}
use Rattle.std.proofs.lemmas.Bool.Decides.{Decides-int_eq}
use Rattle.std.proofs.lemmas.List.Elements.{filter-append}
use Rattle.turn_table.specs.Knowledge.{at_slot}
use Rattle.log_model.specs.declared.logs.Entry.{Entry}
use Rattle.log_model.specs.Logs.{key_of, IsLog}
use Rattle.log_model.proofs.LogLaws.{each_implied, filter-none}
use Rattle.coarse_lists.specs.declared.collections.Collection.{Collection}
use Rattle.legal_output.specs.Lines.{channel_of}
use Rattle.legal_output.specs.Phases.{IsWhole}
use Rattle.journal_model.specs.declared.notes.Note.{Note}
use Rattle.journal_model.specs.Notes.{log_of}
use Rattle.journal_model.specs.Lists.{joined}
use Rattle.journal_model.proofs.FollowLaws.{journal_log}
use Rattle.view_laws.specs.Wholes.{of_key, IsOfChannel, AreOfChannelsFrom, AreOfChannels, whole}
use Rattle.view_laws.proofs.Wholes.{whole_of_key}
use Rattle.phase_model.specs.Rests.{Rest, AreJournals}
use Rattle.phase_order.proofs.Slots.{slot_past, all_journals}

-- the log of each journal
abbrev pub logs_of : List (List Note) → List (List Entry)
logs_of journals = map log_of journals

module _ (home : ℤ → ℕ) where
  pub of_channels : (first : ℕ) (journals : List (List Note)) → ((i : ℕ) → i < length journals → IsOfChannel home (first + i) (log_of (at_slot journals i))) → AreOfChannelsFrom home first (logs_of journals)
  of_channels first [] f = tt
  of_channels first (notes ∷ journals) f = (
    subst (λ (k : ℕ). IsOfChannel home k (log_of notes)) (let e : first + 0 ≡ first = omega arith in e) (f 0 (omega arith)),
    of_channels (first + 1) journals (λ i below. subst (λ (k : ℕ). IsOfChannel home k (log_of (at_slot journals i))) (let e : first + suc i ≡ (first + 1) + i = omega arith in e) (f (suc i) (omega arith))),
  )

  module _ (key : ℤ) where
    none_here : (k : ℕ) (log : List Entry) → home key ≢ k → IsOfChannel home k log → of_key key log ≡ []
    none_here k log ne of_these =
        filter-none (λ entry. int_eq key (key_of entry.write)) log
        (each_implied _ _ (λ entry e. false_from_ne_true (int_eq key (key_of entry.write)) (λ t. ne (ap home ((Decides-int_eq key (key_of entry.write)).0 t) ∙ e))) log of_these)

    none_behind : (first : ℕ) (logs : List (List Entry)) → home key < first → AreOfChannelsFrom home first logs → of_key key (joined logs) ≡ []
    none_behind first [] low of_these = refl
    none_behind first (log ∷ logs) low of_these =
        filter-append (λ entry. int_eq key (key_of entry.write)) log (joined logs)
        ∙ ap (λ (l : List Entry). l ++ of_key key (joined logs)) (none_here first log (λ e. omega arith) of_these.0)
        ∙ none_behind (first + 1) logs (omega arith) of_these.1

    -- the entries of a key are those of its channel's log
    pub of_key-joined : (first d : ℕ) (journals : List (List Note)) → home key ≡ first + d → AreOfChannelsFrom home first (logs_of journals) → of_key key (joined (logs_of journals)) ≡ of_key key (log_of (at_slot journals d))
    of_key-joined first d [] is of_these = ap (λ (l : List Note). of_key key (log_of l)) (sym (slot_past [] d (omega arith)))
    of_key-joined first zero (notes ∷ journals) is of_these =
        filter-append (λ entry. int_eq key (key_of entry.write)) (log_of notes) (joined (logs_of journals))
        ∙ ap (λ (l : List Entry). of_key key (log_of notes) ++ l) (none_behind (first + 1) (logs_of journals) (omega arith) of_these.1)
        ∙ append-nil (of_key key (log_of notes))
    of_key-joined first (suc d) (notes ∷ journals) is of_these =
        filter-append (λ entry. int_eq key (key_of entry.write)) (log_of notes) (joined (logs_of journals))
        ∙ ap (λ (l : List Entry). l ++ of_key key (joined (logs_of journals))) (none_here first (log_of notes) (λ e. omega arith) of_these.0)
        ∙ of_key-joined (first + 1) d journals (omega arith) of_these.1

pub logs_each : (journals : List (List Note)) → ((i : ℕ) → i < length journals → IsLog (log_of (at_slot journals i))) → Each IsLog (logs_of journals)
logs_each [] f = tt
logs_each (notes ∷ journals) f = (f 0 (omega arith), logs_each journals (λ i below. f (suc i) (omega arith)))

module _ (collection : Collection) (rest : Rest) (are : AreJournals collection rest) where
  pub rest_of_channels : AreOfChannels (channel_of collection.channels) (logs_of rest.journals)
  rest_of_channels = of_channels (channel_of collection.channels) 0 rest.journals (λ i below.
      subst (λ (k : ℕ). IsOfChannel (channel_of collection.channels) k (log_of (at_slot rest.journals i))) (let e : i ≡ 0 + i = omega arith in e)
      (are.each i (let n : length rest.journals ≡ collection.channels = are.many in omega arith)).kept.keys)

  pub rest_logs : Each IsLog (logs_of rest.journals)
  rest_logs = logs_each rest.journals (λ i below. journal_log (at_slot rest.journals i) (all_journals collection rest are i))

  -- the logs one behind another have the entries of each key as its channel has them, and so has their whole
  pub joined_whole : IsWhole collection.channels (λ k. log_of (at_slot rest.journals k)) (joined (logs_of rest.journals))
  joined_whole key = of_key-joined (channel_of collection.channels) key 0 (channel_of collection.channels key) rest.journals (let e : channel_of collection.channels key ≡ 0 + channel_of collection.channels key = omega arith in e) rest_of_channels

  pub whole_whole : IsWhole collection.channels (λ k. log_of (at_slot rest.journals k)) (whole (logs_of rest.journals))
  whole_whole key = whole_of_key (channel_of collection.channels) key (logs_of rest.journals) rest_of_channels rest_logs ∙ joined_whole key
