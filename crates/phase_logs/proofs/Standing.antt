-- Where the notes of a line stand in the journals at the end.
use Rattle.std.proofs.Common.{◌≡◌, ℕ, List, [], ◌∷◌, ◌++◌, inl, refl, sym, ap, subst, ◌∙◌, append_assoc}
use Rattle.turn_facts.specs.Prefixes.{StartsWith}
use Rattle.turn_table.specs.Knowledge.{at_slot}
use Rattle.seat_walks.specs.Walks.{Turned}
use Rattle.journal_model.specs.declared.notes.Note.{Note}
use Rattle.journal_model.specs.Lists.{IsIn}
use Rattle.journal_model.proofs.ListLaws.{in_right}
use Rattle.phase_order.proofs.Lines.{Settled}

-- a note that stands in a journal that has grown: what was before it goes on from the old journal
pub record Stood (old new : List Note) (before : List Note) (note : Note) : Type 0 where
  pub rest : List Note
  pub is : new ≡ before ++ note ∷ rest
  pub older : StartsWith before old

-- the one note of a turn
pub stood : (old new : List (List Note)) (t : Turned Note) (k : ℕ) (note : Note) → Settled old new t → t.slot ≡ k → t.notes ≡ note ∷ [] → Stood (at_slot old k) (at_slot new k) t.before note
stood old new t k note s home noted =
    subst (λ (j : ℕ). Stood (at_slot old j) (at_slot new j) t.before note) home record {
      rest = s.stands.rest;
      is = s.stands.is ∙ ap (λ (l : List Note). (t.before ++ l) ++ s.stands.rest) noted ∙ append_assoc t.before (note ∷ []) s.stands.rest;
      older = s.older;
    }

cancel : {A : Type 0} (l m n : List A) → l ++ m ≡ l ++ n → m ≡ n
cancel [] m n e = e
cancel (x ∷ l) m n e = cancel l m n (let q : l ++ m ≡ l ++ n = cc in q)

-- it stands in what the journal grew by
pub stood_new : (old new before : List Note) (note : Note) (grown : StartsWith new old) (s : Stood old new before note) → grown.rest ≡ s.older.rest ++ note ∷ s.rest
stood_new old new before note grown s =
    cancel old grown.rest (s.older.rest ++ note ∷ s.rest)
    (sym grown.is ∙ s.is ∙ ap (λ (l : List Note). l ++ note ∷ s.rest) s.older.is ∙ append_assoc old s.older.rest (note ∷ s.rest))

pub stood_in : (old new before : List Note) (note : Note) (grown : StartsWith new old) → Stood old new before note → IsIn note grown.rest
stood_in old new before note grown s =
    subst (IsIn note) (sym (stood_new old new before note grown s)) (in_right note s.older.rest (note ∷ s.rest) (inl refl))
