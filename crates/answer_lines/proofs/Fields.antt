-- The members of a row's fields, as they come one by one.
use Rattle.std.proofs.Common.{◌≡◌, ℕ, zero, suc, ◌<◌, List, [], ◌∷◌, length, take, ◌+◌, get_or, min, refl, ap, ◌∙◌, add-one, arith}
use Rattle.row_types.specs.declared.rows.Field.{Field}
use Rattle.serde_json.specs.Data.{Members, put}
use Rattle.answer_lines.specs.Lines.{field_data, members_with}

take_none : (n : ℕ) → take n (let none : List (List ℕ) = [] in none) ≡ []
take_none zero = refl
take_none (suc n) = refl

members-push : (members : Members) (names : List (List ℕ)) (values : List Field) (i : ℕ) (name : List ℕ) (value : Field) → i < length names → i < length values
    → members_with members (take (suc i) names) values ≡ put (get_or names i name) (field_data (get_or values i value)) (members_with members (take i names) values)
members-push members [] values i name value short few = absurd (omega arith)
members-push members (first ∷ names) [] i name value short few = absurd (omega arith)
members-push members (first ∷ names) (other ∷ values) zero name value short few = refl
members-push members (first ∷ names) (other ∷ values) (suc i) name value short few =
    members-push (put first (field_data other) members) names values i name value (omega arith) (omega arith)

pub members-all : (members : Members) (names : List (List ℕ)) (values : List Field) (n : ℕ) → n ≡ min (length names) (length values)
    → members_with members (take n names) values ≡ members_with members names values
members-all members [] values n is = ap (λ ns. members_with members ns values) (take_none n)
members-all members (first ∷ names) [] zero is = refl
members-all members (first ∷ names) [] (suc n) is = refl
members-all members (first ∷ names) (other ∷ values) zero is = absurd (omega arith)
members-all members (first ∷ names) (other ∷ values) (suc n) is = members-all (put first (field_data other) members) names values n (omega arith)

pub members-next : (members : Members) (names : List (List ℕ)) (values : List Field) (i : ℕ) (name : List ℕ) (value : Field) → i < length names → i < length values
    → members_with members (take (i + 1) names) values ≡ put (get_or names i name) (field_data (get_or values i value)) (members_with members (take i names) values)
members-next members names values i name value short few = ap (λ k. members_with members (take k names) values) (add-one i) ∙ members-push members names values i name value short few
