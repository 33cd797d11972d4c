-- No answer has a float, so its text is exact.
use Rattle.std.proofs.Common.{◌≡◌, ℕ, ℤ, pos, negsuc, Bool, true, false, true≢false, List, [], ◌∷◌, Option, Some, None, Ordering, Less, Equal, Greater, nat_cmp, refl, ap, ◌∙◌}
use Rattle.std.specs.Ordering.{match_ordering}
use Rattle.std.specs.Cmp.Lexicographic.{slice_cmp}
use Rattle.std.specs.Prelude.{◌||◌}
use Rattle.serde_json.specs.Data.{Data, array, object, number, item, no_items, Members, no_members, member, put}
use Rattle.serde_json.specs.Find.{of_integer}
use Rattle.serde_json.specs.Written.{has_float, members_have_float}
use Rattle.hybrid_time.specs.declared.times.Timestamp.{Timestamp}
use Rattle.row_types.specs.declared.hits.Distance.{Distance}
use Rattle.row_types.specs.declared.hits.Distance.TheVariants.{Hamming, Jaccard}
use Rattle.row_types.specs.declared.hits.Hit.{Hit}
use Rattle.row_types.specs.declared.rows.Field.{Field}
use Rattle.row_types.specs.declared.rows.Field.TheVariants as fields
use Rattle.answer_lines.specs.declared.answers.Named.{Named}
use Rattle.answer_lines.specs.declared.answers.Wrote.{Wrote}
use Rattle.answer_lines.specs.declared.answers.Wrote.TheVariants.{Inserted, Exists, Was}
use Rattle.answer_lines.specs.declared.answers.Answer.{Answer}
use Rattle.answer_lines.specs.declared.answers.Answer.TheVariants as answers
use Rattle.answer_lines.specs.Lines.{parts_of, hits_data, stamps_data, seals_data, field_data, members_with, row_data, write_data, answer_data}

integer : (key : ℤ) → has_float (number (of_integer key)) ≡ false
integer (pos n) = refl
integer (negsuc n) = refl

hit : (distance : Distance) (key : ℤ) → has_float (array (parts_of distance (item (number (of_integer key)) no_items))) ≡ false
hit (Hamming h) key = ap (λ b. b || false) (integer key)
hit (Jaccard num den) key = ap (λ b. b || false) (integer key)

hits : (found : List Hit) → has_float (hits_data found) ≡ false
hits [] = refl
hits (h ∷ hs) = ap (λ b. b || has_float (hits_data hs)) (hit h.distance h.key.0) ∙ hits hs

stamps : (ticks : List Timestamp) → has_float (stamps_data ticks) ≡ false
stamps [] = refl
stamps (t ∷ ts) = stamps ts

seals : (pairs : List (Timestamp × ℕ)) → has_float (seals_data pairs) ≡ false
seals [] = refl
seals (pair ∷ pairs) = seals pairs

field : (value : Field) → has_float (field_data value) ≡ false
field (fields.Int n) = integer n
field (fields.Bool b) = refl
field (fields.Text text) = refl

placed : (order : Ordering) (a b c : Members) → members_have_float a ≡ false → members_have_float b ≡ false → members_have_float c ≡ false
    → members_have_float (match_ordering order a b c) ≡ false
placed Less a b c one two three = one
placed Equal a b c one two three = two
placed Greater a b c one two three = three

both : (a b : Bool) → a ≡ false → b ≡ false → (a || b) ≡ false
both a b left right = ap (λ x. x || b) left ∙ right

last : (a b : Bool) → (a || b) ≡ false → b ≡ false
last true b none = absurd (true≢false none)
last false b none = none

first : (a b : Bool) → (a || b) ≡ false → a ≡ false
first true b none = absurd (true≢false none)
first false b none = refl

put_exact : (name : List ℕ) (d : Data) (members : Members) → has_float d ≡ false → members_have_float members ≡ false → members_have_float (put name d members) ≡ false
put_exact name d no_members exact none = both (has_float d) false exact refl
put_exact name d (member other e rest) exact none =
    placed (slice_cmp nat_cmp name other) (member name d (member other e rest)) (member other d rest) (member other e (put name d rest))
    (both (has_float d) _ exact none)
    (both (has_float d) _ exact (last (has_float e) _ none))
    (both (has_float e) _ (first (has_float e) _ none) (put_exact name d rest exact (last (has_float e) _ none)))

members : (before : Members) (names : List (List ℕ)) (values : List Field) → members_have_float before ≡ false → members_have_float (members_with before names values) ≡ false
members before [] values none = none
members before (name ∷ names) [] none = none
members before (name ∷ names) (value ∷ values) none = members (put name (field_data value) before) names values (put_exact name (field_data value) before (field value) none)

row : (shown : Option Named) → has_float (row_data shown) ≡ false
row None = refl
row (Some named) = both (members_have_float (members_with no_members named.names named.row.fields)) _ (members no_members named.names named.row.fields refl)
    (both (has_float (number (of_integer named.row.key.0))) _ (integer named.row.key.0) refl)

write : (line ts : ℕ) (what : Wrote) → has_float (write_data line ts what) ≡ false
write line ts Inserted = refl
write line ts Exists = refl
write line ts (Was live) = refl

pub no_float : (line : ℕ) (answer : Answer) → has_float (answer_data line answer) ≡ false
no_float line answers.Created = refl
no_float line (answers.Wrote reply) = write line reply.ts.0 reply.what
no_float line (answers.Hits now guarantee ts found) = ap (λ b. b || false) (hits found)
no_float line (answers.Found now guarantee ts shown) = ap (λ b. b || false) (row shown)
no_float line (answers.Pending now guarantee channel tick) = refl
no_float line (answers.Ticked ticks) = ap (λ b. b || false) (stamps ticks)
no_float line (answers.Sealed pairs) = ap (λ b. b || false) (seals pairs)
no_float line (answers.Met reply) = refl
no_float line (answers.End reply) = refl
no_float line (answers.Refused reason) = refl
