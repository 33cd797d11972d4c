-- No answer nests so deep that its text could not be read back.
use Rattle.std.proofs.Common.{◌≡◌, ℕ, ℤ, ◌≤◌, List, [], ◌∷◌, map, Option, Some, None, refl, Ordering, Less, Equal, Greater, nat_cmp, arith}
use Rattle.std.specs.Ordering.{match_ordering}
use Rattle.std.specs.Cmp.Lexicographic.{slice_cmp}
use Rattle.serde_json.specs.Data.{Data, depth, items_depth, members_depth, array, number, item, no_items, Members, no_members, member, put}
use Rattle.serde_json.specs.Find.{of_integer}
use Rattle.serde_json.specs.Read.{max_depth}
use Rattle.serde_json.specs.View.{items_of}
use Rattle.hybrid_time.specs.declared.times.Timestamp.{Timestamp}
use Rattle.row_types.specs.declared.hits.Distance.{Distance}
use Rattle.row_types.specs.declared.hits.Distance.TheVariants.{Hamming, Jaccard}
use Rattle.row_types.specs.declared.hits.Hit.{Hit}
use Rattle.row_types.specs.declared.rows.Field.{Field}
use Rattle.row_types.specs.declared.rows.Field.TheVariants as fields
use Rattle.answer_lines.specs.declared.answers.Named.{Named}
use Rattle.answer_lines.specs.declared.answers.Wrote.{Wrote}
use Rattle.answer_lines.specs.declared.answers.Wrote.TheVariants.{Inserted, Exists, Was}
use Rattle.answer_lines.specs.declared.answers.Answer.{Answer}
use Rattle.answer_lines.specs.declared.answers.Answer.TheVariants as answers
use Rattle.answer_lines.specs.Lines.{parts_of, hit_data, stamp_data, seal_data, field_data, members_with, row_data, write_data, answer_data}

hit : (distance : Distance) (key : ℤ) → depth (array (parts_of distance (item (number (of_integer key)) no_items))) ≤ 1
hit (Hamming h) key = omega arith
hit (Jaccard num den) key = omega arith

hits : (found : List Hit) → items_depth (items_of (map hit_data found)) ≤ 1
hits [] = omega arith
hits (h ∷ hs) = let here = hit h.distance h.key.0 in let others = hits hs in omega (arith, here, others)

stamps : (ticks : List Timestamp) → items_depth (items_of (map stamp_data ticks)) ≤ 1
stamps [] = omega arith
stamps (t ∷ ts) = let others = stamps ts in omega (arith, others)

seals : (pairs : List (Timestamp × ℕ)) → items_depth (items_of (map seal_data pairs)) ≤ 1
seals [] = omega arith
seals (pair ∷ pairs) = let others = seals pairs in omega (arith, others)

field : (value : Field) → depth (field_data value) ≡ 0
field (fields.Int n) = refl
field (fields.Bool b) = refl
field (fields.Text text) = refl

placed : (order : Ordering) (a b c : Members) → members_depth a ≤ 0 → members_depth b ≤ 0 → members_depth c ≤ 0 → members_depth (match_ordering order a b c) ≤ 0
placed Less a b c one two three = one
placed Equal a b c one two three = two
placed Greater a b c one two three = three

put_flat : (name : List ℕ) (d : Data) (members : Members) → depth d ≡ 0 → members_depth members ≤ 0 → members_depth (put name d members) ≤ 0
put_flat name d no_members flat low = omega (arith, flat)
put_flat name d (member other e rest) flat low =
    let deeper = put_flat name d rest flat (omega (arith, low)) in
    placed (slice_cmp nat_cmp name other) (member name d (member other e rest)) (member other d rest) (member other e (put name d rest))
    (omega (arith, flat, low)) (omega (arith, flat, low)) (omega (arith, deeper, low))

members : (before : Members) (names : List (List ℕ)) (values : List Field) → members_depth before ≤ 0 → members_depth (members_with before names values) ≤ 0
members before [] values low = low
members before (name ∷ names) [] low = low
members before (name ∷ names) (value ∷ values) low = members (put name (field_data value) before) names values (put_flat name (field_data value) before (field value) low)

row : (shown : Option Named) → depth (row_data shown) ≤ 2
row None = omega arith
row (Some named) = let flat = members no_members named.names named.row.fields (omega arith) in omega (arith, flat)

write : (line ts : ℕ) (what : Wrote) → depth (write_data line ts what) ≤ max_depth
write line ts Inserted = omega arith
write line ts Exists = omega arith
write line ts (Was live) = omega arith

pub shallow : (line : ℕ) (answer : Answer) → depth (answer_data line answer) ≤ max_depth
shallow line answers.Created = omega arith
shallow line (answers.Wrote reply) = write line reply.ts.0 reply.what
shallow line (answers.Hits now guarantee ts found) = let below = hits found in omega (arith, below)
shallow line (answers.Found now guarantee ts shown) = let below = row shown in omega (arith, below)
shallow line (answers.Pending now guarantee channel tick) = omega arith
shallow line (answers.Ticked ticks) = let below = stamps ticks in omega (arith, below)
shallow line (answers.Sealed pairs) = let below = seals pairs in omega (arith, below)
shallow line (answers.Met reply) = omega arith
shallow line (answers.End reply) = omega arith
shallow line (answers.Refused reason) = omega arith
