-- The merges that were begun and not committed are the Number notes whose number no Merge note has.
use Rattle.std.proofs.Common.{◌≡◌, ℕ, ◌+◌, ◌<◌, ◌≤◌, true, false, cond, not, ◌&&◌, List, [], ◌∷◌, ◌++◌, length, Option, Some, None, refl, sym, ap, subst, ◌∙◌, inl, inr, arith, append_assoc, eqb-true, eq-eqb, ne_eqb}
use Rattle.std.specs.Prelude.{nat_eq}
use Rattle.std.specs.List.{find, AllByRecursion}
use Rattle.std.proofs.lemmas.Bool.{and_from, false≢true, eqb-false, not_from_false, false_from_ne_true}
use Rattle.log_model.proofs.LogLaws.{each-append, each_implied}
use Rattle.hybrid_time.specs.declared.times.Timestamp.{Timestamp}
use Rattle.journal_model.specs.declared.notes.Kind.{Kind}
use Rattle.journal_model.specs.declared.notes.Kind.TheVariants.{Put, Seal, Number, Merge}
use Rattle.journal_model.specs.declared.notes.Note.{Note}
use Rattle.log_model.specs.Places.{Placed}
use Rattle.journal_model.specs.Puts.{effective_put}
use Rattle.journal_model.specs.Layouts.{Channel, BegunMerge, Layout, number_at, after_boundary, with_tail, with_row, after_seal, without_begun, begun_merge, layout_after, layout_of}
use Rattle.journal_model.specs.Lawful.{is_allowed, is_lawful, IsLawful, gives, IsBegun}
use Rattle.journal_model.specs.Lists.{IsIn}
use Rattle.journal_model.specs.Invariants.{BegunRise, IsTaken, IsFresh, Numbered}
use Rattle.journal_model.proofs.AllowLaws.{merge_allowed, keeps_rows}
use Rattle.journal_model.proofs.WalkLaws.{by_snoc, by_each}
use Rattle.journal_model.proofs.ListLaws.{in_left, in_last, in_filter, all_in}
use Rattle.journal_model.proofs.LayoutLaws.{layout-snoc}
use Rattle.journal_model.proofs.NumberLaws.{numbers, found, taken_low}

-- ---- what a note does to the merges that were begun, and to how many numbers were taken

row_begun : (channel : Channel) (layout : Layout) (o : Option Placed) → (with_row channel layout o).begun ≡ layout.begun
row_begun channel layout None = refl
row_begun channel layout (Some x) = elim (nat_eq (length (layout.tail ++ x ∷ [])) channel.seal_rows) as (λ b. (cond b (after_boundary channel layout (layout.tail ++ x ∷ [])) (with_tail layout (layout.tail ++ x ∷ []))).begun ≡ layout.begun) [
  | true ↦ refl
  | false ↦ refl
]

seal_begun : (channel : Channel) (layout : Layout) → (after_seal channel layout).begun ≡ layout.begun
seal_begun channel layout = elim (nat_eq (length layout.tail) 0) as (λ b. (cond b layout (after_boundary channel layout layout.tail)).begun ≡ layout.begun) [
  | true ↦ refl
  | false ↦ refl
]

row_taken : (channel : Channel) (layout : Layout) (o : Option Placed) → layout.taken ≤ (with_row channel layout o).taken
row_taken channel layout None = omega arith
row_taken channel layout (Some x) = elim (nat_eq (length (layout.tail ++ x ∷ [])) channel.seal_rows) as (λ b. layout.taken ≤ (cond b (after_boundary channel layout (layout.tail ++ x ∷ [])) (with_tail layout (layout.tail ++ x ∷ []))).taken) [
  | true ↦ omega arith
  | false ↦ omega arith
]

seal_taken : (channel : Channel) (layout : Layout) → layout.taken ≤ (after_seal channel layout).taken
seal_taken channel layout = elim (nat_eq (length layout.tail) 0) as (λ b. layout.taken ≤ (cond b layout (after_boundary channel layout layout.tail)).taken) [
  | true ↦ omega arith
  | false ↦ omega arith
]

note_taken : (channel : Channel) (notes : List Note) (by : ℕ) (layout : Layout) (kind : Kind) → layout.taken ≤ (layout_after channel notes by layout kind).taken
note_taken channel notes by layout (Put ts how row) = row_taken channel layout (effective_put notes ts.0 how row)
note_taken channel notes by layout (Seal ts) = seal_taken channel layout
note_taken channel notes by layout (Number segment floor) = omega arith
note_taken channel notes by layout (Merge sources None node) = omega arith
note_taken channel notes by layout (Merge sources (Some segment) node) = omega arith
note_taken channel notes by layout _ = omega arith

begun_stays : (channel : Channel) (notes : List Note) (by : ℕ) (layout : Layout) (kind : Kind) (b : BegunMerge) → IsIn b layout.begun → gives b.number kind ≡ false → IsIn b (layout_after channel notes by layout kind).begun
begun_stays channel notes by layout (Put ts how row) b i other = subst (IsIn b) (sym (row_begun channel layout (effective_put notes ts.0 how row))) i
begun_stays channel notes by layout (Seal ts) b i other = subst (IsIn b) (sym (seal_begun channel layout)) i
begun_stays channel notes by layout (Number segment floor) b i other = in_left b layout.begun _ i
begun_stays channel notes by layout (Merge sources None node) b i other = i
begun_stays channel notes by layout (Merge sources (Some segment) node) b i other =
    in_filter (λ c. not (nat_eq c.number segment)) b layout.begun i (not_from_false (nat_eq b.number segment) (ne_eqb b.number segment (λ e. eqb-false segment b.number other (sym e))))
begun_stays channel notes by layout _ b i other = i

-- ---- a merge's number was taken before

Given : Channel → ℕ → Kind → Type 0
Given channel taken kind = (number : ℕ) → gives number kind ≡ true → IsTaken channel taken number

unfolded_given : (channel : Channel) (taken : ℕ) (kind : Kind) → Given channel taken kind → (number : ℕ) → gives number kind ≡ true → IsTaken channel taken number
unfolding Given
unfolded_given channel taken kind g = g

given_from : (channel : Channel) (taken : ℕ) (kind : Kind) → ((number : ℕ) → gives number kind ≡ true → IsTaken channel taken number) → Given channel taken kind
unfolding Given
given_from channel taken kind g = g

given_more : (channel : Channel) (taken more : ℕ) (kind : Kind) → taken ≤ more → Given channel taken kind → Given channel more kind
given_more channel taken more kind le g = given_from channel more kind (λ number h. let t = unfolded_given channel taken kind g number h in (t.0, let lt = t.1 in omega arith, t.2))

given_note : (channel : Channel) (notes : List Note) (by : ℕ) (layout : Layout) (kind : Kind) → Numbered channel layout → is_allowed channel notes by layout kind ≡ true → (number : ℕ) → gives number kind ≡ true → IsTaken channel layout.taken number
given_note channel notes by layout (Merge sources None node) n ok number h = absurd (false≢true h)
given_note channel notes by layout (Merge sources (Some segment) node) n ok number h =
    let parts = merge_allowed channel notes by layout sources (Some segment) node ok in
    elim (begun_merge layout by segment) as (λ o. begun_merge layout by segment ≡ o → keeps_rows notes layout sources o ≡ true → IsTaken channel layout.taken number) [
      | None ↦ λ e m. absurd (false≢true m)
      | Some b ↦ λ e m. let f = found (λ c. IsFresh channel layout c.number) by segment layout.begun b n.fresh e in subst (IsTaken channel layout.taken) (f.is ∙ eqb-true segment number h) f.fact.0
    ] refl parts.own
given_note channel notes by layout _ n ok number h = absurd (false≢true h)

all_given : (channel : Channel) (notes : List Note) → IsLawful channel notes → AllByRecursion (λ n. Given channel (layout_of channel notes).taken n.kind) notes
all_given channel = by_each (λ before note. is_lawful channel before note ≡ true) (λ notes. AllByRecursion (λ n. Given channel (layout_of channel notes).taken n.kind) notes) tt
    (λ xs note lawful ok given.
    let layout : Layout = layout_of channel xs in
    let more : (layout_of channel xs).taken ≤ (layout_of channel (xs ++ note ∷ [])).taken = subst (λ l. (layout_of channel xs).taken ≤ l.taken) (sym (layout-snoc channel xs note)) (note_taken channel xs note.by (layout_of channel xs) note.kind) in
    each-append (λ n. Given channel (layout_of channel (xs ++ note ∷ [])).taken n.kind) xs (note ∷ [])
    (each_implied _ _ (λ n g. given_more channel (layout_of channel xs).taken (layout_of channel (xs ++ note ∷ [])).taken n.kind more g) xs given)
    (given_more channel (layout_of channel xs).taken (layout_of channel (xs ++ note ∷ [])).taken note.kind more (given_from channel (layout_of channel xs).taken note.kind (given_note channel xs note.by (layout_of channel xs) note.kind (numbers channel xs lawful) ok)), tt))

-- ---- where a begun merge comes from

origin_more : (notes : List Note) (note : Note) (b : BegunMerge) → gives b.number note.kind ≡ false → IsBegun notes b → IsBegun (notes ++ note ∷ []) b
origin_more notes note b other o = record {
  before = o.before;
  rest = o.rest ++ note ∷ [];
  note = o.note;
  begun = o.begun;
  is = ap (λ l. l ++ note ∷ []) o.is ∙ append_assoc o.before (o.note ∷ o.rest) (note ∷ []);
  kind = o.kind;
  by = o.by;
  floor = o.floor;
  at = o.at;
  unused = each-append (λ n. gives b.number n.kind ≡ false) notes (note ∷ []) o.unused (other, tt);
}

origin_step : (channel : Channel) (notes : List Note) (note : Note) (layout : Layout) → AllByRecursion (λ n. Given channel layout.taken n.kind) notes → AllByRecursion (λ b. IsBegun notes b) layout.begun
    → (kind : Kind) → note.kind ≡ kind → is_allowed channel notes note.by layout kind ≡ true → AllByRecursion (λ b. IsBegun (notes ++ note ∷ []) b) (layout_after channel notes note.by layout kind).begun
origin_step channel notes note layout given a (Put ts how row) e ok =
    subst (AllByRecursion (λ b. IsBegun (notes ++ note ∷ []) b)) (sym (row_begun channel layout (effective_put notes ts.0 how row))) (each_implied _ _ (λ b o. origin_more notes note b (ap (gives b.number) e) o) layout.begun a)
origin_step channel notes note layout given a (Seal ts) e ok =
    subst (AllByRecursion (λ b. IsBegun (notes ++ note ∷ []) b)) (sym (seal_begun channel layout)) (each_implied _ _ (λ b o. origin_more notes note b (ap (gives b.number) e) o) layout.begun a)
origin_step channel notes note layout given a (Number segment floor) e ok =
    let is : segment ≡ number_at channel layout.taken = eqb-true segment (number_at channel layout.taken) ok in
    each-append (λ b. IsBegun (notes ++ note ∷ []) b) layout.begun (record { number = segment; by = note.by; floor = floor.0; at = length notes + 1 } ∷ [])
    (each_implied _ _ (λ b o. origin_more notes note b (ap (gives b.number) e) o) layout.begun a) (
      record {
        before = notes;
        rest = [];
        note = note;
        begun = floor;
        is = refl;
        kind = e;
        by = refl;
        floor = refl;
        at = refl;
        unused = each-append (λ n. gives segment n.kind ≡ false) notes (note ∷ [])
            (each_implied _ _ (λ n g. false_from_ne_true (gives segment n.kind) (λ h. let low : segment < number_at channel layout.taken = taken_low channel layout.taken segment (unfolded_given channel layout.taken n.kind g segment h) in omega arith)) notes given)
            (ap (gives segment) e, tt);
      },
      tt,
    )
origin_step channel notes note layout given a (Merge sources None node) e ok = each_implied _ _ (λ b o. origin_more notes note b (ap (gives b.number) e) o) layout.begun a
origin_step channel notes note layout given a (Merge sources (Some segment) node) e ok = go layout.begun a
  where
    go : (begun : List BegunMerge) → AllByRecursion (λ b. IsBegun notes b) begun → AllByRecursion (λ b. IsBegun (notes ++ note ∷ []) b) (without_begun segment begun)
    go [] o = tt
    go (b ∷ begun) o = elim (nat_eq b.number segment) as (λ t. nat_eq b.number segment ≡ t → AllByRecursion (λ c. IsBegun (notes ++ note ∷ []) c) (cond (not t) (b ∷ without_begun segment begun) (without_begun segment begun))) [
      | true ↦ λ q. go begun o.1
      | false ↦ λ q. (origin_more notes note b (ap (gives b.number) e ∙ ne_eqb segment b.number (λ same. eqb-false b.number segment q (sym same))) o.0, go begun o.1)
    ] refl
origin_step channel notes note layout given a _ e ok = each_implied _ _ (λ b o. origin_more notes note b (ap (gives b.number) e) o) layout.begun a

nothing_begun : (channel : Channel) → AllByRecursion (λ b. IsBegun [] b) (layout_of channel []).begun
unfolding layout_of
nothing_begun channel = tt

-- each merge that was begun has its Number note, and no Merge note has used its number
pub begun_origin : (channel : Channel) (notes : List Note) → IsLawful channel notes → AllByRecursion (λ b. IsBegun notes b) (layout_of channel notes).begun
begun_origin channel = by_each (λ before note. is_lawful channel before note ≡ true) (λ notes. AllByRecursion (λ b. IsBegun notes b) (layout_of channel notes).begun)
    (nothing_begun channel)
    (λ xs note lawful ok a. subst (λ l. AllByRecursion (λ b. IsBegun (xs ++ note ∷ []) b) l.begun) (sym (layout-snoc channel xs note))
    (origin_step channel xs note (layout_of channel xs) (all_given channel xs lawful) a note.kind refl ok))

find_begun : (begun : List BegunMerge) (b : BegunMerge) → BegunRise begun → IsIn b begun → find (λ c. nat_eq c.number b.number && nat_eq c.by b.by) begun ≡ Some b
find_begun [] b r i = absurd i
find_begun (c ∷ begun) b r (inl e) =
    ap (λ t. cond t (Some c) (find (λ d. nat_eq d.number b.number && nat_eq d.by b.by) begun)) (and_from (nat_eq c.number b.number) (nat_eq c.by b.by) (eq-eqb c.number b.number (ap (λ z. z.number) (sym e))) (eq-eqb c.by b.by (ap (λ z. z.by) (sym e))))
    ∙ ap Some (sym e)
find_begun (c ∷ begun) b r (inr i) =
    let lt : c.number < b.number = all_in (λ d. c.number < d.number) begun b r.0 i in
    let ne : nat_eq c.number b.number ≡ false = ne_eqb c.number b.number (λ same. absurd (omega arith)) in
    ap (λ t. cond (t && nat_eq c.by b.by) (Some c) (find (λ d. nat_eq d.number b.number && nat_eq d.by b.by) begun)) ne ∙ find_begun begun b r.1 i

origin_in : (channel : Channel) (b : BegunMerge) (before : List Note) (note : Note) (begun : Timestamp) → note.kind ≡ Number b.number begun → note.by ≡ b.by → begun.0 ≡ b.floor → b.at ≡ length before + 1
    → (rest : List Note) → AllByRecursion (λ n. gives b.number n.kind ≡ false) rest → IsIn b (layout_of channel (before ++ note ∷ rest)).begun
origin_in channel b before note begun kind by floor at = by_snoc (λ rest. AllByRecursion (λ n. gives b.number n.kind ≡ false) rest → IsIn b (layout_of channel (before ++ note ∷ rest)).begun)
    (λ u. subst (λ l. IsIn b l.begun) (sym (layout-snoc channel before note))
    (subst (λ k. IsIn b (layout_after channel before note.by (layout_of channel before) k).begun) (sym kind)
    (subst (λ c. IsIn b ((layout_of channel before).begun ++ c ∷ [])) (let own : b.by ≡ note.by = sym by in let low : b.floor ≡ begun.0 = sym floor in let same : b ≡ record { number = b.number; by = note.by; floor = begun.0; at = length before + 1 } = λ i. record { number = b.number; by = own i; floor = low i; at = at i } in same) (in_last b (layout_of channel before).begun))))
    (λ xs last f u. subst (λ l. IsIn b (layout_of channel l).begun) (append_assoc before (note ∷ xs) (last ∷ []))
    (subst (λ l. IsIn b l.begun) (sym (layout-snoc channel (before ++ note ∷ xs) last))
    (begun_stays channel (before ++ note ∷ xs) last.by (layout_of channel (before ++ note ∷ xs)) last.kind b (f (front xs last u)) (end xs last u))))
  where
    front : (xs : List Note) (last : Note) → AllByRecursion (λ n. gives b.number n.kind ≡ false) (xs ++ last ∷ []) → AllByRecursion (λ n. gives b.number n.kind ≡ false) xs
    front [] last u = tt
    front (x ∷ xs) last u = (u.0, front xs last u.1)

    end : (xs : List Note) (last : Note) → AllByRecursion (λ n. gives b.number n.kind ≡ false) (xs ++ last ∷ []) → gives b.number last.kind ≡ false
    end [] last u = u.0
    end (x ∷ xs) last u = end xs last u.1

-- such a merge is among those that were begun
pub origin_there : (channel : Channel) (notes : List Note) (b : BegunMerge) → IsBegun notes b → IsIn b (layout_of channel notes).begun
origin_there channel notes b o =
    subst (λ l. IsIn b (layout_of channel l).begun) (sym o.is) (origin_in channel b o.before o.note o.begun o.kind o.by o.floor o.at o.rest (back o.before (subst (AllByRecursion (λ n. gives b.number n.kind ≡ false)) o.is o.unused)))
  where
    back : (xs : List Note) → AllByRecursion (λ n. gives b.number n.kind ≡ false) (xs ++ o.note ∷ o.rest) → AllByRecursion (λ n. gives b.number n.kind ≡ false) o.rest
    back [] u = u.1
    back (x ∷ xs) u = back xs u.1

-- a Number note whose number no Merge note has used is the merge that its seat began
pub origin_begun : (channel : Channel) (notes : List Note) → IsLawful channel notes → (b : BegunMerge) → IsBegun notes b → begun_merge (layout_of channel notes) b.by b.number ≡ Some b
origin_begun channel notes lawful b o = find_begun (layout_of channel notes).begun b (numbers channel notes lawful).begun (origin_there channel notes b o)
