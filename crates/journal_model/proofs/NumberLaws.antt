-- The numbers of segments: each stands once, rises, and is given once.
use Rattle.std.proofs.Common.{◌≡◌, ◌≢◌, ℕ, ◌+◌, ◌<◌, ◌≤◌, Bool, true, false, cond, not, ◌&&◌, List, [], ◌∷◌, ◌++◌, length, Option, Some, None, refl, sym, subst, ◌∙◌, ⊎_elim, arith, eqb-true, ltb-true, ltb-false}
use Rattle.std.specs.Prelude.{nat_eq, nat_lt}
use Rattle.std.specs.List.{filter, find, AllByRecursion}
use Rattle.std.proofs.lemmas.Bool.{cases_lt, and_parts, eqb-false, false≢true}
use Rattle.log_model.proofs.LogLaws.{each-append, each_implied}
use Rattle.journal_model.specs.declared.notes.Home.{Home}
use Rattle.journal_model.specs.declared.notes.Home.TheVariants.{Node}
use Rattle.journal_model.specs.declared.notes.Kind.{Kind}
use Rattle.journal_model.specs.declared.notes.Kind.TheVariants.{Put, Seal, Number, Load, Release, Merge}
use Rattle.journal_model.specs.declared.notes.Note.{Note}
use Rattle.log_model.specs.Places.{Placed}
use Rattle.journal_model.specs.Puts.{effective_put}
use Rattle.journal_model.specs.Layouts.{Channel, Segment, BegunMerge, Layout, number_at, waiting_segment, after_boundary, with_tail, with_row, after_seal, homes_after_load, homes_after_release, with_homes, rehome, with_segments, is_among, others_in, merged_piece, with_segment, without_begun, begun_merge, with_merged, after_merge, after_number, layout_after, layout_of}
use Rattle.journal_model.specs.Lawful.{is_allowed, is_lawful, IsLawful}
use Rattle.journal_model.specs.Invariants.{NumbersRise, BegunRise, IsTaken, IsFresh, Numbered}
use Rattle.journal_model.proofs.AllowLaws.{merge_allowed, keeps_rows, is_product}
use Rattle.journal_model.proofs.WalkLaws.{by_each}
use Rattle.journal_model.proofs.PieceLaws.{each_filter, each_with_segment}
use Rattle.journal_model.proofs.LayoutLaws.{layout-snoc}

pub taken_more : (channel : Channel) (taken number : ℕ) → IsTaken channel taken number → IsTaken channel (taken + 1) number
taken_more channel taken number h = (h.0, let lt = h.1 in omega arith, h.2)

pub taken_low : (channel : Channel) (taken number : ℕ) → IsTaken channel taken number → number < number_at channel taken
taken_low channel taken number h = let lt = h.1 in let is = h.2 in omega arith

taken_last : (channel : Channel) (taken : ℕ) → IsTaken channel (taken + 1) (number_at channel taken)
taken_last channel taken = (taken, omega arith, refl)

rise_push : (segments : List Segment) (s : Segment) → NumbersRise segments → AllByRecursion (λ other. other.number < s.number) segments → NumbersRise (segments ++ s ∷ [])
rise_push [] s r low = (tt, tt)
rise_push (x ∷ segments) s r low = (each-append (λ other. x.number < other.number) segments (s ∷ []) r.0 (low.0, tt), rise_push segments s r.1 low.1)

pub rise_filter : (p : Segment → Bool) (segments : List Segment) → NumbersRise segments → NumbersRise (filter p segments)
rise_filter p [] r = tt
rise_filter p (x ∷ segments) r = elim (p x) as (λ b. NumbersRise (cond b (x ∷ filter p segments) (filter p segments))) [
  | true ↦ (each_filter (λ other. x.number < other.number) p segments r.0, rise_filter p segments r.1)
  | false ↦ rise_filter p segments r.1
]

begun_push : (begun : List BegunMerge) (b : BegunMerge) → BegunRise begun → AllByRecursion (λ c. c.number < b.number) begun → BegunRise (begun ++ b ∷ [])
begun_push [] b r low = (tt, tt)
begun_push (x ∷ begun) b r low = (each-append (λ c. x.number < c.number) begun (b ∷ []) r.0 (low.0, tt), begun_push begun b r.1 low.1)

begun_filter : (p : BegunMerge → Bool) (begun : List BegunMerge) → BegunRise begun → BegunRise (filter p begun)
begun_filter p [] r = tt
begun_filter p (x ∷ begun) r = elim (p x) as (λ b. BegunRise (cond b (x ∷ filter p begun) (filter p begun))) [
  | true ↦ (each_filter (λ c. x.number < c.number) p begun r.0, begun_filter p begun r.1)
  | false ↦ begun_filter p begun r.1
]

rise_with : (s : Segment) (others : List Segment) → NumbersRise others → AllByRecursion (λ other. other.number ≢ s.number) others → NumbersRise (with_segment s others)
rise_with s [] r other = (tt, tt)
rise_with s (x ∷ others) r other = elim (nat_lt s.number x.number) as (λ b. nat_lt s.number x.number ≡ b → NumbersRise (cond b (s ∷ x ∷ others) (x ∷ with_segment s others))) [
  | true ↦ λ e. let lt : s.number < x.number = ltb-true s.number x.number e in ((lt, each_implied (λ y. x.number < y.number) (λ y. s.number < y.number) (λ y h. omega arith) others r.0), r)
  | false ↦ λ e.
      let le : x.number ≤ s.number = ltb-false s.number x.number e in
      let ne = other.0 in
      let lt : x.number < s.number = ⊎_elim (λ l. l) (λ g. absurd (ne (omega arith))) (cases_lt x.number s.number) in
      (each_with_segment (λ y. x.number < y.number) s others lt r.0, rise_with s others r.1 other.1)
] refl

-- what is a fact of numbers alone stays as homes change
each_rehome : (P : ℕ → Type 0) (number : ℕ) (change : List Home → List Home) (segments : List Segment) → AllByRecursion (λ s. P s.number) segments → AllByRecursion (λ s. P s.number) (rehome number change segments)
each_rehome P number change [] a = tt
each_rehome P number change (s ∷ segments) a = elim (nat_eq s.number number) as (λ b. AllByRecursion (λ z. P z.number) (cond b (with_homes change s ∷ segments) (s ∷ rehome number change segments))) [
  | true ↦ a
  | false ↦ (a.0, each_rehome P number change segments a.1)
]

rise_rehome : (number : ℕ) (change : List Home → List Home) (segments : List Segment) → NumbersRise segments → NumbersRise (rehome number change segments)
rise_rehome number change [] r = tt
rise_rehome number change (s ∷ segments) r = elim (nat_eq s.number number) as (λ b. NumbersRise (cond b (with_homes change s ∷ segments) (s ∷ rehome number change segments))) [
  | true ↦ r
  | false ↦ (each_rehome (λ n. s.number < n) number change segments r.0, rise_rehome number change segments r.1)
]

close_numbers : (channel : Channel) (layout : Layout) (rows : List Placed) → Numbered channel layout → Numbered channel (after_boundary channel layout rows)
close_numbers channel layout rows n = record {
  rise = rise_push layout.segments (waiting_segment (number_at channel layout.taken) rows) n.rise (each_implied _ _ (λ s h. taken_low channel layout.taken s.number h) layout.segments n.taken);
  taken = each-append (λ s. IsTaken channel (layout.taken + 1) s.number) layout.segments (waiting_segment (number_at channel layout.taken) rows ∷ [])
      (each_implied _ _ (λ s h. taken_more channel layout.taken s.number h) layout.segments n.taken) (taken_last channel layout.taken, tt);
  begun = n.begun;
  fresh = each_implied (λ b. IsFresh channel layout b.number) (λ b. IsFresh channel (after_boundary channel layout rows) b.number) (λ b h. (
    taken_more channel layout.taken b.number h.0,
    each-append (λ s. s.number ≢ b.number) layout.segments (waiting_segment (number_at channel layout.taken) rows ∷ []) h.1 ((λ same. let low : b.number < number_at channel layout.taken = taken_low channel layout.taken b.number h.0 in absurd (omega arith)), tt),
  ))
      layout.begun n.fresh;
}

tail_numbers : (channel : Channel) (layout : Layout) (rows : List Placed) → Numbered channel layout → Numbered channel (with_tail layout rows)
tail_numbers channel layout rows n = record { rise = n.rise; taken = n.taken; begun = n.begun; fresh = n.fresh }

row_numbers : (channel : Channel) (layout : Layout) (o : Option Placed) → Numbered channel layout → Numbered channel (with_row channel layout o)
row_numbers channel layout None n = n
row_numbers channel layout (Some x) n = elim (nat_eq (length (layout.tail ++ x ∷ [])) channel.seal_rows) as (λ b. Numbered channel (cond b (after_boundary channel layout (layout.tail ++ x ∷ [])) (with_tail layout (layout.tail ++ x ∷ [])))) [
  | true ↦ close_numbers channel layout (layout.tail ++ x ∷ []) n
  | false ↦ tail_numbers channel layout (layout.tail ++ x ∷ []) n
]

seal_numbers : (channel : Channel) (layout : Layout) → Numbered channel layout → Numbered channel (after_seal channel layout)
seal_numbers channel layout n = elim (nat_eq (length layout.tail) 0) as (λ b. Numbered channel (cond b layout (after_boundary channel layout layout.tail))) [
  | true ↦ n
  | false ↦ close_numbers channel layout layout.tail n
]

rehome_numbers : (channel : Channel) (layout : Layout) (number : ℕ) (change : List Home → List Home) → Numbered channel layout → Numbered channel (with_segments layout (rehome number change layout.segments))
rehome_numbers channel layout number change n = record {
  rise = rise_rehome number change layout.segments n.rise;
  taken = each_rehome (IsTaken channel layout.taken) number change layout.segments n.taken;
  begun = n.begun;
  fresh = each_implied (λ b. IsFresh channel layout b.number) (λ b. IsFresh channel (with_segments layout (rehome number change layout.segments)) b.number)
      (λ b h. (h.0, each_rehome (λ m. m ≢ b.number) number change layout.segments h.1)) layout.begun n.fresh;
}

number_numbers : (channel : Channel) (notes : List Note) (by : ℕ) (layout : Layout) (segment floor : ℕ) → segment ≡ number_at channel layout.taken → Numbered channel layout → Numbered channel (after_number notes by layout segment floor)
number_numbers channel notes by layout segment floor is n = record {
  rise = n.rise;
  taken = each_implied _ _ (λ s h. taken_more channel layout.taken s.number h) layout.segments n.taken;
  begun = begun_push layout.begun (record { number = segment; by = by; floor = floor; at = length notes + 1 }) n.begun
      (each_implied (λ b. IsFresh channel layout b.number) (λ b. b.number < segment) (λ b h. let low : b.number < number_at channel layout.taken = taken_low channel layout.taken b.number h.0 in omega arith) layout.begun n.fresh);
  fresh = each-append (λ b. IsFresh channel (after_number notes by layout segment floor) b.number) layout.begun (record { number = segment; by = by; floor = floor; at = length notes + 1 } ∷ [])
      (each_implied (λ b. IsFresh channel layout b.number) (λ b. IsFresh channel (after_number notes by layout segment floor) b.number) (λ b h. (taken_more channel layout.taken b.number h.0, h.1)) layout.begun n.fresh) (
        (
          subst (IsTaken channel (layout.taken + 1)) (sym is) (taken_last channel layout.taken),
          each_implied (λ s. IsTaken channel layout.taken s.number) (λ s. s.number ≢ segment) (λ s h same. let low : s.number < number_at channel layout.taken = taken_low channel layout.taken s.number h in absurd (omega arith)) layout.segments n.taken,
        ),
        tt,
      );
}

-- the merge that was begun with a number
pub record Found (P : BegunMerge → Type 0) (by number : ℕ) (b : BegunMerge) : Type 0 where
  pub is : b.number ≡ number
  pub own : b.by ≡ by
  pub fact : P b

pub found : (P : BegunMerge → Type 0) (by number : ℕ) (begun : List BegunMerge) (b : BegunMerge) → AllByRecursion P begun → find (λ c. nat_eq c.number number && nat_eq c.by by) begun ≡ Some b → Found P by number b
found P by number [] b a f = cc
found P by number (c ∷ begun) b a f = elim (nat_eq c.number number && nat_eq c.by by) as (λ t. (nat_eq c.number number && nat_eq c.by by) ≡ t → cond t (Some c) (find (λ d. nat_eq d.number number && nat_eq d.by by) begun) ≡ Some b → Found P by number b) [
  | true ↦ λ e g.
      let same : c ≡ b = cc in
      let parts = and_parts (nat_eq c.number number) (nat_eq c.by by) e in
      subst (Found P by number) same (record { is = eqb-true c.number number parts.0; own = eqb-true c.by by parts.1; fact = a.0 })
  | false ↦ λ e g. found P by number begun b a.1 g
] refl f

module _ (channel : Channel) (notes : List Note) (by : ℕ) (layout : Layout) (sources : List ℕ) (node : ℕ) (n : Numbered channel layout) where
  others_fresh : (begun : List BegunMerge) → AllByRecursion (λ b. IsFresh channel layout b.number) begun → AllByRecursion (λ b. IsFresh channel (with_segments layout (others_in sources layout.segments)) b.number) begun
  others_fresh begun a = each_implied (λ b. IsFresh channel layout b.number) (λ b. IsFresh channel (with_segments layout (others_in sources layout.segments)) b.number)
      (λ b h. (h.0, each_filter (λ s. s.number ≢ b.number) (λ s. not (is_among sources s)) layout.segments h.1)) begun a

  product_numbers : (number : ℕ) (o : Option BegunMerge) → begun_merge layout by number ≡ o → keeps_rows notes layout sources o ≡ true
      → Numbered channel (record { tail = layout.tail; segments = with_merged notes layout sources node o (others_in sources layout.segments); begun = without_begun number layout.begun; taken = layout.taken })
  product_numbers number None e ok = absurd (false≢true ok)
  product_numbers number (Some b) e ok =
      let f = found (λ c. IsFresh channel layout c.number) by number layout.begun b n.fresh e in
      let others : List Segment = others_in sources layout.segments in
      let s : Segment = record { number = b.number; piece = merged_piece notes layout sources b; homes = Node node ∷ [] } in
      record {
        rise = rise_with s others (rise_filter (λ z. not (is_among sources z)) layout.segments n.rise) (each_filter (λ z. z.number ≢ b.number) (λ z. not (is_among sources z)) layout.segments f.fact.1);
        taken = each_with_segment (λ z. IsTaken channel layout.taken z.number) s others f.fact.0 (each_filter (λ z. IsTaken channel layout.taken z.number) (λ z. not (is_among sources z)) layout.segments n.taken);
        begun = begun_filter (λ c. not (nat_eq c.number number)) layout.begun n.begun;
        fresh = left b.number f.is layout.begun n.fresh;
      }
    where
      left : (given : ℕ) → given ≡ number → (begun : List BegunMerge) → AllByRecursion (λ c. IsFresh channel layout c.number) begun
          → AllByRecursion (λ c. IsTaken channel layout.taken c.number × AllByRecursion (λ z. z.number ≢ c.number) (with_segment (record { number = given; piece = merged_piece notes layout sources b; homes = Node node ∷ [] }) (others_in sources layout.segments))) (without_begun number begun)
      left given is [] a = tt
      left given is (c ∷ begun) a = elim (nat_eq c.number number) as (λ t. nat_eq c.number number ≡ t → AllByRecursion (λ d. IsTaken channel layout.taken d.number × AllByRecursion (λ z. z.number ≢ d.number) (with_segment (record { number = given; piece = merged_piece notes layout sources b; homes = Node node ∷ [] }) (others_in sources layout.segments))) (cond (not t) (c ∷ without_begun number begun) (without_begun number begun))) [
        | true ↦ λ q. left given is begun a.1
        | false ↦ λ q.
            let ne = eqb-false c.number number q in
            ((a.0.0, each_with_segment (λ z. z.number ≢ c.number) (record { number = given; piece = merged_piece notes layout sources b; homes = Node node ∷ [] }) (others_in sources layout.segments) (λ same. ne (sym same ∙ is)) (each_filter (λ z. z.number ≢ c.number) (λ z. not (is_among sources z)) layout.segments a.0.1)), left given is begun a.1)
      ] refl

  merge_numbers : (segment : Option ℕ) → is_product notes by layout sources segment ≡ true → Numbered channel (after_merge notes by layout sources segment node)
  merge_numbers None ok = record {
    rise = rise_filter (λ z. not (is_among sources z)) layout.segments n.rise;
    taken = each_filter (λ z. IsTaken channel layout.taken z.number) (λ z. not (is_among sources z)) layout.segments n.taken;
    begun = n.begun;
    fresh = others_fresh layout.begun n.fresh;
  }
  merge_numbers (Some number) ok = product_numbers number (begun_merge layout by number) refl ok

pub note_numbers : (channel : Channel) (notes : List Note) (by : ℕ) (layout : Layout) (kind : Kind) → is_allowed channel notes by layout kind ≡ true → Numbered channel layout → Numbered channel (layout_after channel notes by layout kind)
note_numbers channel notes by layout (Put ts how row) ok n = row_numbers channel layout (effective_put notes ts.0 how row) n
note_numbers channel notes by layout (Seal ts) ok n = seal_numbers channel layout n
note_numbers channel notes by layout (Number segment floor) ok n = number_numbers channel notes by layout segment floor.0 (eqb-true segment (number_at channel layout.taken) ok) n
note_numbers channel notes by layout (Load segment node) ok n = rehome_numbers channel layout segment (homes_after_load node) n
note_numbers channel notes by layout (Release segment node) ok n = rehome_numbers channel layout segment (homes_after_release node) n
note_numbers channel notes by layout (Merge sources segment node) ok n =
    let parts = merge_allowed channel notes by layout sources segment node ok in
    merge_numbers channel notes by layout sources node n segment parts.own
note_numbers channel notes by layout _ ok n = n

pub nothing_numbered : (channel : Channel) → Numbered channel (layout_of channel [])
unfolding layout_of
nothing_numbered channel = record { rise = tt; taken = tt; begun = tt; fresh = tt }

-- the numbers of segments rise, are of the channel and were taken, and a merge's number is no segment's
pub numbers : (channel : Channel) (notes : List Note) → IsLawful channel notes → Numbered channel (layout_of channel notes)
numbers channel = by_each (λ before note. is_lawful channel before note ≡ true) (λ notes. Numbered channel (layout_of channel notes))
    (nothing_numbered channel)
    (λ xs note each ok n. subst (Numbered channel) (sym (layout-snoc channel xs note)) (note_numbers channel xs note.by (layout_of channel xs) note.kind ok n))
