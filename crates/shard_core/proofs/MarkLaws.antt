-- Deaths that are no marks yet: one more note ends at most one row.
use Rattle.std.proofs.Common.{◌≡◌, ◌≢◌, ℕ, ◌<◌, true, false, cond, List, [], ◌∷◌, ◌++◌, length, Option, Some, None, refl, sym, ap, subst, ◌∙◌, arith, append-nil, eq-eqb, ne_eqb, ℤ, take, ⊎_elim, map}
use Rattle.std.specs.Prelude.{nat_eq, option_to_list, slice_get}
use Rattle.std.specs.List.{AllByRecursion, IsDistinct}
use Rattle.std.specs.Map.{lookup}
use Rattle.std.proofs.lemmas.Bool.{cases_eq}
use Rattle.hybrid_time.specs.declared.times.Timestamp.{Timestamp}
use Rattle.std.specs.Option.{option_map, option_or, option_and_then}
use Rattle.std.proofs.lemmas.List.{length-take-le, map-append}
use Rattle.journal_model.specs.declared.notes.PutKind.TheVariants.{Insert, Upsert}
use Rattle.journal_model.specs.declared.notes.Kind.{Kind}
use Rattle.journal_model.specs.declared.notes.Kind.TheVariants.{Put, Remove}
use Rattle.journal_model.specs.declared.notes.Note.{Note}
use Rattle.log_model.specs.Places.{Placed}
use Rattle.journal_model.specs.Puts.{effective, put_at, dead_at, death, first_end}
use Rattle.journal_model.specs.Tables.{index_of, end_at, ends, marked}
use Rattle.journal_model.specs.Views.{Shown, shown}
use Rattle.journal_model.proofs.PutLaws.{put_within, put_at-append, dead_at-append, option_or-none}
use Rattle.log_model.proofs.LogLaws.{each-append, each_implied}
use Rattle.journal_model.proofs.IndexLaws.{index_stands, effective_position}
use Rattle.journal_model.proofs.MarkLaws.{death-snoc}
use Rattle.channel_pieces.specs.Pieces.{AreOnce, death_in, marked_by}
use Rattle.shard_core.specs.Steps.{dated, deaths_of}
use Rattle.shard_core.specs.Lagging.{IsDeath}

-- ---- deaths one after another

pub or_or : {X : Type 0} (o p m : Option X) → option_or o (option_or p m) ≡ option_or (option_or o p) m
or_or None p m = refl
or_or (Some x) p m = refl

pub death_in-append : (ds es : List (ℕ × Timestamp)) (p : ℕ) → death_in (ds ++ es) p ≡ option_or (death_in ds p) (death_in es p)
death_in-append [] es p = refl
death_in-append (d ∷ ds) es p = elim (nat_eq p d.0) as (λ b. option_map (λ (t : Timestamp). t.0) (cond b (Some d.1) (lookup (nat_eq p) (ds ++ es))) ≡ option_or (option_map (λ (t : Timestamp). t.0) (cond b (Some d.1) (lookup (nat_eq p) ds))) (death_in es p)) [
  | true ↦ refl
  | false ↦ death_in-append ds es p
]

pub marked_by-append : (ds es : List (ℕ × Timestamp)) (s : Shown) → marked_by (ds ++ es) s ≡ marked_by es (marked_by ds s)
marked_by-append ds es s =
    ap (λ (m : Option ℕ). record { position = s.position; ts = s.ts; row = s.row; mark = m })
    (ap (option_or s.mark) (death_in-append ds es s.position) ∙ or_or s.mark (death_in ds s.position) (death_in es s.position))

pub marked_by_none : (s : Shown) → marked_by [] s ≡ s
marked_by_none s = ap (λ (m : Option ℕ). record { position = s.position; ts = s.ts; row = s.row; mark = m }) (option_or-none s.mark)

-- a position that no death has
pub no_end : (ds : List (ℕ × Timestamp)) (p : ℕ) → AllByRecursion (λ d. p ≢ d.0) ds → death_in ds p ≡ None
no_end [] p a = refl
no_end (d ∷ ds) p a = ap (λ b. option_map (λ (t : Timestamp). t.0) (cond b (Some d.1) (lookup (nat_eq p) ds))) (ne_eqb p d.0 a.0) ∙ no_end ds p a.1

-- ---- the row that a note ends

-- it was put, and is alive
pub record Ends (notes : List Note) (d : ℕ × ℕ) : Type 0 where
  pub row : Placed
  pub put : put_at notes d.0 ≡ Some row
  pub at : row.position ≡ d.0
  pub alive : death notes row ≡ None

end_found : (notes : List Note) (ts : ℕ) (key : ℤ) (d : ℕ × ℕ) → end_at ts (index_of notes key) ≡ Some d → Ends notes d
end_found notes ts key d e = go (index_of notes key) refl e
  where
    go : (o : Option Placed) → index_of notes key ≡ o → end_at ts o ≡ Some d → Ends notes d
    go None i h = cc
    go (Some x) i h =
        let same : (x.position, ts) ≡ d = cc in
        let at : x.position ≡ d.0 = ap (λ (z : ℕ × ℕ). z.0) same in
        let here = (index_stands key notes).here x i in
        record {
          row = x;
          put = ap (put_at notes) (sym at) ∙ here.0;
          at = at;
          alive = ap (dead_at notes x.position) here.1 ∙ here.2;
        }

pub ends_alive : (notes : List Note) (kind : Kind) (d : ℕ × ℕ) → ends notes kind ≡ Some d → Ends notes d
ends_alive notes (Put ts Insert row) d e = cc
ends_alive notes (Put ts Upsert row) d e = end_found notes ts.0 row.key.0 d e
ends_alive notes (Remove ts key) d e = end_found notes ts.0 key.0 d e
ends_alive notes _ d e = cc

pub same_row : (notes : List Note) (p q : ℕ) (x y : Placed) → put_at notes p ≡ Some x → put_at notes q ≡ Some y → p ≡ q → y ≡ x
same_row notes p q x y a b e = let one : Some y ≡ Some x = sym b ∙ ap (put_at notes) (sym e) ∙ a in cc

-- the mark of a row after one more note
pub row_later : (notes : List Note) (note : Note) (x : Placed) → put_at notes x.position ≡ Some x → option_or (death notes x) (death_in (deaths_of notes note.kind) x.position) ≡ death (notes ++ note ∷ []) x
row_later notes note x put = go (ends notes note.kind) refl ∙ sym (death-snoc notes x put note)
  where
    go : (o : Option (ℕ × ℕ)) → ends notes note.kind ≡ o → option_or (death notes x) (death_in (option_to_list (option_map dated o)) x.position) ≡ marked o x.position (death notes x)
    go None e = option_or-none (death notes x)
    go (Some d) e = ⊎_elim
        (λ same.
        let ended = ends_alive notes note.kind d e in
        let is : x ≡ ended.row = same_row notes d.0 x.position ended.row x ended.put put same in
        ap (λ b. option_or (death notes x) (option_map (λ (t : Timestamp). t.0) (cond b (Some (record { 0 = d.1 })) None))) (eq-eqb x.position d.0 (sym same))
        ∙ ap (λ o. option_or o (Some d.1)) (ap (death notes) is ∙ ended.alive)
        ∙ ap (λ b. cond b (Some d.1) (death notes x)) (sym (eq-eqb d.0 x.position same)))
        (λ apart.
        ap (λ b. option_or (death notes x) (option_map (λ (t : Timestamp). t.0) (cond b (Some (record { 0 = d.1 })) None))) (ne_eqb x.position d.0 (λ h. apart (sym h)))
        ∙ option_or-none (death notes x)
        ∙ ap (λ b. cond b (Some d.1) (death notes x)) (sym (ne_eqb d.0 x.position apart)))
        (cases_eq d.0 x.position)

pub shown_later : (notes : List Note) (note : Note) (x : Placed) → put_at notes x.position ≡ Some x → marked_by (deaths_of notes note.kind) (shown notes x) ≡ shown (notes ++ note ∷ []) x
shown_later notes note x put = ap (λ (m : Option ℕ). record { position = x.position; ts = x.ts; row = x.row; mark = m }) (row_later notes note x put)

-- ---- what is known of deaths

pub position_of : (notes : List Note) (p : ℕ) (x : Placed) → put_at notes p ≡ Some x → x.position ≡ p
position_of notes p x h =
    let within : p < length notes = put_within notes x p h in
    elim (slice_get notes p) as (λ o. option_and_then (λ note. effective (take p notes) note.kind) o ≡ Some x → x.position ≡ p) [
      | None ↦ λ g. cc
      | Some note ↦ λ g. effective_position (take p notes) note.kind x g ∙ length-take-le p notes (omega arith)
    ] h

each_push : {X : Type 0} (P : X → Type 0) (xs : List X) (x : X) → AllByRecursion P xs → P x → AllByRecursion P (xs ++ x ∷ [])
each_push P xs x a p = each-append P xs (x ∷ []) a (p, tt)

pub dies_within : (notes : List Note) (d : ℕ × Timestamp) → IsDeath notes d → d.0 < length notes
dies_within notes d h = put_within notes h.0 d.0 h.1

pub death_stays : (notes : List Note) (note : Note) (d : ℕ × Timestamp) → IsDeath notes d → IsDeath (notes ++ note ∷ []) d
death_stays notes note d h = (h.0, put_at-append notes (note ∷ []) d.0 (dies_within notes d h) ∙ h.1, dies)
  where
    at : h.0.position ≡ d.0
    at = position_of notes d.0 h.0 h.1

    dies : death (notes ++ note ∷ []) h.0 ≡ Some d.1.0
    dies =
        dead_at-append notes (note ∷ []) h.0.position h.0.row.key.0 (put_within notes h.0 h.0.position (ap (put_at notes) at ∙ h.1))
        ∙ ap (λ o. option_or o (first_end h.0.row.key.0 (note ∷ []))) h.2

-- a note's own death
pub death_new : (notes : List Note) (note : Note) (d : ℕ × ℕ) → ends notes note.kind ≡ Some d → IsDeath (notes ++ note ∷ []) (dated d)
death_new notes note d e =
    let ended = ends_alive notes note.kind d e in
    let put : put_at notes ended.row.position ≡ Some ended.row = ap (put_at notes) ended.at ∙ ended.put in (
      ended.row,
      put_at-append notes (note ∷ []) d.0 (put_within notes ended.row d.0 ended.put) ∙ ended.put,
      sym (row_later notes note ended.row put)
          ∙ ap (λ o. option_or o (death_in (deaths_of notes note.kind) ended.row.position)) ended.alive
          ∙ ap (λ o. death_in (option_to_list (option_map dated o)) ended.row.position) e
          ∙ ap (λ b. option_map (λ (t : Timestamp). t.0) (cond b (Some (record { 0 = d.1 })) None)) (eq-eqb ended.row.position d.0 ended.at),
    )

other_places : (notes : List Note) (d : ℕ × ℕ) → Ends notes d → (ds : List (ℕ × Timestamp)) → AllByRecursion (IsDeath notes) ds → AllByRecursion (λ e. d.0 ≢ e.0) ds
other_places notes d ended [] a = tt
other_places notes d ended (e ∷ ds) a = (
  (λ same.
      let is : a.0.0 ≡ ended.row = same_row notes d.0 e.0 ended.row a.0.0 ended.put a.0.1 same in
      let none : Some e.1.0 ≡ None = sym a.0.2 ∙ ap (death notes) is ∙ ended.alive in
      cc),
  other_places notes d ended ds a.1,
)

pub once_none : AreOnce []
unfolding IsDistinct
once_none = tt

once_push : (ds : List (ℕ × Timestamp)) (d : ℕ × Timestamp) → AreOnce ds → AllByRecursion (λ e. d.0 ≢ e.0) ds → AreOnce (ds ++ d ∷ [])
unfolding IsDistinct
once_push [] d a f = (tt, tt)
once_push (e ∷ ds) d a f = (
  subst (AllByRecursion (λ p. nat_eq e.0 p ≡ false)) (sym (map-append (λ (g : ℕ × Timestamp). g.0) ds (d ∷ []))) (each_push (λ p. nat_eq e.0 p ≡ false) (map (λ (g : ℕ × Timestamp). g.0) ds) d.0 a.0 (ne_eqb e.0 d.0 (λ h. f.0 (sym h)))),
  once_push ds d a.1 f.1,
)

pub deaths_later : (notes : List Note) (note : Note) (ds : List (ℕ × Timestamp)) → AllByRecursion (IsDeath notes) ds → AllByRecursion (IsDeath (notes ++ note ∷ [])) (ds ++ deaths_of notes note.kind)
deaths_later notes note ds a = go (ends notes note.kind) refl
  where
    old : AllByRecursion (IsDeath (notes ++ note ∷ [])) ds
    old = each_implied (IsDeath notes) (IsDeath (notes ++ note ∷ [])) (λ d h. death_stays notes note d h) ds a

    go : (o : Option (ℕ × ℕ)) → ends notes note.kind ≡ o → AllByRecursion (IsDeath (notes ++ note ∷ [])) (ds ++ option_to_list (option_map dated o))
    go None e = subst (AllByRecursion (IsDeath (notes ++ note ∷ []))) (sym (append-nil ds)) old
    go (Some d) e = each_push (IsDeath (notes ++ note ∷ [])) ds (dated d) old (death_new notes note d e)

pub once_later : (notes : List Note) (note : Note) (ds : List (ℕ × Timestamp)) → AllByRecursion (IsDeath notes) ds → AreOnce ds → AreOnce (ds ++ deaths_of notes note.kind)
once_later notes note ds a once = go (ends notes note.kind) refl
  where
    go : (o : Option (ℕ × ℕ)) → ends notes note.kind ≡ o → AreOnce (ds ++ option_to_list (option_map dated o))
    go None e = subst AreOnce (sym (append-nil ds)) once
    go (Some d) e = once_push ds (dated d) once (other_places notes d (ends_alive notes note.kind d e) ds a)

-- no death has the position of the next note
pub no_end_new : (notes : List Note) (ds : List (ℕ × Timestamp)) → AllByRecursion (IsDeath notes) ds → death_in ds (length notes) ≡ None
no_end_new notes ds a = no_end ds (length notes) (each_implied (IsDeath notes) (λ d. length notes ≢ d.0) (λ d h e. absurd (let lt : d.0 < length notes = dies_within notes d h in omega arith)) ds a)

-- nor has the death that this note is
pub no_end_own : (notes : List Note) (kind : Kind) → death_in (deaths_of notes kind) (length notes) ≡ None
no_end_own notes kind = go (ends notes kind) refl
  where
    go : (o : Option (ℕ × ℕ)) → ends notes kind ≡ o → death_in (option_to_list (option_map dated o)) (length notes) ≡ None
    go None e = refl
    go (Some d) e =
        let ended = ends_alive notes kind d e in
        let lt : d.0 < length notes = put_within notes ended.row d.0 ended.put in
        ap (λ b. option_map (λ (t : Timestamp). t.0) (cond b (Some (record { 0 = d.1 })) None)) (ne_eqb (length notes) d.0 (λ h. absurd (omega arith)))
