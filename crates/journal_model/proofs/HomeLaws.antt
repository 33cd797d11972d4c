-- No node has a segment twice.
use Rattle.std.proofs.Common.{◌≡◌, ℕ, ◌+◌, ◌≤◌, Bool, true, false, cond, not, List, [], ◌∷◌, ◌++◌, length, Option, Some, None, refl, sym, ap, subst, ◌∙◌, ⊎_elim, arith, ne_eqb}
use Rattle.std.specs.Prelude.{nat_eq}
use Rattle.std.specs.List.{filter, list_any, AllByRecursion, count_by}
use Rattle.std.proofs.lemmas.Bool.{and_parts, not-true, or_parts, cases_eq}
use Rattle.log_model.proofs.LogLaws.{each-append}
use Rattle.journal_model.specs.declared.notes.Home.{Home}
use Rattle.journal_model.specs.declared.notes.Home.TheVariants.{Leader, Node}
use Rattle.journal_model.specs.declared.notes.Kind.{Kind}
use Rattle.journal_model.specs.declared.notes.Kind.TheVariants.{Put, Seal, Load, Release, Merge}
use Rattle.journal_model.specs.declared.notes.Note.{Note}
use Rattle.log_model.specs.Places.{Placed}
use Rattle.journal_model.specs.Puts.{effective_put}
use Rattle.journal_model.specs.Layouts.{Channel, Segment, BegunMerge, Layout, number_at, waiting_segment, after_boundary, with_tail, with_row, after_seal, is_home, homes_after_load, homes_after_release, with_homes, rehome, is_among, others_in, merged_piece, begun_merge, with_merged, layout_after, layout_of}
use Rattle.journal_model.specs.Lawful.{homes_in, is_there, is_at, is_allowed, is_lawful, IsLawful}
use Rattle.journal_model.specs.Invariants.{Once}
use Rattle.journal_model.proofs.WalkLaws.{by_each}
use Rattle.journal_model.proofs.ListLaws.{count-push, count_filter, count-cons}
use Rattle.journal_model.proofs.PieceLaws.{each_filter, each_with_segment}
use Rattle.journal_model.proofs.LayoutLaws.{layout-snoc}

none_any : (p : Home → Bool) (homes : List Home) → list_any p homes ≡ false → count_by p homes ≡ 0
none_any p [] h = refl
none_any p (home ∷ homes) h =
    let parts = or_parts (p home) (list_any p homes) h in
    count-cons p home homes ∙ ap (λ b. cond b 1 0 + count_by p homes) parts.0 ∙ let rest : count_by p homes ≡ 0 = none_any p homes parts.1 in omega arith

at_most : (b : Bool) → cond b 1 0 ≤ 1
at_most true = omega arith
at_most false = omega arith

once_loaded : (node : ℕ) (homes : List Home) → list_any (is_home (Node node)) homes ≡ false → Once homes → Once (homes_after_load node homes)
unfolding Once
once_loaded node homes none once n =
    let push : count_by (is_home (Node n)) (homes_after_load node homes) ≡ count_by (is_home (Node n)) (filter (λ home. not (is_home Leader home)) homes) + cond (nat_eq n node) 1 0 = count-push (is_home (Node n)) (filter (λ home. not (is_home Leader home)) homes) (Node node) in
    let fewer : count_by (is_home (Node n)) (filter (λ home. not (is_home Leader home)) homes) ≤ count_by (is_home (Node n)) homes = count_filter (is_home (Node n)) (λ home. not (is_home Leader home)) homes in
    let one : count_by (is_home (Node n)) homes ≤ 1 = once n in
    ⊎_elim
    (λ same.
    let zero_of : count_by (is_home (Node node)) homes ≡ 0 = none_any (is_home (Node node)) homes none in
    let here : count_by (is_home (Node n)) homes ≡ 0 = subst (λ m. count_by (is_home (Node m)) homes ≡ 0) (sym same) zero_of in
    let few : cond (nat_eq n node) 1 0 ≤ 1 = at_most (nat_eq n node) in
    omega arith)
    (λ other. let no_more : cond {A = ℕ} (nat_eq n node) 1 0 ≡ 0 = ap (λ (b : Bool). cond {A = ℕ} b 1 0) (ne_eqb n node other) in omega arith)
    (cases_eq n node)

once_filter : (p : Home → Bool) (homes : List Home) → Once homes → Once (filter p homes)
unfolding Once
once_filter p homes once n = let fewer : count_by (is_home (Node n)) (filter p homes) ≤ count_by (is_home (Node n)) homes = count_filter (is_home (Node n)) p homes in let one = once n in omega arith

once_one : (home : Home) → Once (home ∷ [])
unfolding Once
once_one home n = let c : count_by (is_home (Node n)) (home ∷ []) ≡ cond (is_home (Node n) home) 1 0 + count_by (is_home (Node n)) [] = count-cons (is_home (Node n)) home [] in let few : cond (is_home (Node n) home) 1 0 ≤ 1 = at_most (is_home (Node n) home) in omega arith

abbrev EachOnce : List Segment → Type 0
EachOnce segments = AllByRecursion (λ s. Once s.homes) segments

close_once : (channel : Channel) (layout : Layout) (rows : List Placed) → EachOnce layout.segments → EachOnce (after_boundary channel layout rows).segments
close_once channel layout rows a = each-append (λ s. Once s.homes) layout.segments (waiting_segment (number_at channel layout.taken) rows ∷ []) a (once_one Leader, tt)

row_once : (channel : Channel) (layout : Layout) (o : Option Placed) → EachOnce layout.segments → EachOnce (with_row channel layout o).segments
row_once channel layout None a = a
row_once channel layout (Some x) a = elim (nat_eq (length (layout.tail ++ x ∷ [])) channel.seal_rows) as (λ b. EachOnce (cond b (after_boundary channel layout (layout.tail ++ x ∷ [])) (with_tail layout (layout.tail ++ x ∷ []))).segments) [
  | true ↦ close_once channel layout (layout.tail ++ x ∷ []) a
  | false ↦ a
]

seal_once : (channel : Channel) (layout : Layout) → EachOnce layout.segments → EachOnce (after_seal channel layout).segments
seal_once channel layout a = elim (nat_eq (length layout.tail) 0) as (λ b. EachOnce (cond b layout (after_boundary channel layout layout.tail)).segments) [
  | true ↦ a
  | false ↦ close_once channel layout layout.tail a
]

rehome_once : (number : ℕ) (change : List Home → List Home) (segments : List Segment) → ((homes : List Home) → homes_in segments number ≡ homes → Once homes → Once (change homes)) → EachOnce segments → EachOnce (rehome number change segments)
rehome_once number change [] f a = tt
rehome_once number change (s ∷ segments) f a =
    elim (nat_eq s.number number) as (λ b. ((homes : List Home) → cond b s.homes (homes_in segments number) ≡ homes → Once homes → Once (change homes)) → EachOnce (cond b (with_homes change s ∷ segments) (s ∷ rehome number change segments))) [
      | true ↦ λ g. (g s.homes refl a.0, a.1)
      | false ↦ λ g. (a.0, rehome_once number change segments g a.1)
    ] f

product_once : (notes : List Note) (layout : Layout) (sources : List ℕ) (node : ℕ) (o : Option BegunMerge) → EachOnce layout.segments → EachOnce (with_merged notes layout sources node o (others_in sources layout.segments))
product_once notes layout sources node None a = each_filter (λ s. Once s.homes) (λ s. not (is_among sources s)) layout.segments a
product_once notes layout sources node (Some b) a = each_with_segment (λ s. Once s.homes) (record { number = b.number; piece = merged_piece notes layout sources b; homes = Node node ∷ [] }) (others_in sources layout.segments) (once_one (Node node)) (each_filter (λ s. Once s.homes) (λ s. not (is_among sources s)) layout.segments a)

note_once : (channel : Channel) (notes : List Note) (by : ℕ) (layout : Layout) (kind : Kind) → is_allowed channel notes by layout kind ≡ true → EachOnce layout.segments → EachOnce (layout_after channel notes by layout kind).segments
note_once channel notes by layout (Put ts how row) ok a = row_once channel layout (effective_put notes ts.0 how row) a
note_once channel notes by layout (Seal ts) ok a = seal_once channel layout a
note_once channel notes by layout (Load segment node) ok a =
    let parts = and_parts (is_there layout segment) (not (is_at layout segment (Node node))) ok in
    rehome_once segment (homes_after_load node) layout.segments (λ homes is once. once_loaded node homes (subst (λ l. list_any (is_home (Node node)) l ≡ false) is (not-true (is_at layout segment (Node node)) parts.1)) once) a
note_once channel notes by layout (Release segment node) ok a = rehome_once segment (homes_after_release node) layout.segments (λ homes is once. once_filter (λ home. not (is_home (Node node) home)) homes once) a
note_once channel notes by layout (Merge sources None node) ok a = each_filter (λ s. Once s.homes) (λ s. not (is_among sources s)) layout.segments a
note_once channel notes by layout (Merge sources (Some segment) node) ok a = product_once notes layout sources node (begun_merge layout by segment) a
note_once channel notes by layout _ ok a = a

nothing_once : (channel : Channel) → EachOnce (layout_of channel []).segments
unfolding layout_of
nothing_once channel = tt

-- in a lawful journal no node has a segment twice
pub homes_once : (channel : Channel) (notes : List Note) → IsLawful channel notes → AllByRecursion (λ s. Once s.homes) (layout_of channel notes).segments
homes_once channel = by_each (λ before note. is_lawful channel before note ≡ true) (λ notes. EachOnce (layout_of channel notes).segments)
    (nothing_once channel)
    (λ xs note lawful ok a. subst (λ l. EachOnce l.segments) (sym (layout-snoc channel xs note)) (note_once channel xs note.by (layout_of channel xs) note.kind ok a))
