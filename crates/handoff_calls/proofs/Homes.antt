-- What refuses a move from the leader, and what a load leaves: the segment waits no longer.
use Rattle.std.proofs.Common.{◌≡◌, ℕ, ◌⊎◌, inl, inr, Bool, true, false, cond, not, List, [], ◌∷◌, ◌++◌, Some, refl, sym, ap, ◌∙◌, subst, true≢false}
use Rattle.std.specs.Prelude.{nat_eq, is_some}
use Rattle.std.specs.List.{list_any, AllByRecursion}
use Rattle.std.specs.Option.{option_or}
use Rattle.std.proofs.lemmas.Bool.{or_parts}
use Rattle.journal_model.specs.declared.notes.Home.{Home}
use Rattle.journal_model.specs.declared.notes.Home.TheVariants.{Leader, Node}
use Rattle.journal_model.specs.declared.notes.Kind.TheVariants.{Load}
use Rattle.journal_model.specs.declared.notes.Note.{Note}
use Rattle.journal_model.specs.declared.refusals.MoveError.{MoveError}
use Rattle.journal_model.specs.declared.refusals.MoveError.TheVariants as error
use Rattle.journal_model.specs.Notes.{note_of}
use Rattle.journal_model.specs.Layouts.{Channel, Layout, Segment, is_home, homes_after_load, with_homes, rehome, layout_of}
use Rattle.journal_model.specs.Lawful.{homes_in, is_there, is_at}
use Rattle.journal_model.specs.Refusals.{least_node, refused_if, move_refusal, load_refusal}
use Rattle.journal_model.specs.Runs.{State, IsNode, AreHomes, IsSegment, IsSound}
use Rattle.journal_model.proofs.LayoutLaws.{layout-snoc}
use Rattle.handoff_calls.specs.Turns.{WaitsNot}

-- ---- a segment at the leader is on no node

nodes_alone : (homes : List Home) → AllByRecursion IsNode homes → list_any (is_home Leader) homes ≡ false
nodes_alone [] h = refl
nodes_alone (Leader ∷ homes) h = absurd h.0
nodes_alone (Node n ∷ homes) h = nodes_alone homes h.1

leader_alone : (homes : List Home) (node : ℕ) → AreHomes homes → list_any (is_home Leader) homes ≡ true → list_any (is_home (Node node)) homes ≡ false
leader_alone [] node h at = absurd h
leader_alone (Leader ∷ homes) node h at = ap (list_any (is_home (Node node))) h
leader_alone (Node n ∷ homes) node h at = absurd (true≢false (sym at ∙ nodes_alone homes h))

homes_each : (segments : List Segment) (number : ℕ) → AllByRecursion IsSegment segments → list_any (is_home Leader) (homes_in segments number) ≡ true → AreHomes (homes_in segments number)
homes_each [] number each = λ at. absurd (true≢false (sym at))
homes_each (s ∷ segments) number each =
    elim (nat_eq s.number number) as (λ b. list_any (is_home Leader) (cond b s.homes (homes_in segments number)) ≡ true → AreHomes (cond b s.homes (homes_in segments number))) [
      | true ↦ λ at. each.0.homes
      | false ↦ λ at. homes_each segments number each.1 at
    ]

not_there : (segments : List Segment) (number : ℕ) → list_any (λ (s : Segment). nat_eq s.number number) segments ≡ false → homes_in segments number ≡ []
not_there [] number h = refl
not_there (s ∷ segments) number h =
    let parts = or_parts (nat_eq s.number number) (list_any (λ (t : Segment). nat_eq t.number number) segments) h in
    ap (λ b. cond b s.homes (homes_in segments number)) parts.0 ∙ not_there segments number parts.1

-- ---- refusals

of_two : (t a : Bool) (x y why : MoveError) → option_or (refused_if (not t) x) (refused_if (not a) y) ≡ Some why → (t ≡ false) ⊎ (a ≡ false)
of_two false a x y why h = inl refl
of_two true false x y why h = inr refl
of_two true true x y why h = absurd (true≢false (sym (ap is_some h)))

of_three : (t a n : Bool) (x y z why : MoveError) → option_or (option_or (refused_if (not t) x) (refused_if (not a) y)) (refused_if n z) ≡ Some why → (t ≡ false) ⊎ ((a ≡ false) ⊎ (n ≡ true))
of_three false a n x y z why h = inl refl
of_three true false n x y z why h = inr (inl refl)
of_three true true true x y z why h = inr (inr refl)
of_three true true false x y z why h = absurd (true≢false (sym (ap is_some h)))

module _ (layout : Layout) (segment : ℕ) where
  gone : is_there layout segment ≡ false → is_at layout segment Leader ≡ false
  gone t = ap (list_any (is_home Leader)) (not_there layout.segments segment t)

  on_node : (node : ℕ) → AllByRecursion IsSegment layout.segments → is_at layout segment (Node node) ≡ true → (b : Bool) → is_at layout segment Leader ≡ b → b ≡ false
  on_node node each n true at = absurd (true≢false (sym n ∙ leader_alone (homes_in layout.segments segment) node (homes_each layout.segments segment each at) at))
  on_node node each n false at = refl

  refused_move : (why : MoveError) → move_refusal layout segment Leader ≡ Some why → is_at layout segment Leader ≡ false
  refused_move why h =
      elim (of_two (is_there layout segment) (is_at layout segment Leader) (error.Gone segment) (error.Already segment (least_node (homes_in layout.segments segment))) why h) as (λ _. is_at layout segment Leader ≡ false) [ inl t ↦ gone t | inr a ↦ a ]

  refused_load : (node : ℕ) (why : MoveError) → AllByRecursion IsSegment layout.segments → load_refusal layout segment Leader node ≡ Some why → is_at layout segment Leader ≡ false
  refused_load node why each h =
      elim (of_three (is_there layout segment) (is_at layout segment Leader) (is_at layout segment (Node node)) (error.Gone segment) (error.Already segment (least_node (homes_in layout.segments segment))) (error.Already segment node) why h) as (λ _. is_at layout segment Leader ≡ false) [
        | inl t ↦ gone t
        | inr rest ↦ elim rest as (λ _. is_at layout segment Leader ≡ false) [ inl a ↦ a | inr n ↦ on_node node each n (is_at layout segment Leader) refl ]
      ]

module _ (channel : Channel) (notes : List Note) (segment : ℕ) where
  -- what refuses the beginning of a move, or its load, says that the segment waits no longer
  pub begun_not : (why : MoveError) → move_refusal (layout_of channel notes) segment Leader ≡ Some why → WaitsNot channel notes segment
  begun_not why h = refused_move (layout_of channel notes) segment why h

  pub loaded_not : (floor node : ℕ) (why : MoveError) → IsSound channel (record { notes = notes; floor = floor }) → load_refusal (layout_of channel notes) segment Leader node ≡ Some why → WaitsNot channel notes segment
  loaded_not floor node why sound h = refused_load (layout_of channel notes) segment node why sound.segments h

-- ---- behind a load

leader_gone : (node : ℕ) (homes : List Home) → list_any (is_home Leader) (homes_after_load node homes) ≡ false
leader_gone node [] = refl
leader_gone node (Leader ∷ homes) = leader_gone node homes
leader_gone node (Node n ∷ homes) = leader_gone node homes

rehomed_one : (s : Segment) (number node : ℕ) (segments : List Segment) (b : Bool) → nat_eq s.number number ≡ b → list_any (is_home Leader) (homes_in (rehome number (homes_after_load node) segments) number) ≡ false
    → list_any (is_home Leader) (homes_in (cond b (with_homes (homes_after_load node) s ∷ segments) (s ∷ rehome number (homes_after_load node) segments)) number) ≡ false
rehomed_one s number node segments true e rest = ap (λ (b : Bool). list_any (is_home Leader) (cond b (homes_after_load node s.homes) (homes_in segments number))) e ∙ leader_gone node s.homes
rehomed_one s number node segments false e rest = ap (λ (b : Bool). list_any (is_home Leader) (cond b s.homes (homes_in (rehome number (homes_after_load node) segments) number))) e ∙ rest

rehomed_all : (number node : ℕ) (segments : List Segment) → list_any (is_home Leader) (homes_in (rehome number (homes_after_load node) segments) number) ≡ false
rehomed_all number node [] = refl
rehomed_all number node (s ∷ segments) = rehomed_one s number node segments (nat_eq s.number number) refl (rehomed_all number node segments)

-- a segment waits no longer behind its load
pub load_takes : (channel : Channel) (before : List Note) (by line segment node : ℕ) → WaitsNot channel (before ++ note_of by line (Load segment node) ∷ []) segment
load_takes channel before by line segment node =
    ap (λ (l : Layout). is_at l segment Leader) (layout-snoc channel before (note_of by line (Load segment node))) ∙ rehomed_all segment node (layout_of channel before).segments

-- the load of a segment from the leader was refused, and not for want of memory
pub refused_not : (channel : Channel) (s : State) (segment node : ℕ) (home : Home) (why : MoveError) → IsSound channel s → home ≡ Leader → (why ≡ error.Memory → ⊥) → (why ≡ error.Memory) ⊎ (load_refusal (layout_of channel s.notes) segment home node ≡ Some why)
    → WaitsNot channel s.notes segment
refused_not channel s segment node home why sound from other (inl e) = absurd (other e)
refused_not channel s segment node home why sound from other (inr r) = refused_load (layout_of channel s.notes) segment node why sound.segments (subst (λ (h : Home). load_refusal (layout_of channel s.notes) segment h node ≡ Some why) from r)
