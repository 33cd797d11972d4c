-- Homes that are found, and what refuses calls by them.
use Rattle.std.proofs.Common.{◌≡◌, ℕ, ◌+◌, ◌<◌, Bool, true, false, cond, not, length, drop, get_or, ◌||◌, ◌&&◌, List, [], ◌∷◌, map, Option, Some, None, refl, sym, ap, ap₂, ◌∙◌, inl, inr, eqb-true}
use Rattle.std.specs.Prelude.{nat_eq, is_some}
use Rattle.std.specs.List.{AllByRecursion, list_any, list_all}
use Rattle.std.specs.Option.{option_map, option_or}
use Rattle.std.proofs.lemmas.Bool.{false≢true}
use Rattle.std.proofs.lemmas.List.{drop_more}
use Rattle.log_model.proofs.LogLaws.{each_implied}
use Rattle.journal_model.proofs.RefusalLaws.{none_without}
use Rattle.std.proofs.lemmas.Bool.{and_parts}
use Rattle.journal_model.specs.declared.notes.Home.{Home}
use Rattle.journal_model.specs.declared.notes.Home.TheVariants.{Leader, Node}
use Rattle.journal_model.specs.declared.notes.Note.{Note}
use Rattle.journal_model.specs.declared.refusals.MoveError.{MoveError}
use Rattle.journal_model.specs.declared.refusals.MoveError.TheVariants.{Gone, Already, LastPlace}
use Rattle.journal_model.specs.Layouts.{Channel, Segment, Layout, is_home, layout_of}
use Rattle.journal_model.specs.Lawful.{homes_in, is_there, is_at, is_elsewhere}
use Rattle.journal_model.specs.Lists.{IsIn}
use Rattle.journal_model.specs.Refusals.{refused_if, not_at, move_refusal, load_refusal, release_refusal, is_on_node, first_without, begin_merge_refusal}
use Rattle.channel_pieces.specs.Pieces.{MarkedSegment, segment_in}
use Rattle.hybrid_time.specs.declared.times.Timestamp.{Timestamp}
use Rattle.shard_core.specs.declared.pending.Pending.{Pending}
use Rattle.shard_core.specs.Shelves.{Shelves, shelf_of, shelves_of, is_shelved, homes_at}
use Rattle.shard_core.specs.Steps.{caught_up, is_closing}
use Rattle.shard_core.specs.Found.{found_in, found_with, move_refused, load_refused, on_nodes_refused, release_refused}
use Rattle.shard_core.proofs.ShelfLaws.{homes_caught, there_caught}

-- ---- homes that are found

there_some : (segments : List MarkedSegment) (number : ℕ) (homes : List Home) → option_map (λ (s : MarkedSegment). s.homes) (segment_in segments number) ≡ Some homes
    → (is_shelved segments number ≡ true) × (homes_at segments number ≡ homes)
there_some [] number homes e = cc
there_some (s ∷ segments) number homes e = elim (nat_eq s.number number) as
    (λ b. option_map (λ (z : MarkedSegment). z.homes) (cond b (Some s) (segment_in segments number)) ≡ Some homes → ((b || is_shelved segments number) ≡ true) × (cond b s.homes (homes_at segments number) ≡ homes)) [
      | true ↦ λ h. (refl, cc)
      | false ↦ λ h. there_some segments number homes h
    ] e

there_none : (segments : List MarkedSegment) (number : ℕ) → option_map (λ (s : MarkedSegment). s.homes) (segment_in segments number) ≡ None → is_shelved segments number ≡ false
there_none [] number e = refl
there_none (s ∷ segments) number e = elim (nat_eq s.number number) as
    (λ b. option_map (λ (z : MarkedSegment). z.homes) (cond b (Some s) (segment_in segments number)) ≡ None → (b || is_shelved segments number) ≡ false) [
      | true ↦ λ h. cc
      | false ↦ λ h. there_none segments number h
    ] e

pub found_some : (segments : List MarkedSegment) (pending : List Pending) (number : ℕ) (homes : List Home) → option_map (λ (s : MarkedSegment). s.homes) (segment_in segments number) ≡ Some homes → Some homes ≡ found_with segments pending number
found_some segments pending number homes e =
    let h = there_some segments number homes e in
    let closes = list_any (is_closing number) pending in
    sym (ap₂ (λ (b : Bool) (hs : List Home). cond (b || closes) (Some (cond b hs (cond closes (Leader ∷ []) []))) None) h.0 h.1)

pub found_closing : (segments : List MarkedSegment) (pending : List Pending) (number : ℕ) → option_map (λ (s : MarkedSegment). s.homes) (segment_in segments number) ≡ None → list_any (is_closing number) pending ≡ true
    → Some (Leader ∷ []) ≡ found_with segments pending number
found_closing segments pending number e c =
    sym (ap₂ (λ (b closes : Bool). cond (b || closes) (Some (cond b (homes_at segments number) (cond closes (Leader ∷ []) []))) None) (there_none segments number e) c)

pub found_none : (segments : List MarkedSegment) (pending : List Pending) (number : ℕ) → option_map (λ (s : MarkedSegment). s.homes) (segment_in segments number) ≡ None → list_any (is_closing number) pending ≡ false
    → None ≡ found_with segments pending number
found_none segments pending number e c =
    sym (ap₂ (λ (b closes : Bool). cond (b || closes) (Some (cond b (homes_at segments number) (cond closes (Leader ∷ []) []))) None) (there_none segments number e) c)

pub found_caught : (channel : Channel) (notes : List Note) (pending : List Pending) (ds : List (ℕ × Timestamp)) (s : Shelves) (number : ℕ) → caught_up notes pending ds s ≡ shelves_of channel notes
    → found_with s.segments pending number ≡ found_in (layout_of channel notes) number
found_caught channel notes pending ds s number is =
    ap₂ (λ (b : Bool) (homes : List Home). cond b (Some homes) None) (there_caught channel notes pending ds s number is) (homes_caught channel notes pending ds s number is)

-- ---- refusals

pub move_same : (layout : Layout) (segment : ℕ) (from : Home) → move_refused segment (found_in layout segment) from ≡ move_refusal layout segment from
move_same layout segment Leader = elim (is_there layout segment) as
    (λ b. move_refused segment (cond b (Some (homes_in layout.segments segment)) None) Leader ≡ option_or (refused_if (not b) (Gone segment)) (not_at layout segment Leader)) [ true ↦ refl | false ↦ refl ]
move_same layout segment (Node home) = elim (is_there layout segment) as
    (λ b. move_refused segment (cond b (Some (homes_in layout.segments segment)) None) (Node home) ≡ option_or (refused_if (not b) (Gone segment)) (not_at layout segment (Node home))) [ true ↦ refl | false ↦ refl ]

pub load_same : (layout : Layout) (segment : ℕ) (from : Home) (node : ℕ) → load_refused segment (found_in layout segment) from node ≡ load_refusal layout segment from node
load_same layout segment Leader node = elim (is_there layout segment) as
    (λ b. load_refused segment (cond b (Some (homes_in layout.segments segment)) None) Leader node
    ≡ option_or (option_or (refused_if (not b) (Gone segment)) (not_at layout segment Leader)) (refused_if (is_at layout segment (Node node)) (Already segment node))) [ true ↦ refl | false ↦ refl ]
load_same layout segment (Node home) node = elim (is_there layout segment) as
    (λ b. load_refused segment (cond b (Some (homes_in layout.segments segment)) None) (Node home) node
    ≡ option_or (option_or (refused_if (not b) (Gone segment)) (not_at layout segment (Node home))) (refused_if (is_at layout segment (Node node)) (Already segment node))) [ true ↦ refl | false ↦ refl ]

pub release_same : (layout : Layout) (segment node : ℕ) → release_refused segment (found_in layout segment) node ≡ release_refusal layout segment node
release_same layout segment node = elim (is_there layout segment) as
    (λ b. release_refused segment (cond b (Some (homes_in layout.segments segment)) None) node
    ≡ option_or (option_or (refused_if (not b) (Gone segment)) (not_at layout segment (Node node))) (refused_if (not (is_elsewhere layout segment node)) (LastPlace segment))) [ true ↦ refl | false ↦ refl ]

no_homes : (segments : List Segment) (number : ℕ) → list_any (λ (s : Segment). nat_eq s.number number) segments ≡ false → homes_in segments number ≡ []
no_homes [] number e = refl
no_homes (s ∷ segments) number e = elim (nat_eq s.number number) as
    (λ b. (b || list_any (λ (z : Segment). nat_eq z.number number) segments) ≡ false → cond b s.homes (homes_in segments number) ≡ []) [
      | true ↦ λ h. cc
      | false ↦ λ h. no_homes segments number h
    ] e

pub merge_same : (layout : Layout) (segment : ℕ) → on_nodes_refused segment (found_in layout segment) ≡ refused_if (not (is_on_node layout segment)) (Gone segment)
merge_same layout segment = go (is_there layout segment) refl
  where
    go : (b : Bool) → is_there layout segment ≡ b → on_nodes_refused segment (cond b (Some (homes_in layout.segments segment)) None) ≡ refused_if (not (is_on_node layout segment)) (Gone segment)
    go true e = refl
    go false e = sym (ap (λ (homes : List Home). refused_if (not (list_any (λ home. not (is_home Leader home)) homes)) (Gone segment)) (no_homes layout.segments segment e))

-- a call that nothing refuses is on a segment that is there
pub there_if : (b : Bool) (why : MoveError) (o : Option MoveError) → option_or (refused_if (not b) why) o ≡ None → b ≡ true
there_if true why o e = refl
there_if false why o e = cc

first_none : (o p : Option MoveError) → option_or o p ≡ None → o ≡ None
first_none None p e = refl
first_none (Some why) p e = cc

pub there_moved : (layout : Layout) (segment : ℕ) (from : Home) → move_refusal layout segment from ≡ None → is_there layout segment ≡ true
there_moved layout segment from e = there_if (is_there layout segment) (Gone segment) (not_at layout segment from) e

pub there_loaded : (layout : Layout) (segment : ℕ) (from : Home) (node : ℕ) → load_refusal layout segment from node ≡ None → is_there layout segment ≡ true
there_loaded layout segment from node e = there_moved layout segment from (first_none (move_refusal layout segment from) (refused_if (is_at layout segment (Node node)) (Already segment node)) e)

pub there_released : (layout : Layout) (segment node : ℕ) → release_refusal layout segment node ≡ None → is_there layout segment ≡ true
there_released layout segment node e = there_moved layout segment (Node node) (first_none (move_refusal layout segment (Node node)) (refused_if (not (is_elsewhere layout segment node)) (LastPlace segment)) e)

-- ---- segments of pieces that are brought up

-- a segment of the journal, as the pieces have it
pub record IsShown (notes : List Note) (segments : List Segment) (number : ℕ) : Type 0 where
  pub segment : Segment
  pub there : IsIn segment segments
  pub same : segment.number ≡ number
  pub is : segment_in (map (shelf_of notes) segments) number ≡ Some (shelf_of notes segment)
  pub homes : segment.homes ≡ homes_in segments number

pub is_shown : (notes : List Note) (segments : List Segment) (number : ℕ) → list_any (λ (s : Segment). nat_eq s.number number) segments ≡ true → IsShown notes segments number
is_shown notes [] number e = absurd (false≢true e)
is_shown notes (s ∷ segments) number e = go (nat_eq s.number number) refl (λ h. is_shown notes segments number h) e
  where
    go : (b : Bool) → nat_eq s.number number ≡ b → (list_any (λ (z : Segment). nat_eq z.number number) segments ≡ true → IsShown notes segments number) → (b || list_any (λ (z : Segment). nat_eq z.number number) segments) ≡ true → IsShown notes (s ∷ segments) number
    go true is more h = record {
      segment = s;
      there = inl refl;
      same = eqb-true s.number number is;
      is = ap (λ b. cond b (Some (shelf_of notes s)) (segment_in (map (shelf_of notes) segments) number)) is;
      homes = sym (ap (λ b. cond b s.homes (homes_in segments number)) is);
    }
    go false is more h =
        let rest = more h in
        record {
          segment = rest.segment;
          there = inr rest.there;
          same = rest.same;
          is = ap (λ b. cond b (Some (shelf_of notes s)) (segment_in (map (shelf_of notes) segments) number)) is ∙ rest.is;
          homes = rest.homes ∙ sym (ap (λ b. cond b s.homes (homes_in segments number)) is);
        }

pub homes_told : (notes : List Note) (segments : List Segment) (number : ℕ) (test : List Home → Bool) (b : Bool) → list_any (λ (s : Segment). nat_eq s.number number) segments ≡ true → test (homes_in segments number) ≡ b
    → option_map (λ (s : MarkedSegment). test s.homes) (segment_in (map (shelf_of notes) segments) number) ≡ Some b
homes_told notes segments number test b e t =
    let s = is_shown notes segments number e in
    ap (option_map (λ (z : MarkedSegment). test z.homes)) s.is ∙ ap Some (ap test s.homes ∙ t)

-- ---- several segments, one after another

-- a test of the first of some segments, and of those behind it
pub first_next : (test : ℕ → Bool) (segments : List ℕ) (i d : ℕ) → i < length segments
    → first_without test (drop i segments) ≡ option_or (refused_if (not (test (get_or segments i d))) (Gone (get_or segments i d))) (first_without test (drop (i + 1) segments))
first_next test segments i d lt = ap (first_without test) (drop_more segments i d lt)

-- a segment on nodes is there
homes_there : (segments : List Segment) (number : ℕ) (test : Home → Bool) → list_any test (homes_in segments number) ≡ true → list_any (λ (s : Segment). nat_eq s.number number) segments ≡ true
homes_there [] number test e = cc
homes_there (s ∷ segments) number test e = elim (nat_eq s.number number) as
    (λ b. list_any test (cond b s.homes (homes_in segments number)) ≡ true → (b || list_any (λ (z : Segment). nat_eq z.number number) segments) ≡ true) [
      | true ↦ λ h. refl
      | false ↦ λ h. homes_there segments number test h
    ] e

all_true : (test : ℕ → Bool) (segments : List ℕ) → list_all test segments ≡ true → AllByRecursion (λ n. test n ≡ true) segments
all_true test [] e = tt
all_true test (n ∷ segments) e = let h = and_parts (test n) (list_all test segments) e in (h.0, all_true test segments h.1)

pub on_nodes_there : (layout : Layout) (sources : List ℕ) → list_all (is_on_node layout) sources ≡ true → list_all (is_there layout) sources ≡ true
on_nodes_there layout [] e = refl
on_nodes_there layout (n ∷ sources) e =
    let h = and_parts (is_on_node layout n) (list_all (is_on_node layout) sources) e in
    ap₂ (λ a b. a && b) (homes_there layout.segments n (λ home. not (is_home Leader home)) h.0) (on_nodes_there layout sources h.1)

-- the segments that a merge may begin with are there, as pieces that are brought up have them
pub sources_there : (notes : List Note) (layout : Layout) (sources : List ℕ) → begin_merge_refusal layout sources ≡ None
    → AllByRecursion (λ n. is_some (segment_in (map (shelf_of notes) layout.segments) n) ≡ true) sources
sources_there notes layout sources free =
    each_implied (λ n. is_on_node layout n ≡ true) (λ n. is_some (segment_in (map (shelf_of notes) layout.segments) n) ≡ true)
    (λ n e. ap is_some (is_shown notes layout.segments n (homes_there layout.segments n (λ home. not (is_home Leader home)) e)).is)
    sources (all_true (is_on_node layout) sources (none_without (is_on_node layout) sources free))
