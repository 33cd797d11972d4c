-- What each worked journal leaves, by computing.
use Rattle.std.proofs.Common.{◌≡◌, ℕ, true, false, List, [], ◌∷◌, ◌++◌, map, Option, Some, None, refl, ap}
use Rattle.log_model.specs.Places.{Placed}
use Rattle.journal_model.specs.declared.notes.Home.{Home}
use Rattle.journal_model.specs.declared.notes.Home.TheVariants.{Leader, Node}
use Rattle.journal_model.specs.declared.notes.Kind.TheVariants.{Remove, Tick, Seal, Look, Number, Release, Merge}
use Rattle.journal_model.specs.declared.refusals.MoveError.TheVariants.{Gone, Already, NotThere, LastPlace}
use Rattle.journal_model.specs.Notes.{note_of}
use Rattle.journal_model.specs.Journals.{is_next}
use Rattle.journal_model.specs.Answers.{Served, Pending, Sealed, answer_at}
use Rattle.journal_model.specs.Layouts.{Layout, layout_of}
use Rattle.journal_model.specs.Lawful.{is_lawful}
use Rattle.journal_model.specs.Refusals.{move_refusal, load_refusal, release_refusal, begin_merge_refusal, merge_refusal}
use Rattle.journal_model.specs.Counts.{counts_of}
use Rattle.journal_model.specs.Groups.{small_groups, meet_groups, numbers_of}
use Rattle.journal_model.specs.Views.{shown, places}
use Rattle.journal_model.proofs.IndexedLaws.{layout_of-index}
use Rattle.journal_model.specs.Examples.{row, key, at, two, four, positions, Leaves, sealed, inserting, upserting, removing, ticking, sealing, looking, numbering, loading, releasing, listing, merging, purging, spread, thinned, batch}

-- ---- Put

pub insert_leaves : Leaves four inserting (0 ∷ 2 ∷ 4 ∷ []) [] [] 6 (((0, Some 4) ∷ (2, None) ∷ (4, None) ∷ []) ∷ [])
unfolding inserting four at row key
insert_leaves = record {
  journal = (refl, (refl, (refl, (refl, (refl, (refl, tt))))));
  lawful = (refl, (refl, (refl, (refl, (refl, (refl, tt))))));
  tail_is = ap (λ (l : Layout). positions l.tail) (layout_of-index four inserting);
  pieces_are = ap (λ (l : Layout). map {B = ℕ × List ℕ} (λ p. (p.0, positions p.1)) (map {B = ℕ × List Placed} (λ s. (s.number, s.piece)) l.segments)) (layout_of-index four inserting);
  homes_are = ap (λ (l : Layout). map {B = ℕ × List Home} (λ s. (s.number, s.homes)) l.segments) (layout_of-index four inserting);
  tick_is = refl;
  parts_are = ap (λ (l : Layout). map (map {B = ℕ × Option ℕ} (λ s. (s.position, s.mark))) (map (map (shown inserting)) (l.tail ∷ places l.segments))) (layout_of-index four inserting);
}

pub upsert_leaves : Leaves two upserting (2 ∷ []) ((3, 0 ∷ 1 ∷ []) ∷ []) ((3, Leader ∷ []) ∷ []) 4 (((2, None) ∷ []) ∷ ((0, Some 3) ∷ (1, None) ∷ []) ∷ [])
unfolding upserting sealed two at row layout_of
upsert_leaves = record { journal = (refl, (refl, (refl, (refl, tt)))); lawful = (refl, (refl, (refl, (refl, tt)))); tail_is = refl; pieces_are = refl; homes_are = refl; tick_is = refl; parts_are = refl }

-- ---- Remove

pub remove_leaves : Leaves four removing (0 ∷ 3 ∷ []) [] [] 5 (((0, Some 2) ∷ (3, None) ∷ []) ∷ [])
unfolding removing four at row key layout_of
remove_leaves = record { journal = (refl, (refl, (refl, (refl, (refl, tt))))); lawful = (refl, (refl, (refl, (refl, (refl, tt))))); tail_is = refl; pieces_are = refl; homes_are = refl; tick_is = refl; parts_are = refl }

-- ---- Tick

pub tick_leaves : Leaves four ticking (1 ∷ 3 ∷ []) [] [] 3 (((1, None) ∷ (3, None) ∷ []) ∷ [])
unfolding ticking four at row layout_of
tick_leaves = record { journal = (refl, (refl, (refl, (refl, tt)))); lawful = (refl, (refl, (refl, (refl, tt)))); tail_is = refl; pieces_are = refl; homes_are = refl; tick_is = refl; parts_are = refl }

-- ---- Seal

pub seal_leaves : Leaves two sealing (3 ∷ []) ((3, 0 ∷ []) ∷ []) ((3, Leader ∷ []) ∷ []) 5 (((3, None) ∷ []) ∷ ((0, None) ∷ []) ∷ [])
unfolding sealing two at row layout_of
seal_leaves = record { journal = (refl, (refl, (refl, (refl, (refl, tt))))); lawful = (refl, (refl, (refl, (refl, (refl, tt))))); tail_is = refl; pieces_are = refl; homes_are = refl; tick_is = refl; parts_are = refl }

-- the next seal is answered by the one row of the tail
pub seal_answer : answer_at two sealing (Seal (at 6)) ≡ Sealed 1
unfolding sealing two at row layout_of
seal_answer = refl

-- ---- Look

pub look_leaves : Leaves two looking (0 ∷ []) [] [] 2 (((0, None) ∷ []) ∷ [])
unfolding looking two at row layout_of
look_leaves = record { journal = (refl, (refl, (refl, (refl, (refl, tt))))); lawful = (refl, (refl, (refl, (refl, (refl, tt))))); tail_is = refl; pieces_are = refl; homes_are = refl; tick_is = refl; parts_are = refl }

-- a look is served at the tick 2 for the guarantee 2, and pending for 3
pub look_served : answer_at two looking (Look (at 2)) ≡ Served
unfolding looking at
look_served = refl

pub look_pending : answer_at two looking (Look (at 3)) ≡ Pending 2
unfolding looking at
look_pending = refl

-- ---- Number

pub number_leaves : Leaves two numbering [] ((3, 0 ∷ 1 ∷ []) ∷ (35, 3 ∷ []) ∷ []) ((3, Leader ∷ []) ∷ (35, Leader ∷ []) ∷ []) 5 ([] ∷ ((0, None) ∷ (1, None) ∷ []) ∷ ((3, None) ∷ []) ∷ [])
unfolding numbering sealed two at row layout_of
number_leaves = record { journal = (refl, (refl, (refl, (refl, (refl, (refl, tt)))))); lawful = (refl, (refl, (refl, (refl, (refl, (refl, tt)))))); tail_is = refl; pieces_are = refl; homes_are = refl; tick_is = refl; parts_are = refl }

-- no other number is lawful there
pub number_is_next : is_lawful two sealed (note_of 4 0 (Number 35 (at 0))) ≡ false
unfolding sealed two at row layout_of
number_is_next = refl

-- ---- Load

pub load_leaves : Leaves two loading [] ((3, 0 ∷ 1 ∷ []) ∷ []) ((3, Node 1 ∷ Node 0 ∷ []) ∷ []) 4 ([] ∷ ((0, Some 3) ∷ (1, None) ∷ []) ∷ ((0, Some 3) ∷ (1, None) ∷ []) ∷ [])
unfolding loading sealed two at row key layout_of
load_leaves = record { journal = (refl, (refl, (refl, (refl, (refl, (refl, tt)))))); lawful = (refl, (refl, (refl, (refl, (refl, (refl, tt)))))); tail_is = refl; pieces_are = refl; homes_are = refl; tick_is = refl; parts_are = refl }

-- a segment is not loaded where it is, nor moved from the leader once it is on nodes: the least is told
pub load_again : load_refusal (layout_of two loading) 3 (Node 0) 1 ≡ Some (Already 3 1)
unfolding loading sealed two at row key layout_of
load_again = refl

pub leader_gone : move_refusal (layout_of two loading) 3 Leader ≡ Some (Already 3 0)
unfolding loading sealed two at row key layout_of
leader_gone = refl

pub other_node : move_refusal (layout_of two loading) 3 (Node 2) ≡ Some (NotThere 3 2)
unfolding loading sealed two at row key layout_of
other_node = refl

-- ---- Release

pub release_leaves : Leaves two releasing [] ((3, 0 ∷ 1 ∷ []) ∷ []) ((3, Node 0 ∷ []) ∷ []) 3 ([] ∷ ((0, None) ∷ (1, None) ∷ []) ∷ [])
unfolding releasing sealed two at row layout_of
release_leaves = record { journal = (refl, (refl, (refl, (refl, (refl, (refl, tt)))))); lawful = (refl, (refl, (refl, (refl, (refl, (refl, tt)))))); tail_is = refl; pieces_are = refl; homes_are = refl; tick_is = refl; parts_are = refl }

-- the last place stays
pub last_place : release_refusal (layout_of two releasing) 3 0 ≡ Some (LastPlace 3)
unfolding releasing sealed two at row layout_of
last_place = refl

pub last_place_unlawful : is_lawful two releasing (note_of 4 0 (Release 3 0)) ≡ false
unfolding releasing sealed two at row layout_of
last_place_unlawful = refl

-- ---- Lists

pub lists_leave : Leaves two listing [] ((3, 0 ∷ 1 ∷ []) ∷ []) ((3, Node 0 ∷ []) ∷ []) 3 ([] ∷ ((0, None) ∷ (1, None) ∷ []) ∷ [])
unfolding listing sealed two at row layout_of
lists_leave = record { journal = (refl, (refl, (refl, (refl, (refl, (refl, tt)))))); lawful = (refl, (refl, (refl, (refl, (refl, (refl, tt)))))); tail_is = refl; pieces_are = refl; homes_are = refl; tick_is = refl; parts_are = refl }

-- ---- Merge

pub merge_leaves : Leaves two merging [] ((19, 0 ∷ 1 ∷ []) ∷ []) ((19, Node 1 ∷ []) ∷ []) 4 ([] ∷ ((0, Some 3) ∷ (1, None) ∷ []) ∷ [])
unfolding merging sealed two at row key layout_of
merge_leaves = record { journal = (refl, (refl, (refl, (refl, (refl, (refl, (refl, tt))))))); lawful = (refl, (refl, (refl, (refl, (refl, (refl, (refl, tt))))))); tail_is = refl; pieces_are = refl; homes_are = refl; tick_is = refl; parts_are = refl }

-- the number is used, the source is gone, and with no segment the rows would be lost
pub merged_again : is_lawful two merging (note_of 4 0 (Merge (19 ∷ []) (Some 19) 1)) ≡ false
unfolding merging sealed two at row key layout_of
merged_again = refl

pub source_gone : merge_refusal (layout_of two merging) (3 ∷ []) ≡ Some (Gone 3)
unfolding merging sealed two at row key layout_of
source_gone = refl

pub merged_away : is_lawful two merging (note_of 4 0 (Merge (19 ∷ []) None 1)) ≡ false
unfolding merging sealed two at row key layout_of
merged_away = refl

pub purge_leaves : Leaves two purging [] [] [] 5 ([] ∷ [])
unfolding purging sealed two at row key layout_of
purge_leaves = record { journal = (refl, (refl, (refl, (refl, (refl, (refl, (refl, (refl, tt)))))))); lawful = (refl, (refl, (refl, (refl, (refl, (refl, (refl, (refl, tt)))))))); tail_is = refl; pieces_are = refl; homes_are = refl; tick_is = refl; parts_are = refl }

-- ---- groups

-- a group of two keeps two rows; the third stays alone, so a compaction leaves it
pub small : numbers_of (small_groups two spread 0) ≡ (3 ∷ 19 ∷ []) ∷ []
unfolding spread two at row layout_of
small = refl

-- no row is dead, so a meet merges nothing
pub spared : numbers_of (meet_groups two spread 8) ≡ []
unfolding spread two at row layout_of
spared = refl

pub meet : numbers_of (meet_groups two thinned 10) ≡ (3 ∷ 19 ∷ 35 ∷ []) ∷ []
unfolding thinned spread two at row key layout_of
meet = refl

-- at 9 one of three is dead
pub meet_earlier : numbers_of (meet_groups two thinned 9) ≡ []
unfolding thinned spread two at row key layout_of
meet_earlier = refl

-- the tail, the waiting segments, the rows on nodes, and those of them that are alive
pub counts : ((counts_of two thinned).tail ∷ (counts_of two thinned).waiting ∷ (counts_of two thinned).node_rows ∷ (counts_of two thinned).node_live ∷ []) ≡ 0 ∷ 1 ∷ 3 ∷ 1 ∷ []
unfolding thinned spread two at row key layout_of
counts = refl

-- a merge begins of segments on nodes alone
pub waiting_source : begin_merge_refusal (layout_of two spread) (35 ∷ 51 ∷ []) ≡ Some (Gone 51)
unfolding spread two at row layout_of
waiting_source = refl

-- ---- batches: one seat, one line, one timestamp, and different keys

pub in_batch : is_next batch (note_of 1 2 (Remove (at 5) (key 3))) ≡ true
unfolding batch at row key
in_batch = refl

pub key_twice : is_next batch (note_of 1 2 (Remove (at 5) (key 1))) ≡ false
unfolding batch at row key
key_twice = refl

pub other_line : is_next batch (note_of 1 3 (Remove (at 5) (key 3))) ≡ false
unfolding batch at row key
other_line = refl

pub other_seat : is_next batch (note_of 2 2 (Remove (at 5) (key 3))) ≡ false
unfolding batch at row key
other_seat = refl

pub look_between : is_next (batch ++ note_of 1 2 (Look (at 0)) ∷ []) (note_of 1 2 (Remove (at 5) (key 3))) ≡ false
unfolding batch at row key
look_between = refl

pub tick_at_batch : is_next batch (note_of 1 2 (Tick (at 5))) ≡ false
unfolding batch at row
tick_at_batch = refl

pub tick_above : is_next batch (note_of 2 9 (Tick (at 6))) ≡ true
unfolding batch at row
tick_above = refl

-- a change at timestamp 0 is none
pub no_zero : is_next [] (note_of 1 2 (Remove (at 0) (key 3))) ≡ false
unfolding at key
no_zero = refl
