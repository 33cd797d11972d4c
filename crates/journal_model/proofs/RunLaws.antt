-- Every run keeps a state sound, and each view that it gives is exact from then on.
use Rattle.std.proofs.Common.{◌≡◌, ℕ, ◌≤◌, true, false, cond, ◌&&◌, List, [], ◌∷◌, ◌++◌, map, refl, sym, ap, subst, ◌∙◌, ⊎_elim, arith, append-nil, append_assoc, eqb-true, leb-true}
use Rattle.std.specs.Prelude.{nat_le}
use Rattle.std.specs.List.{AllByRecursion}
use Rattle.std.proofs.lemmas.Bool.{and_parts}
use Rattle.std.proofs.lemmas.List.{map-append}
use Rattle.log_model.proofs.LogLaws.{each-append, each_implied}
use Rattle.journal_model.specs.declared.notes.Home.{Home}
use Rattle.journal_model.specs.declared.notes.Kind.{Kind}
use Rattle.journal_model.specs.declared.notes.Kind.TheVariants.{Number}
use Rattle.journal_model.specs.declared.notes.Note.{Note}
use Rattle.journal_model.specs.Notes.{tick_after, tick_of}
use Rattle.journal_model.specs.Journals.{is_next, IsJournal}
use Rattle.journal_model.specs.Layouts.{Channel, Segment, Layout, rows_in, layout_of}
use Rattle.journal_model.specs.Lawful.{is_lawful, IsLawful}
use Rattle.journal_model.specs.Lists.{IsIn, joined}
use Rattle.journal_model.specs.Views.{shown, ShowsLive, IsExact, copies, places, view_of}
use Rattle.journal_model.specs.Runs.{AreHomes, IsSegment, IsFloorUpTo, FloorsUpTo, State, Act, Append, Raise, is_timely, is_step, after_act, run, IsSound}
use Rattle.log_model.specs.Places.{Placed}
use Rattle.journal_model.proofs.WalkLaws.{each-snoc}
use Rattle.journal_model.proofs.NoteLaws.{tick_of-snoc}
use Rattle.journal_model.proofs.ViewLaws.{view_shows, view_stays, tick_follows, goes_on}
use Rattle.journal_model.proofs.ListLaws.{in_left, in_right, in_cases, joined-append}
use Rattle.journal_model.proofs.LayoutLaws.{held}

-- ---- the rows of a view

module _ (x : Placed) where
  out_copies : (s : Segment) (homes : List Home) → IsIn x (joined (map (λ home. s.piece) homes)) → IsIn x s.piece
  out_copies s [] h = absurd h
  out_copies s (home ∷ homes) h = ⊎_elim (λ l. l) (λ r. out_copies s homes r) (in_cases x s.piece (joined (map (λ z. s.piece) homes)) h)

  in_copies : (s : Segment) (homes : List Home) → AreHomes homes → IsIn x s.piece → IsIn x (joined (map (λ home. s.piece) homes))
  in_copies s [] are h = absurd are
  in_copies s (home ∷ homes) are h = in_left x s.piece (joined (map (λ z. s.piece) homes)) h

  out_places : (segments : List Segment) → IsIn x (joined (places segments)) → IsIn x (rows_in segments)
  out_places [] h = h
  out_places (s ∷ segments) h = ⊎_elim
      (λ l. in_left x s.piece (rows_in segments) (out_copies s s.homes l))
      (λ r. in_right x s.piece (rows_in segments) (out_places segments r))
      (in_cases x (joined (copies s)) (joined (places segments)) (subst (IsIn x) (joined-append (copies s) (places segments)) h))

  in_places : (segments : List Segment) → AllByRecursion IsSegment segments → IsIn x (rows_in segments) → IsIn x (joined (places segments))
  in_places [] a h = h
  in_places (s ∷ segments) a h = subst (IsIn x) (sym (joined-append (copies s) (places segments))) (⊎_elim
      (λ l. in_left x (joined (copies s)) (joined (places segments)) (in_copies s s.homes a.0.homes l))
      (λ r. in_right x (joined (copies s)) (joined (places segments)) (in_places segments a.1 r))
      (in_cases x s.piece (rows_in segments) h))

joined-map : {X Y : Type 0} (f : X → Y) (xs : List (List X)) → joined (map (map f) xs) ≡ map f (joined xs)
joined-map f [] = refl
joined-map f (x ∷ xs) = ap (λ l. map f x ++ l) (joined-map f xs) ∙ sym (map-append f x (joined xs))

-- the view of a sound state is exact
pub look_shows : (channel : Channel) (s : State) → IsSound channel s → ShowsLive s.notes (view_of channel s.floor s.notes)
look_shows channel s sound =
    let layout : Layout = layout_of channel s.notes in
    view_shows s.notes (view_of channel s.floor s.notes) (layout.tail ++ joined (places layout.segments)) sound.journal
    (λ x i. sound.rows.correct x (⊎_elim
    (λ t. in_right x (rows_in layout.segments) layout.tail t)
    (λ p. in_left x (rows_in layout.segments) layout.tail (out_places x layout.segments p))
    (in_cases x layout.tail (joined (places layout.segments)) i)))
    (λ x put alive. ⊎_elim
    (λ l. in_right x layout.tail (joined (places layout.segments)) (in_places x layout.segments sound.segments l))
    (λ t. in_left x layout.tail (joined (places layout.segments)) t)
    (in_cases x (rows_in layout.segments) layout.tail (sound.rows.cover x put alive)))
    (joined-map (shown s.notes) (layout.tail ∷ places layout.segments))

-- ---- steps

timely_up_to : (floor : ℕ) (kind : Kind) → is_timely floor kind ≡ true → IsFloorUpTo floor kind
timely_up_to floor (Number segment begun) h = let same : begun.0 ≡ floor = eqb-true begun.0 floor h in omega arith
timely_up_to floor _ h = tt

floors_weaker : (low high : ℕ) (kind : Kind) → low ≤ high → IsFloorUpTo low kind → IsFloorUpTo high kind
floors_weaker low high (Number segment begun) h f = omega arith
floors_weaker low high _ h f = tt

-- what a lawful journal's layout adds to its state
sound_from : (channel : Channel) (s : State) → IsJournal s.notes → IsLawful channel s.notes → FloorsUpTo s.floor s.notes → s.floor ≤ tick_of s.notes → IsSound channel s
sound_from channel s journal lawful floors floor =
    let h = held channel s.floor s.notes lawful floors in
    record { journal = journal; lawful = lawful; floors = floors; floor = floor; rows = h.rows; segments = h.segments; tail = h.tail }

pub append_sound : (channel : Channel) (s : State) (note : Note) → IsSound channel s → is_step channel s note ≡ true → IsSound channel (record { notes = s.notes ++ note ∷ []; floor = s.floor })
append_sound channel s note sound ok =
    let parts = and_parts (is_next s.notes note) (is_lawful channel s.notes note && is_timely s.floor note.kind) ok in
    let more = and_parts (is_lawful channel s.notes note) (is_timely s.floor note.kind) parts.1 in
    let lawful : IsLawful channel (s.notes ++ note ∷ []) = each-snoc (λ before n. is_lawful channel before n ≡ true) s.notes note sound.lawful more.0 in
    let floors : FloorsUpTo s.floor (s.notes ++ note ∷ []) = each-append (λ n. IsFloorUpTo s.floor n.kind) s.notes (note ∷ []) sound.floors (timely_up_to s.floor note.kind more.1, tt) in
    let tick : tick_of (s.notes ++ note ∷ []) ≡ tick_after (tick_of s.notes) note.kind = tick_of-snoc s.notes note in
    let rises : tick_of s.notes ≤ tick_after (tick_of s.notes) note.kind = tick_follows s.notes note parts.0 in
    let old = sound.floor in
    sound_from channel (record { notes = s.notes ++ note ∷ []; floor = s.floor }) (each-snoc (λ before n. is_next before n ≡ true) s.notes note sound.journal parts.0) lawful floors (omega arith)

pub raise_sound : (channel : Channel) (s : State) (floor : ℕ) → IsSound channel s → s.floor ≤ floor → floor ≤ tick_of s.notes → IsSound channel (record { notes = s.notes; floor = floor })
raise_sound channel s floor sound low high =
    let floors : FloorsUpTo floor s.notes = each_implied (λ n. IsFloorUpTo s.floor n.kind) (λ n. IsFloorUpTo floor n.kind) (λ n f. floors_weaker s.floor floor n.kind low f) s.notes sound.floors in
    sound_from channel (record { notes = s.notes; floor = floor }) sound.journal sound.lawful floors high

-- a state that came from another by steps
pub record Later (channel : Channel) (s t : State) : Type 0 where
  pub sound : IsSound channel t
  pub more : List Note
  pub is : t.notes ≡ s.notes ++ more

stays : (channel : Channel) (s : State) → IsSound channel s → Later channel s s
stays channel s sound = record { sound = sound; more = []; is = sym (append-nil s.notes) }

step_later : (channel : Channel) (s : State) (act : Act) → IsSound channel s → Later channel s (after_act channel s act)
step_later channel s (Append note) sound = elim (is_step channel s note) as (λ b. is_step channel s note ≡ b → Later channel s (cond b (record { notes = s.notes ++ note ∷ []; floor = s.floor }) s)) [
  | true ↦ λ e. record { sound = append_sound channel s note sound e; more = note ∷ []; is = refl }
  | false ↦ λ e. stays channel s sound
] refl
step_later channel s (Raise floor) sound = elim (nat_le s.floor floor && nat_le floor (tick_of s.notes)) as (λ b. (nat_le s.floor floor && nat_le floor (tick_of s.notes)) ≡ b → Later channel s (cond b (record { notes = s.notes; floor = floor }) s)) [
  | true ↦ λ e.
      let parts = and_parts (nat_le s.floor floor) (nat_le floor (tick_of s.notes)) e in
      record { sound = raise_sound channel s floor sound (leb-true s.floor floor parts.0) (leb-true floor (tick_of s.notes) parts.1); more = []; is = sym (append-nil s.notes) }
  | false ↦ λ e. stays channel s sound
] refl

pub run_later : (channel : Channel) (s : State) (acts : List Act) → IsSound channel s → Later channel s (run channel s acts)
run_later channel s [] sound = stays channel s sound
run_later channel s (act ∷ acts) sound =
    let first = step_later channel s act sound in
    let rest = run_later channel (after_act channel s act) acts first.sound in
    record { sound = rest.sound; more = first.more ++ rest.more; is = rest.is ∙ ap (λ l. l ++ rest.more) first.is ∙ append_assoc s.notes first.more rest.more }

pub run_sound : (channel : Channel) (s : State) (acts : List Act) → IsSound channel s → IsSound channel (run channel s acts)
run_sound channel s acts sound = (run_later channel s acts sound).sound

-- a view of a sound state is exact, and shows the live rows of every journal that extends its own
pub look_stays : (channel : Channel) (s : State) (more : List Note) → IsSound channel s → IsJournal (s.notes ++ more) → ShowsLive (s.notes ++ more) (view_of channel s.floor s.notes)
look_stays channel s more sound journal = view_stays s.notes more (view_of channel s.floor s.notes) (goes_on s.notes more journal).above (look_shows channel s sound)

pub run_stays : (channel : Channel) (s : State) (acts : List Act) → IsSound channel s → ShowsLive (run channel s acts).notes (view_of channel s.floor s.notes)
run_stays channel s acts sound =
    let later = run_later channel s acts sound in
    subst (λ l. ShowsLive l (view_of channel s.floor s.notes)) (sym later.is)
    (look_stays channel s later.more sound (subst IsJournal later.is later.sound.journal))

pub look_exact : (channel : Channel) (s : State) → IsSound channel s → IsExact s.notes (view_of channel s.floor s.notes)
look_exact channel s sound = record { tick_is = refl; shows = look_shows channel s sound }
