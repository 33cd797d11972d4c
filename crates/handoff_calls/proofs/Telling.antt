-- What a handoff owes in its own words.
use Rattle.std.proofs.Common.{◌≡◌, ℕ, zero, suc, ◌⊎◌, inl, inr, Bool, cond, List, [], ◌∷◌, ◌++◌, map, Option, Some, None, refl, ap, sym, ◌∙◌, subst, arith, ne_eqb, eq-eqb}
use Rattle.std.specs.Prelude.{◌<◌}
use Rattle.std.specs.List.{Contains}
use Rattle.std.proofs.lemmas.List.Elements.{Contains-append_left, Contains-append_right, Contains-append_cases}
use Rattle.turn_facts.specs.Counts.{count, Among}
use Rattle.turn_facts.proofs.Counts.{count-nil, count-else}
use Rattle.turn_facts.proofs.Places.{same_or}
use Rattle.journal_model.specs.declared.notes.Kind.{Kind}
use Rattle.journal_model.specs.declared.notes.Kind.TheVariants.{Load}
use Rattle.journal_model.specs.declared.notes.Note.{Note}
use Rattle.journal_model.specs.Notes.{note_of}
use Rattle.journal_model.specs.Layouts.{Channel}
use Rattle.binlog_format.specs.declared.objects.ListFile.{ListFile}
use Rattle.seg_sealed.specs.Parts.{SegmentPart}
use Rattle.part_objects.specs.Spellings.{name_of, list_objects}
use Rattle.part_objects.specs.declared.names.ObjectKind.{ObjectKind}
use Rattle.part_objects.specs.declared.names.ObjectKind.TheVariants as kind
use Rattle.part_objects.specs.declared.objects.Object.{Object}
use Rattle.shard_core.specs.Counting.{waiting_numbers}
use Rattle.seat_walks.specs.Walks.{Turned}
use Rattle.vault.specs.declared.notes.KeeperCall.{KeeperCall}
use Rattle.vault.specs.declared.notes.KeeperCall.TheVariants.{Put, Get}
use Rattle.vault.specs.declared.notes.Outcome.{Outcome}
use Rattle.vault.specs.declared.notes.Outcome.TheVariants.{Done, Failed}
use Rattle.vault.specs.declared.notes.VaultNote.{VaultNote}
use Rattle.vault.specs.Names.{names_of}
use Rattle.vault.specs.Notes as notes
use Rattle.vault.specs.Notes.{notes_up_to, alike_notes, faults_as}
use Rattle.vault.specs.Stores.{kept_notes, IsLeft}
use Rattle.handoff_calls.specs.Turns.{WaitsNot, LoadsOr}
use Rattle.handoff_calls.specs.Handoffs.{Hand, Gone, Left, Moved, front_in, vault_in, all_front, all_vault, notes_of, IsBegun, IsStoredInVain, IsCommitted, IsHand, AreHands, IsHandoff}
use Rattle.handoff_calls.specs.Facts.{HasFault, IsHandedOver, IsStoredFirst}
use Rattle.handoff_calls.proofs.Counting.{notes-append}
use Rattle.handoff_calls.proofs.Homes.{load_takes}

-- the segment of a load
abbrev number_in : Kind → ℕ
number_in (Load segment node) = segment
number_in _ = 0

-- ---- lists

here : {X : Type 0} (x : X) (xs : List X) → Contains (x ∷ xs) x
here x xs = (0, omega arith, refl)

nothing : {X : Type 0} (x : X) → Contains [] x → ⊥
nothing x c = let lt : c.0 < 0 = c.1 in absurd (omega arith)

only : {X : Type 0} (a x : X) → Contains (a ∷ []) x → x ≡ a
only a x (zero, lt, e) = sym e
only a x (suc k, lt, e) = let no : suc k < 1 = lt in absurd (omega arith)

head_or : {X : Type 0} (a : X) (xs : List X) (x : X) → Contains (a ∷ xs) x → (x ≡ a) ⊎ Contains xs x
head_or a xs x c = elim (Contains-append_cases (a ∷ []) xs x c) as (λ _. (x ≡ a) ⊎ Contains xs x) [
  | inl one ↦ inl (only a x one)
  | inr rest ↦ inr rest
]

in_front : {X : Type 0} (a : X) (xs : List X) (x : X) → Contains xs x → Contains (a ∷ xs) x
in_front a xs x c = Contains-append_right (a ∷ []) xs x c

-- ---- names

list_named : (segment : ℕ) (lists : Option ListFile) (object : ℕ) → Contains (map (λ (o : Object). o.name) (list_objects segment lists)) object → (k : ObjectKind) × (object ≡ name_of segment k)
list_named segment None object c = absurd (nothing object c)
list_named segment (Some file) object c = elim (head_or (name_of segment kind.ListFile) [] object c) as (λ _. (k : ObjectKind) × (object ≡ name_of segment k)) [
  | inl e ↦ (kind.ListFile, e)
  | inr none ↦ absurd (nothing object none)
]

-- the objects of a part are named after its segment
named : (part : SegmentPart) (object : ℕ) → Contains (names_of part) object → (k : ObjectKind) × (object ≡ name_of part.sealed.number k)
named part object c =
    let rest : List ℕ = map (λ (o : Object). o.name) (list_objects part.sealed.number part.sealed.lists) in
    elim (head_or (name_of part.sealed.number kind.InsertLog) (name_of part.sealed.number kind.DeleteLog ∷ rest) object c) as (λ _. (k : ObjectKind) × (object ≡ name_of part.sealed.number k)) [
      | inl e ↦ (kind.InsertLog, e)
      | inr more ↦ elim (head_or (name_of part.sealed.number kind.DeleteLog) rest object more) as (λ _. (k : ObjectKind) × (object ≡ name_of part.sealed.number k)) [
        | inl e ↦ (kind.DeleteLog, e)
        | inr last ↦ list_named part.sealed.number part.sealed.lists object last
      ]
    ]

-- ---- the last note of calls in turn

found : (x : ℕ) (xs : List ℕ) → Among x xs → Contains xs x
found x [] a = let n : count x [] ≡ 0 = count-nil x in absurd (omega arith)
found x (y ∷ ys) a = elim (same_or y x) as (λ _. Contains (y ∷ ys) x) [
  | inl e ↦ subst (λ (z : ℕ). Contains (z ∷ ys) x) (sym e) (here x ys)
  | inr n ↦ let c : count x (y ∷ ys) ≡ count x ys = count-else x y ys n in in_front y ys x (found x ys (omega arith))
]

last_noted : (by line : ℕ) (call : KeeperCall) (last : ℕ) (outcome : Outcome) (objects : List ℕ) → Among last objects → Contains (notes_up_to by line call last outcome objects) (notes.note_of by line call last outcome)
last_noted by line call last outcome [] a = let n : count last [] ≡ 0 = count-nil last in absurd (omega arith)
last_noted by line call last outcome (x ∷ xs) a = elim (same_or x last) as (λ _. Contains (notes_up_to by line call last outcome (x ∷ xs)) (notes.note_of by line call last outcome)) [
  | inl e ↦
      subst (λ (b : Bool). Contains (cond b (notes.note_of by line call x outcome ∷ []) (notes.note_of by line call x Done ∷ notes_up_to by line call last outcome xs)) (notes.note_of by line call last outcome)) (sym (eq-eqb x last e))
      (subst (λ (z : ℕ). Contains (notes.note_of by line call z outcome ∷ []) (notes.note_of by line call last outcome)) (sym e) (here (notes.note_of by line call last outcome) []))
  | inr n ↦
      let c : count last (x ∷ xs) ≡ count last xs = count-else last x xs n in
      subst (λ (b : Bool). Contains (cond b (notes.note_of by line call x outcome ∷ []) (notes.note_of by line call x Done ∷ notes_up_to by line call last outcome xs)) (notes.note_of by line call last outcome)) (sym (ne_eqb x last n))
      (in_front (notes.note_of by line call x Done) (notes_up_to by line call last outcome xs) (notes.note_of by line call last outcome) (last_noted by line call last outcome xs (omega arith)))
]

module _ (keeps line : ℕ) where
  -- what was stored in vain has a fault on an object of its segment
  vain_fault : (segment : ℕ) (part : SegmentPart) (l : List VaultNote) → part.sealed.number ≡ segment → IsLeft keeps line (names_of part) l → HasFault segment l
  vain_fault segment part l number left =
      let name = named part left.object (found left.object (names_of part) left.among) in
      let object : left.object ≡ name_of segment name.0 = name.1 ∙ ap (λ (n : ℕ). name_of n name.0) number in
      elim left.noted as (λ _. HasFault segment l) [
        | inl e ↦ record {
          note = notes.note_of keeps line Put left.object Failed;
          there = subst (λ (m : List VaultNote). Contains m (notes.note_of keeps line Put left.object Failed)) (sym e) (last_noted keeps line Put left.object Failed (names_of part) left.among);
          kind = name.0;
          object = object;
          bad = refl;
        }
        | inr b ↦ record {
          note = notes.note_of keeps line Get left.object b.outcome;
          there = subst (λ (m : List VaultNote). Contains m (notes.note_of keeps line Get left.object b.outcome)) (sym b.noted)
              (Contains-append_right (alike_notes keeps line Put Done (names_of part)) (notes_up_to keeps line Get left.object b.outcome (names_of part)) (notes.note_of keeps line Get left.object b.outcome) (last_noted keeps line Get left.object b.outcome (names_of part) left.among));
          kind = name.0;
          object = object;
          bad = b.bad;
        }
      ]

fault_within : (segment : ℕ) (l m : List VaultNote) → ((x : VaultNote) → Contains l x → Contains m x) → HasFault segment l → HasFault segment m
fault_within segment l m within h = record { note = h.note; there = within h.note h.there; kind = h.kind; object = h.object; bad = h.bad }

module _ (channel : Channel) (nodes by keeps line : ℕ) where
  abbrev Over : List (Turned Note) → List (Turned VaultNote) → ℕ → Type 0
  Over turns stores segment = IsHandedOver channel turns stores segment

  -- over longer lists
  over_within : (ts ts' : List (Turned Note)) (us us' : List (Turned VaultNote)) (segment : ℕ) → ((t : Turned Note) → Contains ts t → Contains ts' t) → ((x : VaultNote) → Contains (notes_of us) x → Contains (notes_of us') x) → Over ts us segment → Over ts' us' segment
  over_within ts ts' us us' segment f g h = elim h.over as (λ _. Over ts' us' segment) [
    | inl w ↦ record { over = inl (w.0, f w.0 w.1, w.2) }
    | inr bad ↦ record { over = inr (fault_within segment (notes_of us) (notes_of us') g bad) }
  ]

  loaded_over : (segment : ℕ) (begun loaded : Turned Note) (us : List (Turned VaultNote)) → LoadsOr channel nodes by line segment loaded.before loaded.notes → Over (begun ∷ loaded ∷ []) us segment
  loaded_over segment begun loaded us (inl l) =
      let there : Contains (begun ∷ loaded ∷ []) loaded = in_front begun (loaded ∷ []) loaded (here loaded []) in
      record { over = inl (loaded, there, inr (subst (λ (n : List Note). WaitsNot channel (loaded.before ++ n) segment) (sym l.noted) (load_takes channel loaded.before by line segment l.node))) }
  loaded_over segment begun loaded us (inr n) = record { over = inl (loaded, in_front begun (loaded ∷ []) loaded (here loaded []), inl n.gone) }

  one_over : (segment : ℕ) (hand : Hand) → IsHand channel nodes by keeps line segment hand → Over (front_in hand) (vault_in hand) segment
  one_over segment (Gone begun) is = record { over = inl (begun, here begun [], inl is.1) }
  one_over segment (Left begun moving store) is =
      let b : IsBegun channel nodes by keeps line segment begun moving = is.0 in
      let v : IsStoredInVain channel nodes by keeps line moving store = is.1 in
      record { over = inr (fault_within segment store.notes (store.notes ++ []) (λ x c. Contains-append_left store.notes [] x c) (vain_fault keeps line segment moving.part store.notes b.begins.segment_is v.left)) }
  one_over segment (Moved begun moving store loaded) is =
      let c : IsCommitted channel nodes by keeps line segment loaded = is.2 in loaded_over segment begun loaded (store ∷ []) c.loads

  all_over : (segments : List ℕ) (hands : List Hand) (segment : ℕ) → AreHands channel nodes by keeps line segments hands → Contains segments segment → Over (all_front hands) (all_vault hands) segment
  all_over [] hands segment are c = absurd (nothing segment c)
  all_over (s ∷ segments) [] segment are c = absurd are
  all_over (s ∷ segments) (hand ∷ hands) segment are c = elim (head_or s segments segment c) as (λ _. Over (all_front (hand ∷ hands)) (all_vault (hand ∷ hands)) segment) [
    | inl e ↦
        let is : IsHand channel nodes by keeps line segment hand = subst (λ (n : ℕ). IsHand channel nodes by keeps line n hand) (sym e) are.0 in
        over_within (front_in hand) (front_in hand ++ all_front hands) (vault_in hand) (vault_in hand ++ all_vault hands) segment (λ t h. Contains-append_left (front_in hand) (all_front hands) t h)
        (λ x h. subst (λ (l : List VaultNote). Contains l x) (sym (notes-append (vault_in hand) (all_vault hands))) (Contains-append_left (notes_of (vault_in hand)) (notes_of (all_vault hands)) x h)) (one_over segment hand is)
    | inr rest ↦
        over_within (all_front hands) (front_in hand ++ all_front hands) (all_vault hands) (vault_in hand ++ all_vault hands) segment (λ t h. Contains-append_right (front_in hand) (all_front hands) t h)
        (λ x h. subst (λ (l : List VaultNote). Contains l x) (sym (notes-append (vault_in hand) (all_vault hands))) (Contains-append_right (notes_of (vault_in hand)) (notes_of (all_vault hands)) x h)) (all_over segments hands segment are.1 rest)
  ]

  pub handed_over : (left : ℕ) (turns : List (Turned Note)) (stores : List (Turned VaultNote)) (is : IsHandoff channel nodes by keeps line left turns stores) (segment : ℕ) → Contains (waiting_numbers channel is.look.before) segment → Over turns stores segment
  handed_over left turns stores is segment c =
      over_within (all_front is.hands) turns (all_vault is.hands) stores segment (λ t h. subst (λ (l : List (Turned Note)). Contains l t) (sym is.front) (in_front is.look (all_front is.hands) t h))
      (λ x h. subst (λ (l : List (Turned VaultNote)). Contains (notes_of l) x) (sym is.vault) h) (all_over (waiting_numbers channel is.look.before) is.hands segment is.each c)

  -- ---- stored first

  -- a part of that segment was stored in one of these turns
  pub record WasStored (stores : List (Turned VaultNote)) (segment : ℕ) : Type 0 where
    pub part : SegmentPart
    pub turn : Turned VaultNote
    pub number : part.sealed.number ≡ segment
    pub there : Contains stores turn
    pub notes : turn.notes ≡ kept_notes keeps line (names_of part)

  stored_within : (us us' : List (Turned VaultNote)) (segment : ℕ) → ((u : Turned VaultNote) → Contains us u → Contains us' u) → WasStored us segment → WasStored us' segment
  stored_within us us' segment f h = record { part = h.part; turn = h.turn; number = h.number; there = f h.turn h.there; notes = h.notes }

  quiet_none : {X : Type 0} (l : List X) (x : X) → l ≡ [] → Contains l x → ⊥
  quiet_none l x e c = nothing x (subst (λ (m : List _). Contains m x) e c)

  same_segment : (by' segment node segment' node' : ℕ) → note_of by' line (Load segment node) ≡ note_of by line (Load segment' node') → segment ≡ segment'
  same_segment by' segment node segment' node' e = ap (λ (n : Note). number_in n.kind) e

  loaded_stored : (by' segment node segment' : ℕ) (loaded : Turned Note) (part : SegmentPart) (store : Turned VaultNote) → part.sealed.number ≡ segment' → store.notes ≡ kept_notes keeps line (names_of part) → LoadsOr channel nodes by line segment' loaded.before loaded.notes
      → Contains loaded.notes (note_of by' line (Load segment node)) → WasStored (store ∷ []) segment
  loaded_stored by' segment node segment' loaded part store number kept (inr n) c = absurd (quiet_none loaded.notes (note_of by' line (Load segment node)) n.none c)
  loaded_stored by' segment node segment' loaded part store number kept (inl l) c =
      elim (head_or (note_of by line (Load segment' l.node)) [] (note_of by' line (Load segment node)) (subst (λ (m : List Note). Contains m (note_of by' line (Load segment node))) l.noted c)) as (λ _. WasStored (store ∷ []) segment) [
        | inl e ↦ record { part = part; turn = store; number = number ∙ sym (same_segment by' segment node segment' l.node e); there = here store []; notes = kept }
        | inr none ↦ absurd (nothing (note_of by' line (Load segment node)) none)
      ]

  one_stored : (segment' : ℕ) (hand : Hand) (t : Turned Note) (by' segment node : ℕ) → IsHand channel nodes by keeps line segment' hand → Contains (front_in hand) t → Contains t.notes (note_of by' line (Load segment node)) → WasStored (vault_in hand) segment
  one_stored segment' (Gone begun) t by' segment node is c l = elim (head_or begun [] t c) as (λ _. WasStored [] segment) [
    | inl e ↦ absurd (quiet_none t.notes (note_of by' line (Load segment node)) (ap (λ (x : Turned Note). x.notes) e ∙ is.0.none) l)
    | inr none ↦ absurd (nothing t none)
  ]
  one_stored segment' (Left begun moving store) t by' segment node is c l = elim (head_or begun [] t c) as (λ _. WasStored (store ∷ []) segment) [
    | inl e ↦ absurd (quiet_none t.notes (note_of by' line (Load segment node)) (ap (λ (x : Turned Note). x.notes) e ∙ is.0.turn.none) l)
    | inr none ↦ absurd (nothing t none)
  ]
  one_stored segment' (Moved begun moving store loaded) t by' segment node is c l =
      let placed : IsCommitted channel nodes by keeps line segment' loaded = is.2 in
      elim (head_or begun (loaded ∷ []) t c) as (λ _. WasStored (store ∷ []) segment) [
        | inl e ↦ absurd (quiet_none t.notes (note_of by' line (Load segment node)) (ap (λ (x : Turned Note). x.notes) e ∙ is.0.turn.none) l)
        | inr rest ↦ elim (head_or loaded [] t rest) as (λ _. WasStored (store ∷ []) segment) [
          | inl e ↦ loaded_stored by' segment node segment' loaded moving.part store is.0.begins.segment_is is.1.kept placed.loads (subst (λ (x : Turned Note). Contains x.notes (note_of by' line (Load segment node))) e l)
          | inr none ↦ absurd (nothing t none)
        ]
      ]

  all_stored : (segments : List ℕ) (hands : List Hand) (t : Turned Note) (by' segment node : ℕ) → AreHands channel nodes by keeps line segments hands → Contains (all_front hands) t → Contains t.notes (note_of by' line (Load segment node)) → WasStored (all_vault hands) segment
  all_stored segments [] t by' segment node are c l = absurd (nothing t c)
  all_stored [] (hand ∷ hands) t by' segment node are c l = absurd are
  all_stored (s ∷ segments) (hand ∷ hands) t by' segment node are c l = elim (Contains-append_cases (front_in hand) (all_front hands) t c) as (λ _. WasStored (vault_in hand ++ all_vault hands) segment) [
    | inl one ↦ stored_within (vault_in hand) (vault_in hand ++ all_vault hands) segment (λ u h. Contains-append_left (vault_in hand) (all_vault hands) u h) (one_stored s hand t by' segment node are.0 one l)
    | inr rest ↦ stored_within (all_vault hands) (vault_in hand ++ all_vault hands) segment (λ u h. Contains-append_right (vault_in hand) (all_vault hands) u h) (all_stored segments hands t by' segment node are.1 rest l)
  ]

  handoff_stored : (left : ℕ) (turns : List (Turned Note)) (stores : List (Turned VaultNote)) (is : IsHandoff channel nodes by keeps line left turns stores) (t : Turned Note) (by' segment node : ℕ) → Contains turns t → Contains t.notes (note_of by' line (Load segment node)) → WasStored stores segment
  handoff_stored left turns stores is t by' segment node c l =
      elim (head_or is.look (all_front is.hands) t (subst (λ (m : List (Turned Note)). Contains m t) is.front c)) as (λ _. WasStored stores segment) [
        | inl e ↦ absurd (quiet_none t.notes (note_of by' line (Load segment node)) (ap (λ (x : Turned Note). x.notes) e ∙ is.looked.none) l)
        | inr rest ↦
            stored_within (all_vault is.hands) stores segment (λ u h. subst (λ (m : List (Turned VaultNote)). Contains m u) (sym is.vault) h) (all_stored (waiting_numbers channel is.look.before) is.hands t by' segment node is.each rest l)
      ]

  pub stored_first : (left : ℕ) (turns : List (Turned Note)) (stores : List (Turned VaultNote)) → IsHandoff channel nodes by keeps line left turns stores → IsStoredFirst keeps line turns stores
  stored_first left turns stores is = record { each = λ t by' segment node c l. let w = handoff_stored left turns stores is t by' segment node c l in (w.part, w.turn, w.number, w.there, w.notes) }
