-- From the notes of puts and gets to those of a store.
use Rattle.std.proofs.Common.{◌≡◌, ℕ, ◌+◌, ◌≤◌, inl, inr, List, [], ◌∷◌, ◌++◌, map, Ok, Err, IfOk, refl, ap, sym, ◌∙◌, subst, arith}
use Rattle.std.specs.Prelude.{Result}
use Rattle.std.specs.Result.{IsErr}
use Rattle.std.specs.Option.{IfSome}
use Rattle.std.specs.declared.option.Option.{Option}
use Rattle.std.specs.declared.option.Option.TheVariants.{None, Some}
use Rattle.std.specs.FinMap as fin
use Rattle.row_types.specs.declared.allocation.Memory.{Memory as NoMemory}
use Rattle.turn_facts.specs.Counts.{count, Among}
use Rattle.turn_facts.proofs.Counts.{count-here}
use Rattle.manu_edge.specs.Objects.{Objects, Stays}
use Rattle.manu_edge.specs.Telling.{TellsAlike}
use Rattle.seg_sealed.specs.Parts.{SegmentPart}
use Rattle.part_objects.specs.declared.objects.Object.{Object}
use Rattle.part_objects.specs.Spellings.{objects_of}
use Rattle.part_objects.specs.Keeping.{Given, Holds}
use Rattle.data_index_node.specs.declared.refusals.FlushError.{FlushError}
use Rattle.data_index_node.specs.declared.refusals.FlushError.TheVariants as flushed
use Rattle.data_index_node.specs.Flushing.{FailsAt, LeavesOthers, Stores as Flushes}
use Rattle.query_node.specs.declared.refusals.FetchError.{FetchError}
use Rattle.query_node.specs.declared.refusals.FetchError.TheVariants as fetched
use Rattle.query_node.specs.Fetching.{IsReached, Fetches}
use Rattle.vault.specs.declared.notes.KeeperCall.TheVariants.{Put}
use Rattle.vault.specs.declared.notes.Outcome.TheVariants.{Done, Failed, Lost, Damaged}
use Rattle.vault.specs.declared.notes.VaultNote.{VaultNote}
use Rattle.vault.specs.declared.storing.Stored.{Stored}
use Rattle.vault.specs.declared.storing.Stored.TheVariants as stored
use Rattle.vault.specs.Names.{names_of}
use Rattle.vault.specs.Notes.{alike_notes}
use Rattle.vault.specs.Stores.{Stores, IfKept}
use Rattle.vault.specs.Under.{ended, get_notes, NamesPut, NamesGot, StoreAnswers}

-- ---- the objects that errors name

count_later : (x y : ℕ) (l : List ℕ) → count x l ≤ count x (y ∷ l)
unfolding count
count_later x y l = omega arith

abbrev names : List Object → List ℕ
names objects = map (λ object. object.name) objects

among_split : (before after : List Object) (object : Object) → Among object.name (names (before ++ object ∷ after))
among_split [] after object = let c : count object.name (object.name ∷ names after) ≡ 1 + count object.name (names after) = count-here object.name (names after) in omega arith
among_split (x ∷ before) after object =
    let r : 1 ≤ count object.name (names (before ++ object ∷ after)) = among_split before after object in
    let l : count object.name (names (before ++ object ∷ after)) ≤ count object.name (x.name ∷ names (before ++ object ∷ after)) = count_later object.name x.name (names (before ++ object ∷ after)) in omega arith

among_fails : (objects : List Object) (name : ℕ) (old new : Option Objects) → FailsAt objects name old new → Among name (names objects)
among_fails objects name old new h =
    subst (λ (l : List Object). Among name (names l)) (sym h.split) (subst (λ (n : ℕ). Among n (names (h.before ++ h.failed ∷ h.after))) h.named (among_split h.before h.after h.failed))

pub names_put : (part : SegmentPart) (old new : Option Objects) (done : Result (Unit {0}) FlushError) → Flushes (objects_of part) old new done → NamesPut (names_of part) done
names_put part old new (Ok done) h = tt
names_put part old new (Err (flushed.KeepFault name)) h = among_fails (objects_of part) name old new h
names_put part old new (Err flushed.Memory) h = tt

among_reached : (objects : List Object) (given : Given) (object : Object) → IsReached objects given object → Among object.name (names objects)
among_reached [] given object h = absurd h
among_reached (x ∷ objects) given object (inl e) = subst (λ (y : Object). Among y.name (x.name ∷ names objects)) e (let c : count x.name (x.name ∷ names objects) ≡ 1 + count x.name (names objects) = count-here x.name (names objects) in omega arith)
among_reached (x ∷ objects) given object (inr r) =
    let a : 1 ≤ count object.name (names objects) = among_reached objects given object r.1 in
    let l : count object.name (names objects) ≤ count object.name (x.name ∷ names objects) = count_later object.name x.name (names objects) in omega arith

among_named : (objects : List Object) (given : Given) (object : Object) (name : ℕ) → IsReached objects given object → object.name ≡ name → Among name (names objects)
among_named objects given object name h e = subst (λ (n : ℕ). Among n (names objects)) e (among_reached objects given object h)

pub names_got : (part : SegmentPart) (kept : Option Objects) (got : Result SegmentPart FetchError) → Fetches (objects_of part) kept got → NamesGot (names_of part) got
names_got part kept (Ok value) h = tt
names_got part kept (Err (fetched.KeepFault name)) h = among_named (objects_of part) h.given h.answers.object name h.answers.reached h.answers.named
names_got part kept (Err (fetched.Lost name)) h = among_named (objects_of part) h.given h.answers.object name h.answers.reached h.answers.named
names_got part kept (Err (fetched.Damaged name at want got)) h = among_named (objects_of part) h.given h.answers.object name h.answers.reached h.answers.named
names_got part kept (Err fetched.Memory) h = tt

-- ---- answers

module _ (by line : ℕ) (objects : List ℕ) where
  pub stores_none : (answer : Result Stored NoMemory) → IsErr answer → Stores by line objects answer []
  stores_none (Ok x) e = absurd (let z : ⊥ = cc in z)
  stores_none (Err error) e = inl refl

  pub stores_got : (got : Result SegmentPart FetchError) (answer : Result Stored NoMemory) (notes : List VaultNote) → StoreAnswers got answer → NamesGot objects got
      → notes ≡ alike_notes by line Put Done objects ++ get_notes by line objects (ended got) → Stores by line objects answer notes
  stores_got (Ok part) answer notes a n e = subst (λ (r : Result Stored NoMemory). Stores by line objects r notes) (sym a) e
  stores_got (Err (fetched.KeepFault name)) answer notes a n e =
      subst (λ (r : Result Stored NoMemory). Stores by line objects r notes) (sym a) record { object = name; among = n; noted = inr record { outcome = Failed; bad = refl; noted = e } }
  stores_got (Err (fetched.Lost name)) answer notes a n e =
      subst (λ (r : Result Stored NoMemory). Stores by line objects r notes) (sym a) record { object = name; among = n; noted = inr record { outcome = Lost; bad = refl; noted = e } }
  stores_got (Err (fetched.Damaged name at want got)) answer notes a n e =
      subst (λ (r : Result Stored NoMemory). Stores by line objects r notes) (sym a) record { object = name; among = n; noted = inr record { outcome = Damaged at want got; bad = refl; noted = e } }
  stores_got (Err fetched.Memory) answer notes a n e = subst (λ (r : Result Stored NoMemory). Stores by line objects r notes) (sym a.1) (inr (inr e))

pub kept_part : (P : SegmentPart → Type 0) (got : Result SegmentPart FetchError) (answer : Result Stored NoMemory) → StoreAnswers got answer → IfOk got P → IfKept answer P
kept_part P (Ok part) answer a h = subst (λ (r : Result Stored NoMemory). IfKept r P) (sym a) h
kept_part P (Err (fetched.KeepFault name)) answer a h = subst (λ (r : Result Stored NoMemory). IfKept r P) (sym a) tt
kept_part P (Err (fetched.Lost name)) answer a h = subst (λ (r : Result Stored NoMemory). IfKept r P) (sym a) tt
kept_part P (Err (fetched.Damaged name at want got)) answer a h = subst (λ (r : Result Stored NoMemory). IfKept r P) (sym a) tt
kept_part P (Err fetched.Memory) answer a h = subst (λ (r : Result Stored NoMemory). IfKept r P) (sym a.1) tt

pub kept_fact : (P : Type 0) (answer : Result Stored NoMemory) → P → IfKept answer (λ part. P)
kept_fact P (Ok (stored.Kept part)) h = h
kept_fact P (Ok stored.Failed) h = tt
kept_fact P (Err error) h = tt

pub kept_err : (P : SegmentPart → Type 0) (answer : Result Stored NoMemory) → IsErr answer → IfKept answer P
kept_err P (Ok x) e = absurd (let z : ⊥ = cc in z)
kept_err P (Err error) e = tt

-- ---- what is kept

pub leaves_none : (objects : List Object) (kept now : Option Objects) → now ≡ kept → LeavesOthers objects kept now
leaves_none objects None now e = tt
leaves_none objects (Some kept) None e = let no : ⊥ = cc in absurd no
leaves_none objects (Some kept) (Some now) e = λ name h. let same : Some now ≡ Some kept = e in cc

pub leaves_stays : (objects : List Object) (old kept now : Option Objects) → LeavesOthers objects old kept → Stays kept now → LeavesOthers objects old now
leaves_stays objects None kept now h s = tt
leaves_stays objects (Some old) None now h s = absurd h
leaves_stays objects (Some old) (Some kept) None h s = absurd s
leaves_stays objects (Some old) (Some kept) (Some now) h s = λ name apart. ap (λ (o : Objects). fin.get o name) s ∙ h name apart

pub held_stays : (objects : List Object) (kept now : Option Objects) → IfSome kept (λ k. Holds (fin.get k) objects) → Stays kept now → TellsAlike kept now → IfSome now (λ k. Holds (fin.get k) objects)
held_stays objects kept None h s t = tt
held_stays objects None (Some now) h s t = let no : ⊥ = cc in absurd no
held_stays objects (Some kept) (Some now) h s t = subst (λ (o : Objects). Holds (fin.get o) objects) (sym s) h
