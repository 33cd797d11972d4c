-- What every vault keeps, as notes are added.
use Rattle.std.proofs.Common.{◌≡◌, ℕ, ◌+◌, ◌-◌, ◌^◌, ◌<◌, ◌≤◌, min, Bool, true, List, [], ◌++◌, length, Ok, Err, refl, ap, sym, ◌∙◌, subst, arith, length-append}
use Rattle.std.specs.Prelude.{Result, is_some}
use Rattle.std.specs.Option.{IfSome}
use Rattle.std.specs.declared.option.Option.{Option}
use Rattle.std.specs.declared.option.Option.TheVariants.{None, Some}
use Rattle.std.specs.FinMap as fin
use Rattle.turn_facts.specs.Counts.{total}
use Rattle.manu_edge.specs.Faults.{Rose}
use Rattle.manu_edge.specs.Objects.{Objects}
use Rattle.manu_edge.specs.Telling.{TellsAlike}
use Rattle.seg_sealed.specs.Parts.{SegmentPart}
use Rattle.part_objects.specs.Spellings.{objects_of}
use Rattle.part_objects.specs.Keeping.{Holds}
use Rattle.data_index_node.specs.declared.refusals.FlushError.{FlushError}
use Rattle.data_index_node.specs.declared.refusals.FlushError.TheVariants as flushed
use Rattle.data_index_node.specs.Flushing.{HasFlushCause}
use Rattle.query_node.specs.declared.refusals.FetchError.{FetchError}
use Rattle.query_node.specs.declared.refusals.FetchError.TheVariants as fetched
use Rattle.query_node.specs.Fetching.{HasFetchCause, IsUnharmed}
use Rattle.vault.specs.declared.notes.KeeperCall.TheVariants.{Put, Get}
use Rattle.vault.specs.declared.notes.Outcome.TheVariants.{Done, Memory, Failed, Lost, Damaged}
use Rattle.vault.specs.declared.notes.VaultNote.{VaultNote}
use Rattle.vault.specs.declared.bases.VaultBase.{VaultBase}
use Rattle.vault.specs.Notes.{failures_in, failures_as, harms_in, harms_as}
use Rattle.vault.specs.Vaults.{vault_of, base_of, HasRisen, IsVault}
use Rattle.vault.specs.Under.{put_notes, get_notes, ended}
use Rattle.vault.proofs.Sums.{total-nil, total-append, alike_none, up_to_most}

-- the keeper did not fail
abbrev HasNoFault : Result SegmentPart FetchError → Type 0
HasNoFault (Ok part) = Unit {0}
HasNoFault (Err (fetched.KeepFault object)) = ⊥
HasNoFault (Err (fetched.Lost object)) = Unit {0}
HasNoFault (Err (fetched.Damaged object at want got)) = Unit {0}
HasNoFault (Err fetched.Memory) = Unit {0}

risen_one : (start many more faults now : ℕ) → HasRisen start many faults → Rose faults now → more ≤ many + 1 → HasRisen start more now
risen_one start many more faults now h r few = omega (arith, h, r, few)

risen_same : (start many faults now : ℕ) → HasRisen start many faults → faults ≤ now → HasRisen start many now
risen_same start many faults now h r = omega (arith, h, r)

-- a vault with no note
pub new_keeps : (notes : List VaultNote) (start faults room : ℕ) (told : Bool) (kept : Option Objects) → notes ≡ [] → start ≡ faults → told ≡ is_some kept → IsVault (vault_of notes (base_of start told 0) kept faults room)
new_keeps notes start faults room told kept none same tells =
    let failures : total failures_in notes ≡ 0 = ap (total failures_in) none ∙ total-nil failures_in in
    let harms : total harms_in notes ≡ 0 = ap (total harms_in) none ∙ total-nil harms_in in
    let empty : length notes ≡ 0 = ap length none in record { few = omega arith; failures = omega arith; tells = tells; harms = λ is. harms; met = omega arith }

-- how many notes there are, where there was room for them
pub few_notes : (old later capacity names many : ℕ) → old < 2 ^ 56 → names ≤ min capacity (2 ^ 56 - 1) - old → later ≤ old + names → many ≡ later → many < 2 ^ 56
few_notes old later capacity names many few room most is = omega (arith, few, room, most, is)

-- the failures and harms that some notes add
module _ (old later notes : List VaultNote) (base : VaultBase) (kept now : Option Objects) (faults more room space : ℕ) (is : later ≡ old ++ notes) (few : length later < 2 ^ 56) (inv : IsVault (vault_of old base kept faults room))
    (alike : TellsAlike kept now) (unharmed : base.told ≡ true → total harms_in notes ≡ 0) where
  longer : base.met ≤ length later
  longer = let m : base.met ≤ length old = inv.met in let l : length later ≡ length old + length notes = ap length is ∙ length-append old notes in omega arith

  harmless : base.told ≡ true → total harms_in later ≡ 0
  harmless told =
      let a : total harms_in later ≡ total harms_in old + total harms_in notes = ap (total harms_in) is ∙ total-append harms_in old notes in
      let b : total harms_in old ≡ 0 = inv.harms told in
      let c : total harms_in notes ≡ 0 = unharmed told in omega arith

  pub none_keeps : total failures_in notes ≡ 0 → faults ≤ more → IsVault (vault_of later base now more space)
  none_keeps zero rise =
      let a : total failures_in later ≡ total failures_in old + total failures_in notes = ap (total failures_in) is ∙ total-append failures_in old notes in
      let b : total failures_in later ≡ total failures_in old = omega arith in record {
        few = few;
        failures = subst (λ (n : ℕ). HasRisen base.start n more) (sym b) (risen_same base.start (total failures_in old) faults more inv.failures rise);
        tells = inv.tells ∙ sym alike;
        harms = harmless;
        met = longer;
      }

  pub one_keeps : total failures_in notes ≤ 1 → Rose faults more → IsVault (vault_of later base now more space)
  one_keeps one rose =
      let a : total failures_in later ≡ total failures_in old + total failures_in notes = ap (total failures_in) is ∙ total-append failures_in old notes in record {
        few = few;
        failures = risen_one base.start (total failures_in old) (total failures_in later) faults more inv.failures rose (omega (arith, a, one));
        tells = inv.tells ∙ sym alike;
        harms = harmless;
        met = longer;
      }

module _ (by line : ℕ) (objects : List ℕ) where
  put_harms : (done : Result (Unit {0}) FlushError) → total harms_in (put_notes by line objects done) ≡ 0
  put_harms (Ok done) = alike_none harms_in harms_as (λ note. refl) refl by line Put Done objects refl
  put_harms (Err (flushed.KeepFault object)) = let m : total harms_in (put_notes by line objects (Err (flushed.KeepFault object))) ≤ 0 = up_to_most harms_in harms_as (λ note. refl) refl by line Put object Failed objects in omega arith
  put_harms (Err flushed.Memory) = alike_none harms_in harms_as (λ note. refl) refl by line Put Memory objects refl

  pub put_keeps : (done : Result (Unit {0}) FlushError) (old later : List VaultNote) (base : VaultBase) (kept now : Option Objects) (faults more room space : ℕ) → later ≡ old ++ put_notes by line objects done → length later < 2 ^ 56
      → IsVault (vault_of old base kept faults room) → TellsAlike kept now → HasFlushCause faults more done → IsVault (vault_of later base now more space)
  put_keeps (Ok done) old later base kept now faults more room space is few inv alike cause =
      none_keeps old later (put_notes by line objects (Ok done)) base kept now faults more room space is few inv alike (λ told. put_harms (Ok done)) (alike_none failures_in failures_as (λ note. refl) refl by line Put Done objects refl) cause.later
  put_keeps (Err (flushed.KeepFault object)) old later base kept now faults more room space is few inv alike cause =
      one_keeps old later (put_notes by line objects (Err (flushed.KeepFault object))) base kept now faults more room space is few inv alike (λ told. put_harms (Err (flushed.KeepFault object)))
      (up_to_most failures_in failures_as (λ note. refl) refl by line Put object Failed objects) cause.failed
  put_keeps (Err flushed.Memory) old later base kept now faults more room space is few inv alike cause =
      none_keeps old later (put_notes by line objects (Err flushed.Memory)) base kept now faults more room space is few inv alike (λ told. put_harms (Err flushed.Memory)) (alike_none failures_in failures_as (λ note. refl) refl by line Put Memory objects refl) cause.later

  get_harms : (got : Result SegmentPart FetchError) → IsUnharmed got → total harms_in (get_notes by line objects (ended got)) ≡ 0
  get_harms (Ok part) safe = alike_none harms_in harms_as (λ note. refl) refl by line Get Done objects refl
  get_harms (Err (fetched.KeepFault object)) safe = let m : total harms_in (get_notes by line objects (Err (fetched.KeepFault object))) ≤ 0 = up_to_most harms_in harms_as (λ note. refl) refl by line Get object Failed objects in omega arith
  get_harms (Err (fetched.Lost object)) safe = absurd safe
  get_harms (Err (fetched.Damaged object at want got)) safe = absurd safe
  get_harms (Err fetched.Memory) safe = alike_none harms_in harms_as (λ note. refl) refl by line Get Memory objects refl

  get_failures : (got : Result SegmentPart FetchError) → HasNoFault got → total failures_in (get_notes by line objects (ended got)) ≡ 0
  get_failures (Ok part) sound = alike_none failures_in failures_as (λ note. refl) refl by line Get Done objects refl
  get_failures (Err (fetched.KeepFault object)) sound = absurd sound
  get_failures (Err (fetched.Lost object)) sound = let m : total failures_in (get_notes by line objects (Err (fetched.Lost object))) ≤ 0 = up_to_most failures_in failures_as (λ note. refl) refl by line Get object Lost objects in omega arith
  get_failures (Err (fetched.Damaged object at want got)) sound =
      let m : total failures_in (get_notes by line objects (Err (fetched.Damaged object at want got))) ≤ 0 = up_to_most failures_in failures_as (λ note. refl) refl by line Get object (Damaged at want got) objects in omega arith
  get_failures (Err fetched.Memory) sound = alike_none failures_in failures_as (λ note. refl) refl by line Get Memory objects refl

  pub get_keeps : (got : Result SegmentPart FetchError) (old later : List VaultNote) (base : VaultBase) (kept now : Option Objects) (faults more room space : ℕ) → later ≡ old ++ get_notes by line objects (ended got) → length later < 2 ^ 56
      → IsVault (vault_of old base kept faults room) → TellsAlike kept now → HasFetchCause faults more got → (base.told ≡ true → IsUnharmed got) → IsVault (vault_of later base now more space)
  get_keeps (Ok part) old later base kept now faults more room space is few inv alike cause safe =
      none_keeps old later (get_notes by line objects (Ok tt)) base kept now faults more room space is few inv alike (λ told. get_harms (Ok part) (safe told)) (get_failures (Ok part) tt) cause.later
  get_keeps (Err (fetched.KeepFault object)) old later base kept now faults more room space is few inv alike cause safe =
      one_keeps old later (get_notes by line objects (Err (fetched.KeepFault object))) base kept now faults more room space is few inv alike (λ told. get_harms (Err (fetched.KeepFault object)) (safe told))
      (up_to_most failures_in failures_as (λ note. refl) refl by line Get object Failed objects) cause.failed
  get_keeps (Err (fetched.Lost object)) old later base kept now faults more room space is few inv alike cause safe =
      none_keeps old later (get_notes by line objects (Err (fetched.Lost object))) base kept now faults more room space is few inv alike (λ told. get_harms (Err (fetched.Lost object)) (safe told)) (get_failures (Err (fetched.Lost object)) tt) cause.later
  get_keeps (Err (fetched.Damaged object at want got)) old later base kept now faults more room space is few inv alike cause safe =
      none_keeps old later (get_notes by line objects (Err (fetched.Damaged object at want got))) base kept now faults more room space is few inv alike (λ told. get_harms (Err (fetched.Damaged object at want got)) (safe told))
      (get_failures (Err (fetched.Damaged object at want got)) tt) cause.later
  get_keeps (Err fetched.Memory) old later base kept now faults more room space is few inv alike cause safe =
      none_keeps old later (get_notes by line objects (Err fetched.Memory)) base kept now faults more room space is few inv alike (λ told. get_harms (Err fetched.Memory) (safe told)) (get_failures (Err fetched.Memory) tt) cause.later

-- over a keeper that has the objects nothing was harmed, where it tells its map
unharmed_told : (told : Bool) (kept : Option Objects) (P : Objects → Type 0) (R : Type 0) → told ≡ is_some kept → IfSome kept P → IfSome kept (λ k. P k → R) → told ≡ true → R
unharmed_told told None P R tells held safe is = let no : ⊥ = cc in absurd no
unharmed_told told (Some kept) P R tells held safe is = safe held

-- the keeper has the objects of the part, where that is told
abbrev pub HasAll : SegmentPart → Option Objects → Type 0
HasAll part kept = IfSome kept (λ objects. Holds (fin.get objects) (objects_of part))

pub unharmed_kept : (part : SegmentPart) (told : Bool) (kept : Option Objects) (got : Result SegmentPart FetchError) → told ≡ is_some kept → HasAll part kept
    → IfSome kept (λ objects. Holds (fin.get objects) (objects_of part) → IsUnharmed got) → told ≡ true → IsUnharmed got
unharmed_kept part told kept got tells held safe is = unharmed_told told kept (λ objects. Holds (fin.get objects) (objects_of part)) (IsUnharmed got) tells held safe is
