-- Objects that are stored one after another.
use Rattle.std.proofs.Common.{◌≡◌, ◌≢◌, ◌⊎◌, inl, inr, ℕ, List, [], ◌∷◌, ◌++◌, Ok, Err, OnOk, refl, sym, ap, subst, ◌∙◌, append_assoc}
use Rattle.std.specs.Prelude.{Result}
use Rattle.std.specs.List.{AllByRecursion}
use Rattle.std.specs.Option.{IfSome}
use Rattle.std.specs.declared.option.Option.{Option}
use Rattle.std.specs.declared.option.Option.TheVariants.{None, Some}
use Rattle.std.specs.FinMap as fin
use Rattle.std.proofs.lemmas.List.{append-nil}
use Rattle.manu_edge.specs.declared.faults.KeepError.{KeepError}
use Rattle.manu_edge.specs.Objects.{Objects, WhereTold, Changes}
use Rattle.manu_edge.specs.Telling.{TellsAlike}
use Rattle.seg_sealed.specs.Parts.{SegmentPart}
use Rattle.part_objects.specs.declared.objects.Object.{Object}
use Rattle.part_objects.specs.Spellings.{insert_object, delete_object, list_objects, objects_of}
use Rattle.part_objects.specs.Keeping.{Holds, IsOtherName, with_objects}
use Rattle.part_objects.proofs.Kept.{NamesApart, get_other, all_held}
use Rattle.data_index_node.specs.declared.refusals.FlushError.{FlushError}
use Rattle.data_index_node.specs.declared.refusals.FlushError.TheVariants.{KeepFault, Memory}
use Rattle.data_index_node.specs.Flushing.{Puts, FailsAt, PutsSome, Stores, LeavesOthers}

-- ---- one object

pub one_fails : (x : Object) (bytes : List ℕ) (old new : Option Objects) (e : KeepError) → bytes ≡ x.bytes → Changes {E = KeepError} old new (Err e) (λ kept. fin.insert kept x.name bytes)
    → FailsAt (x ∷ []) x.name old new
one_fails x bytes old new e same h =
    record { before = []; failed = x; after = []; split = refl; named = refl; left = subst (λ (b : List ℕ). Changes {E = KeepError} old new (Err e) (λ kept. fin.insert kept x.name b)) same h }

some_of_one : (x : Object) (old new : Objects) → (new ≡ old) ⊎ (new ≡ fin.insert old x.name x.bytes) → PutsSome (x ∷ []) (Some old) (Some new)
some_of_one x old new (inl h) = record { before = []; after = x ∷ []; split = refl; left = h }
some_of_one x old new (inr h) = record { before = x ∷ []; after = []; split = refl; left = h }

one_wants : (x : Object) (old new : Option Objects) (e : KeepError) → Changes {E = KeepError} old new (Err e) (λ kept. fin.insert kept x.name x.bytes) → PutsSome (x ∷ []) old new
one_wants x None new e h = record { before = []; after = x ∷ []; split = refl; left = tt }
one_wants x (Some old) None e h = absurd h
one_wants x (Some old) (Some new) e h = some_of_one x old new h

pub one_wants_memory : (x : Object) (bytes : List ℕ) (old new : Option Objects) (e : KeepError) → bytes ≡ x.bytes → Changes {E = KeepError} old new (Err e) (λ kept. fin.insert kept x.name bytes)
    → PutsSome (x ∷ []) old new
one_wants_memory x bytes old new e same h = one_wants x old new e (subst (λ (b : List ℕ). Changes {E = KeepError} old new (Err e) (λ kept. fin.insert kept x.name b)) same h)

-- nothing was put
puts_none : (old : Option Objects) → Puts [] old old
puts_none None = tt
puts_none (Some kept) = refl

pub none_put : (xs : List Object) (old : Option Objects) → PutsSome xs old old
none_put xs old = record { before = []; after = xs; split = refl; left = puts_none old }

pub nothing_stored : (old : Option Objects) (done : Unit {0}) → Stores [] old old (Ok done)
nothing_stored old done = puts_none old

-- ---- the first of several

puts_more : (x : Object) (xs : List Object) (k l m : Option Objects) → Puts (x ∷ []) k l → Puts xs l m → Puts (x ∷ xs) k m
puts_more x xs None l m h g = tt
puts_more x xs (Some k) None m h g = absurd h
puts_more x xs (Some k) (Some l) None h g = absurd g
puts_more x xs (Some k) (Some l) (Some m) h g = g ∙ ap (with_objects xs) h

left_more : (x : Object) (xs ys : List Object) (k l m : Option Objects) → Puts (x ∷ []) k l
    → WhereTold l m (λ kept now. (now ≡ with_objects xs kept) ⊎ (now ≡ with_objects ys kept))
    → WhereTold k m (λ kept now. (now ≡ with_objects (x ∷ xs) kept) ⊎ (now ≡ with_objects (x ∷ ys) kept))
left_more x xs ys None l m h g = tt
left_more x xs ys (Some k) None m h g = absurd h
left_more x xs ys (Some k) (Some l) None h g = absurd g
left_more x xs ys (Some k) (Some l) (Some m) h g =
    elim g as (λ _. (m ≡ with_objects (x ∷ xs) k) ⊎ (m ≡ with_objects (x ∷ ys) k)) [ inl e ↦ inl (e ∙ ap (with_objects xs) h) | inr e ↦ inr (e ∙ ap (with_objects ys) h) ]

stores_more : (x : Object) (xs : List Object) (k l m : Option Objects) (r : Result (Unit {0}) FlushError) → Puts (x ∷ []) k l → Stores xs l m r → Stores (x ∷ xs) k m r
stores_more x xs k l m (Ok done) h g = puts_more x xs k l m h g
stores_more x xs k l m (Err (KeepFault name)) h g =
    record {
      before = x ∷ g.before;
      failed = g.failed;
      after = g.after;
      split = ap (λ (ys : List Object). x ∷ ys) g.split;
      named = g.named;
      left = left_more x g.before (g.before ++ g.failed ∷ []) k l m h g.left;
    }
stores_more x xs k l m (Err Memory) h g =
    record { before = x ∷ g.before; after = g.after; split = ap (λ (ys : List Object). x ∷ ys) g.split; left = puts_more x g.before k l m h g.left }

-- what stopped within the first ones stopped within all
pub stores_front : (xs ys : List Object) (k l : Option Objects) (e : FlushError) → Stores xs k l (Err e) → Stores (xs ++ ys) k l (Err e)
stores_front xs ys k l (KeepFault name) h =
    record { before = h.before; failed = h.failed; after = h.after ++ ys; split = ap (λ (zs : List Object). zs ++ ys) h.split ∙ append_assoc h.before (h.failed ∷ h.after) ys; named = h.named; left = h.left }
stores_front xs ys k l Memory h =
    record { before = h.before; after = h.after ++ ys; split = ap (λ (zs : List Object). zs ++ ys) h.split ∙ append_assoc h.before h.after ys; left = h.left }

-- ---- a part

pub first_stops : (part : SegmentPart) (x : Object) (k l : Option Objects) (e : FlushError) → x ≡ insert_object part → Stores (x ∷ []) k l (Err e) → Stores (objects_of part) k l (Err e)
first_stops part x k l e same h =
    stores_front (insert_object part ∷ []) (delete_object part ∷ list_objects part.sealed.number part.sealed.lists) k l e (subst (λ (y : Object). Stores (y ∷ []) k l (Err e)) same h)

pub second_ends : (part : SegmentPart) (x : Object) (k l m : Option Objects) (r : Result (Unit {0}) FlushError) → x ≡ insert_object part → Puts (x ∷ []) k l
    → Stores (delete_object part ∷ list_objects part.sealed.number part.sealed.lists) l m r → Stores (objects_of part) k m r
second_ends part x k l m r same h g = stores_more (insert_object part) (delete_object part ∷ list_objects part.sealed.number part.sealed.lists) k l m r (subst (λ (y : Object). Puts (y ∷ []) k l) same h) g

pub second_stops : (part : SegmentPart) (y : Object) (k l : Option Objects) (e : FlushError) → y ≡ delete_object part → Stores (y ∷ []) k l (Err e)
    → Stores (delete_object part ∷ list_objects part.sealed.number part.sealed.lists) k l (Err e)
second_stops part y k l e same h = stores_front (delete_object part ∷ []) (list_objects part.sealed.number part.sealed.lists) k l e (subst (λ (z : Object). Stores (z ∷ []) k l (Err e)) same h)

pub third_ends : (part : SegmentPart) (y : Object) (k l m : Option Objects) (r : Result (Unit {0}) FlushError) → y ≡ delete_object part → Puts (y ∷ []) k l
    → Stores (list_objects part.sealed.number part.sealed.lists) l m r → Stores (delete_object part ∷ list_objects part.sealed.number part.sealed.lists) k m r
third_ends part y k l m r same h g = stores_more (delete_object part) (list_objects part.sealed.number part.sealed.lists) k l m r (subst (λ (z : Object). Puts (z ∷ []) k l) same h) g

-- ---- what follows for the keeper

puts_hold : (xs : List Object) (old new : Option Objects) → NamesApart xs → Puts xs old new → TellsAlike old new → IfSome new (λ kept. Holds (fin.get kept) xs)
puts_hold xs old None apart h told = tt
puts_hold xs None (Some new) apart h told = let no : ⊥ = cc in absurd no
puts_hold xs (Some old) (Some new) apart h told = subst (λ (kept : Objects). Holds (fin.get kept) xs) (sym h) (all_held xs old apart)

pub stored_holds : (xs : List Object) (old new : Option Objects) (r : Result (Unit {0}) FlushError) → NamesApart xs → Stores xs old new r → TellsAlike old new → OnOk r (IfSome new (λ kept. Holds (fin.get kept) xs))
stored_holds xs old new (Ok done) apart h told = puts_hold xs old new apart h told
stored_holds xs old new (Err e) apart h told = tt

other_front : (xs ys : List Object) (name : ℕ) → IsOtherName (xs ++ ys) name → IsOtherName xs name
other_front [] ys name h = tt
other_front (x ∷ xs) ys name h = (h.0, other_front xs ys name h.1)

front_other : (xs all ys : List Object) (name : ℕ) → all ≡ xs ++ ys → IsOtherName all name → IsOtherName xs name
front_other xs all ys name e h = other_front xs ys name (subst (λ (zs : List Object). IsOtherName zs name) e h)

put_leaves : (xs : List Object) (old new : Objects) (name : ℕ) → new ≡ with_objects xs old → IsOtherName xs name → fin.get new name ≡ fin.get old name
put_leaves xs old new name e h = ap (λ (kept : Objects). fin.get kept name) e ∙ get_other xs old name h

either_leaves : (xs ys all xt yt : List Object) (old new : Objects) → all ≡ xs ++ xt → all ≡ ys ++ yt → (new ≡ with_objects xs old) ⊎ (new ≡ with_objects ys old)
    → (name : ℕ) → IsOtherName all name → fin.get new name ≡ fin.get old name
either_leaves xs ys all xt yt old new e f (inl g) name h = put_leaves xs old new name g (front_other xs all xt name e h)
either_leaves xs ys all xt yt old new e f (inr g) name h = put_leaves ys old new name g (front_other ys all yt name f h)

pub stores_leave : (all : List Object) (old new : Option Objects) (r : Result (Unit {0}) FlushError) → Stores all old new r → LeavesOthers all old new
stores_leave all None new r h = tt
stores_leave all (Some old) None (Ok done) h = absurd h
stores_leave all (Some old) None (Err (KeepFault name)) h = absurd h.left
stores_leave all (Some old) None (Err Memory) h = absurd h.left
stores_leave all (Some old) (Some new) (Ok done) h = λ name g. put_leaves all old new name h g
stores_leave all (Some old) (Some new) (Err (KeepFault failed)) h =
    either_leaves h.before (h.before ++ h.failed ∷ []) all (h.failed ∷ h.after) h.after old new h.split (h.split ∙ sym (append_assoc h.before (h.failed ∷ []) h.after)) h.left
stores_leave all (Some old) (Some new) (Err Memory) h = λ name g. put_leaves h.before old new name h.left (front_other h.before all h.after name h.split g)
