-- Objects that are got one after another.
use Rattle.std.proofs.Common.{◌≡◌, ◌≢◌, inl, inr, ℕ, Bool, cond, true, false, List, [], ◌∷◌, Ok, Err, refl, sym, ap, subst, ◌∙◌}
use Rattle.std.specs.Prelude.{Result}
use Rattle.std.specs.Option.{IfSome, option_map}
use Rattle.std.specs.declared.option.Option.{Option}
use Rattle.std.specs.declared.option.Option.TheVariants.{None, Some}
use Rattle.std.specs.FinMap as fin
use Rattle.std.specs.List.{slice_get}
use Rattle.std.proofs.Math.Dec.{eqb}
use Rattle.std.proofs.lemmas.Bool.{eq-eqb, ne_eqb}
use Rattle.manu_edge.specs.Objects.{Objects, WhereTold, Stays}
use Rattle.part_objects.specs.declared.objects.Object.{Object}
use Rattle.binlog_format.specs.declared.objects.ListFile.{ListFile}
use Rattle.part_objects.specs.Spellings.{list_object, list_objects}
use Rattle.part_objects.specs.Keeping.{Given, IsIntact, Holds, IsOtherName}
use Rattle.query_node.specs.declared.refusals.FetchError.{FetchError}
use Rattle.query_node.specs.declared.refusals.FetchError.TheVariants.{KeepFault, Lost, Damaged, Memory}
use Rattle.query_node.specs.Fetching.{IsFirstDifference, IsReached, IsLost, Answers, IsGivenBy, Fetches, IsUnharmed}

-- ---- one object

-- an answer was got
pub one_got : {T : Type 0} (x : Object) (k l : Option Objects) (answer : Option (List ℕ)) (r : Result T FetchError)
    → WhereTold k l (λ objects _. answer ≡ fin.get objects x.name)
    → ((given : Given) → given x.name ≡ answer → Answers (x ∷ []) given r) → Fetches (x ∷ []) k r
one_got x None l answer r found answers = record { given = λ name. answer; told = tt; answers = answers (λ name. answer) refl }
one_got x (Some k) None answer r found answers = absurd found
one_got x (Some k) (Some l) answer r found answers = record { given = fin.get k; told = λ name. refl; answers = answers (fin.get k) (sym found) }

-- none was got
pub none_got : {T : Type 0} (xs : List Object) (k : Option Objects) (r : Result T FetchError) → ((given : Given) → Answers xs given r) → Fetches xs k r
none_got xs None r answers = record { given = λ name. None; told = tt; answers = answers (λ name. None) }
none_got xs (Some k) r answers = record { given = fin.get k; told = λ name. refl; answers = answers (fin.get k) }

pub fault_of_one : {T : Type 0} (x : Object) (k : Option Objects) → Fetches {T = T} (x ∷ []) k (Err (KeepFault x.name))
fault_of_one x k = none_got (x ∷ []) k (Err (KeepFault x.name)) (λ given. record { object = x; reached = inl refl; named = refl })

pub no_memory : {T : Type 0} (xs : List Object) (k : Option Objects) → Fetches {T = T} xs k (Err Memory)
no_memory xs k = none_got xs k (Err Memory) (λ given. tt)

pub one_lost : (x : Object) (given : Given) → given x.name ≡ None → IsLost (x ∷ []) given x.name
one_lost x given e = record { object = x; reached = inl refl; named = refl; nothing = e }

-- ---- the first of several

-- what was got under one name, and under all others
abbrev either : ℕ → Given → Given → Given
either first one others name = cond (eqb name first) (one name) (others name)

either_first : (first : ℕ) (one others : Given) → either first one others first ≡ one first
either_first first one others = ap (λ (b : Bool). cond b (one first) (others first)) (eq-eqb first first refl)

either_other : (first : ℕ) (one others : Given) (name : ℕ) → name ≢ first → either first one others name ≡ others name
either_other first one others name apart = ap (λ (b : Bool). cond b (one name) (others name)) (ne_eqb name first apart)

cond_same : (b : Bool) (x y z : Option (List ℕ)) → x ≡ z → y ≡ z → cond b x y ≡ z
cond_same true x y z e f = e
cond_same false x y z e f = f

either_told : (first : ℕ) (one others : Given) (k l : Option Objects) → IsGivenBy k one → Stays k l → IsGivenBy l others → IsGivenBy k (either first one others)
either_told first one others None l told stays later = tt
either_told first one others (Some k) None told stays later = absurd stays
either_told first one others (Some k) (Some l) told stays later =
    λ name. cond_same (eqb name first) (one name) (others name) (fin.get k name) (told name) (later name ∙ ap (λ (kept : Objects). fin.get kept name) stays)

-- two that give the same under the names of some objects
module _ (g h : Given) (first : ℕ) (same : (name : ℕ) → name ≢ first → g name ≡ h name) where
  holds_same : (xs : List Object) → IsOtherName xs first → Holds h xs → Holds g xs
  holds_same [] apart held = tt
  holds_same (x ∷ xs) apart held = (same x.name apart.0 ∙ held.0, holds_same xs apart.1 held.1)

  reached_same : (xs : List Object) (object : Object) → IsOtherName xs first → IsReached xs h object → IsReached xs g object
  reached_same [] object apart reached = reached
  reached_same (x ∷ xs) object apart (inl e) = inl e
  reached_same (x ∷ xs) object apart (inr r) = inr (same x.name apart.0 ∙ r.0, reached_same xs object apart.1 r.1)

reached_other : (xs : List Object) (given : Given) (object : Object) (first : ℕ) → IsOtherName xs first → IsReached xs given object → object.name ≢ first
reached_other [] given object first apart reached = absurd reached
reached_other (x ∷ xs) given object first apart (inl e) = subst (λ (y : Object). y.name ≢ first) e apart.0
reached_other (x ∷ xs) given object first apart (inr r) = reached_other xs given object first apart.1 r.1

name_other : (xs : List Object) (given : Given) (object : Object) (first name : ℕ) → IsOtherName xs first → IsReached xs given object → object.name ≡ name
    → name ≢ first
name_other xs given object first name apart reached named = subst (λ (n : ℕ). n ≢ first) named (reached_other xs given object first apart reached)

module _ {T : Type 0} (x : Object) (xs : List Object) (g h : Given) (apart : IsOtherName xs x.name)
    (same : (name : ℕ) → name ≢ x.name → g name ≡ h name) (intact : IsIntact g x) where
  answers_more : (r : Result T FetchError) → Answers xs h r → Answers (x ∷ xs) g r
  answers_more (Ok value) a = (intact, holds_same g h x.name same xs apart a)
  answers_more (Err (KeepFault name)) a =
      record { object = a.object; reached = inr (intact, reached_same g h x.name same xs a.object apart a.reached); named = a.named }
  answers_more (Err (Lost name)) a =
      record {
        object = a.object;
        reached = inr (intact, reached_same g h x.name same xs a.object apart a.reached);
        named = a.named;
        nothing = same name (name_other xs h a.object x.name name apart a.reached a.named) ∙ a.nothing;
      }
  answers_more (Err (Damaged name at want got)) a =
      record {
        object = a.object;
        reached = inr (intact, reached_same g h x.name same xs a.object apart a.reached);
        named = a.named;
        bytes = a.bytes;
        found = same name (name_other xs h a.object x.name name apart a.reached a.named) ∙ a.found;
        first = a.first;
      }
  answers_more (Err Memory) a = tt

-- the first was got as it is spelled, and the others were asked for behind it
pub fetches_more : {S T : Type 0} (x : Object) (xs : List Object) (k l : Option Objects) (value : S) (r : Result T FetchError) → IsOtherName xs x.name
    → Fetches (x ∷ []) k (Ok value) → Stays k l → Fetches xs l r → Fetches (x ∷ xs) k r
fetches_more x xs k l value r apart one stays others =
    let given = either x.name one.given others.given in
    record {
      given = given;
      told = either_told x.name one.given others.given k l one.told stays others.told;
      answers = answers_more x xs given others.given apart (either_other x.name one.given others.given)
          (either_first x.name one.given others.given ∙ one.answers.0) r others.answers;
    }

answers_failed : (S T : Type 0) (xs : List Object) (given : Given) (e : FetchError) → Answers {T = S} xs given (Err e) → Answers {T = T} xs given (Err e)
answers_failed S T xs given (KeepFault name) a = a
answers_failed S T xs given (Lost name) a = a
answers_failed S T xs given (Damaged name at want got) a = a
answers_failed S T xs given Memory a = a

-- what stopped one call stops another
pub fetches_failed : (S T : Type 0) (xs : List Object) (k : Option Objects) (e : FetchError) → Fetches {T = S} xs k (Err e) → Fetches {T = T} xs k (Err e)
fetches_failed S T xs k e f = record { given = f.given; told = f.told; answers = answers_failed S T xs f.given e f.answers }

-- no lists were asked for
pub none_listed : {T : Type 0} (segment : ℕ) (lists : Option ListFile) (object : Option Object) (k : Option Objects) (v : T)
    → object ≡ option_map (list_object segment) lists
    → ((x : Object) → object ≡ Some x → ⊥) → Fetches (list_objects segment lists) k (Ok v)
none_listed segment None object k v e none = none_got [] k (Ok v) (λ given. tt)
none_listed segment (Some file) object k v e none = absurd (none (list_object segment file) e)

-- another value that is made of the same bytes
pub fetches_made : {S T : Type 0} (xs : List Object) (k : Option Objects) (v : S) (w : T) → Fetches xs k (Ok v) → Fetches xs k (Ok w)
fetches_made xs k v w f = record { given = f.given; told = f.told; answers = f.answers }

-- ---- where the keeper has the objects

held_at : (xs : List Object) (kept given : Given) (object : Object) → Holds kept xs → IsReached xs given object → kept object.name ≡ Some object.bytes
held_at [] kept given object held reached = absurd reached
held_at (x ∷ xs) kept given object held (inl e) = subst (λ (y : Object). kept y.name ≡ Some y.bytes) e held.0
held_at (x ∷ xs) kept given object held (inr r) = held_at xs kept given object held.1 r.1

no_difference : (bytes found : List ℕ) (at : ℕ) (want got : Option ℕ) → Some bytes ≡ Some found → IsFirstDifference bytes found at want got → ⊥
no_difference bytes found at want got e d = let same : bytes ≡ found = cc in d.differ (d.want_is ∙ ap (λ (bs : List ℕ). slice_get bs at) same ∙ sym d.got_is)

unharmed : {T : Type 0} (xs : List Object) (kept given : Given) (r : Result T FetchError) → ((name : ℕ) → given name ≡ kept name) → Holds kept xs
    → Answers xs given r → IsUnharmed r
unharmed xs kept given (Ok value) told held a = tt
unharmed xs kept given (Err (KeepFault name)) told held a = tt
unharmed xs kept given (Err (Lost name)) told held a =
    let there = held_at xs kept given a.object held a.reached in
    let here : kept a.object.name ≡ None = ap kept a.named ∙ sym (told name) ∙ a.nothing in
    let no : ⊥ = cc in no
unharmed xs kept given (Err (Damaged name at want got)) told held a =
    let there = held_at xs kept given a.object held a.reached in
    let here : kept a.object.name ≡ Some a.bytes = ap kept a.named ∙ sym (told name) ∙ a.found in
    no_difference a.object.bytes a.bytes at want got (sym there ∙ here) a.first
unharmed xs kept given (Err Memory) told held a = tt

pub fetches_unharmed : {T : Type 0} (xs : List Object) (k : Option Objects) (r : Result T FetchError) → Fetches xs k r
    → IfSome k (λ kept. Holds (fin.get kept) xs → IsUnharmed r)
fetches_unharmed xs None r f = tt
fetches_unharmed xs (Some kept) r f = λ held. unharmed xs (fin.get kept) f.given r f.told held f.answers
