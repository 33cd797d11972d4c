-- Columns that grow by a value a row.
use Rattle.std.proofs.Common.{◌≡◌, ℕ, zero, suc, ◌+◌, List, [], ◌∷◌, ◌++◌, length, map, take, slice_get, Option, Some, None, refl, sym, ap, subst, ◌∙◌, arith, add-one}
use Rattle.std.specs.List.{AllByRecursion}
use Rattle.row_types.specs.declared.rows.Kind.{Kind}
use Rattle.row_types.specs.declared.rows.Field.{Field}
use Rattle.seg_sealed.specs.Segments.{column_of, field_at, columns_from}
use Rattle.std.proofs.Math.Seq.{take-length}

none_some : {A : Type 0} (x : A) → None ≡ Some x → ⊥
none_some x e = cc

some_same : {A : Type 0} (x y : A) → Some x ≡ Some y → x ≡ y
some_same x y e = cc

next_of : {A B : Type 0} (f : A → B) (xs : List A) (i : ℕ) (x : A) → slice_get xs i ≡ Some x → map f (take i xs) ++ f x ∷ [] ≡ map f (take (suc i) xs)
next_of f [] zero x e = absurd (none_some x e)
next_of f [] (suc i) x e = absurd (none_some x e)
next_of f (y ∷ xs) zero x e = ap (λ z. f z ∷ []) (sym (some_same y x e))
next_of f (y ∷ xs) (suc i) x e = ap (λ zs. f y ∷ zs) (next_of f xs i x e)

-- the values of one row more
pub more : {A B : Type 0} (f : A → B) (xs : List A) (i : ℕ) (x : A) (items : List B) → slice_get xs i ≡ Some x → items ≡ map f (take i xs) → items ++ f x ∷ [] ≡ map f (take (i + 1) xs)
more f xs i x items e is = ap (λ zs. zs ++ f x ∷ []) is ∙ next_of f xs i x e ∙ ap (λ n. map f (take n xs)) (sym (add-one i))

-- the values of all rows
pub whole : {A B : Type 0} (f : A → B) (xs : List A) (i : ℕ) (items : List B) → i ≡ length xs → items ≡ map f (take i xs) → items ≡ map f xs
whole f xs i items e is = is ∙ ap (λ n. map f (take n xs)) e ∙ ap (map f) (take-length xs)

-- three maps, one after another
pub in_one : {A B C D : Type 0} (f : C → D) (g : B → C) (h : A → B) (xs : List A) → map f (map g (map h xs)) ≡ map (λ x. f (g (h x))) xs
in_one f g h [] = refl
in_one f g h (x ∷ xs) = ap (λ ys. f (g (h x)) ∷ ys) (in_one f g h xs)

pub one_more : {A B : Type 0} (f : A → B) (xs : List A) (i : ℕ) (x : A) → slice_get xs i ≡ Some x → map f (take i xs) ++ f x ∷ [] ≡ map f (take (i + 1) xs)
one_more f xs i x e = next_of f xs i x e ∙ ap (λ n. map f (take n xs)) (sym (add-one i))

-- what is true of all is true of the one at a place
pub all_at : {A : Type 0} (P : A → Type 0) (xs : List A) (i : ℕ) (x : A) → slice_get xs i ≡ Some x → AllByRecursion P xs → P x
all_at P [] zero x e all = absurd (none_some x e)
all_at P [] (suc i) x e all = absurd (none_some x e)
all_at P (y ∷ xs) zero x e all = subst P (some_same y x e) all.0
all_at P (y ∷ xs) (suc i) x e all = all_at P xs i x e all.1

-- one column more
pub columns-snoc : (at : ℕ) (kinds : List Kind) (k : Kind) (rows : List (List Field)) → columns_from at (kinds ++ k ∷ []) rows ≡ columns_from at kinds rows ++ column_of k (map (field_at (at + length kinds)) rows) ∷ []
columns-snoc at [] k rows = ap (λ n. column_of k (map (field_at n) rows) ∷ []) (let e : at ≡ at + 0 = omega arith in e)
columns-snoc at (j ∷ kinds) k rows =
    ap (λ cs. column_of j (map (field_at at) rows) ∷ cs)
    (columns-snoc (suc at) kinds k rows ∙ ap (λ n. columns_from (suc at) kinds rows ++ column_of k (map (field_at n) rows) ∷ []) (let e : suc at + length kinds ≡ at + suc (length kinds) = omega arith in e))
