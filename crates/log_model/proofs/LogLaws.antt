-- Laws of logs: what was written above a timestamp changes nothing at it.
use Rattle.std.proofs.Common.{◌≡◌, ℕ, ◌<◌, ◌≤◌, Bool, true, false, cond, List, [], ◌∷◌, ◌++◌, refl, ap, ◌∙◌}
use Rattle.std.specs.List.{filter, AllByRecursion}
use Rattle.std.specs.FinMap as fin
use Rattle.std.proofs.lemmas.Bool.{le-leb, lt-leb, lt-ltb, le-ltb}
use Rattle.std.proofs.lemmas.List.{append-nil}
use Rattle.std.proofs.lemmas.List.Elements.{filter-append}
use Rattle.log_model.specs.declared.logs.Entry.{Entry}
use Rattle.log_model.specs.declared.logs.Write.{Write}
use Rattle.log_model.specs.declared.queries.Plan.{Plan}
use Rattle.log_model.specs.declared.queries.Query.{Query}
use Rattle.log_model.specs.Logs.{Rows, key_of, up_to, below, applied, after, rows_of, live, was_live}
use Rattle.log_model.specs.Scans.{passes_filter, hits_found, scan}
use Rattle.row_types.specs.Hits.{least}

module _ {X : Type 0} where
  pub each-append : (P : X → Type 0) (xs ys : List X) → AllByRecursion P xs → AllByRecursion P ys → AllByRecursion P (xs ++ ys)
  each-append P [] ys a b = b
  each-append P (x ∷ xs) ys a b = (a.0, each-append P xs ys a.1 b)

  pub each_implied : (P Q : X → Type 0) → ((x : X) → P x → Q x) → (xs : List X) → AllByRecursion P xs → AllByRecursion Q xs
  each_implied P Q f [] a = tt
  each_implied P Q f (x ∷ xs) a = (f x a.0, each_implied P Q f xs a.1)

  pub filter-all : (p : X → Bool) (xs : List X) → AllByRecursion (λ x. p x ≡ true) xs → filter p xs ≡ xs
  filter-all p [] a = refl
  filter-all p (x ∷ xs) a = ap (λ b. cond b (x ∷ filter p xs) (filter p xs)) a.0 ∙ ap (λ l. x ∷ l) (filter-all p xs a.1)

  pub filter-none : (p : X → Bool) (xs : List X) → AllByRecursion (λ x. p x ≡ false) xs → filter p xs ≡ []
  filter-none p [] a = refl
  filter-none p (x ∷ xs) a = ap (λ b. cond b (x ∷ filter p xs) (filter p xs)) a.0 ∙ filter-none p xs a.1

pub up_to-all : (log : List Entry) (ts : ℕ) → AllByRecursion (λ entry. entry.ts.0 ≤ ts) log → up_to log ts ≡ log
up_to-all log ts low = filter-all _ log (each_implied _ _ (λ entry h. le-leb _ _ h) log low)

pub below-all : (log : List Entry) (ts : ℕ) → AllByRecursion (λ entry. entry.ts.0 < ts) log → below log ts ≡ log
below-all log ts low = filter-all _ log (each_implied _ _ (λ entry h. lt-ltb _ _ h) log low)

pub up_to-more : (log more : List Entry) (ts : ℕ) → AllByRecursion (λ entry. ts < entry.ts.0) more → up_to (log ++ more) ts ≡ up_to log ts
up_to-more log more ts above =
    filter-append _ log more
    ∙ ap (λ l. up_to log ts ++ l) (filter-none _ more (each_implied _ _ (λ entry h. lt-leb _ _ h) more above))
    ∙ append-nil (up_to log ts)

pub below-more : (log more : List Entry) (ts : ℕ) → AllByRecursion (λ entry. ts ≤ entry.ts.0) more → below (log ++ more) ts ≡ below log ts
below-more log more ts above =
    filter-append _ log more
    ∙ ap (λ l. below log ts ++ l) (filter-none _ more (each_implied _ _ (λ entry h. le-ltb _ _ h) more above))
    ∙ append-nil (below log ts)

pub live-more : (log more : List Entry) (ts : ℕ) → AllByRecursion (λ entry. ts < entry.ts.0) more → live (log ++ more) ts ≡ live log ts
live-more log more ts above = ap rows_of (up_to-more log more ts above)

pub live-all : (log : List Entry) (ts : ℕ) → AllByRecursion (λ entry. entry.ts.0 ≤ ts) log → live log ts ≡ rows_of log
live-all log ts low = ap rows_of (up_to-all log ts low)

pub after-append : (rows : Rows) (log more : List Entry) → after rows (log ++ more) ≡ after (after rows log) more
after-append rows [] more = refl
after-append rows (entry ∷ log) more = after-append (applied rows entry.write) log more

pub rows_of-append : (log more : List Entry) → rows_of (log ++ more) ≡ after (rows_of log) more
unfolding rows_of
rows_of-append log more = after-append fin.empty log more

pub rows_of-after : (log : List Entry) → rows_of log ≡ after fin.empty log
unfolding rows_of
rows_of-after log = refl

pub was_live-more : (log more : List Entry) (ts : ℕ) (write : Write) → AllByRecursion (λ entry. ts ≤ entry.ts.0) more → was_live (log ++ more) ts write ≡ was_live log ts write
was_live-more log more ts write above = ap (λ l. fin.contains_key (rows_of l) (key_of write)) (below-more log more ts above)

pub scan-more : (log more : List Entry) (ts : ℕ) (plan : Plan) (query : Query) → AllByRecursion (λ entry. ts < entry.ts.0) more → scan (log ++ more) ts plan query ≡ scan log ts plan query
unfolding scan
scan-more log more ts plan query above = ap (λ rows. least query.k (hits_found (passes_filter query.filter) plan query (fin.values rows))) (live-more log more ts above)
