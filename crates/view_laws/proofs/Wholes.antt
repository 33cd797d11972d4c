-- The scans of channels make the scan of the whole.
use Rattle.std.proofs.Common.{◌≡◌, ◌≢◌, ℕ, ℤ, ◌+◌, ◌<◌, ◌≤◌, Bool, true, false, cond, List, [], ◌∷◌, ◌++◌, map, Some, None, refl, sym, ap, subst, ◌∙◌, inl, inr, ◌⊎◌, ⊎_elim, arith, append-nil, eqb-true, eq-eqb}
use Rattle.std.specs.Prelude.{nat_eq, slice_get, zero, suc}
use Rattle.std.specs.List.{filter, AllByRecursion}
use Rattle.std.specs.Ordering.{int_eq}
use Rattle.std.specs.FinMap as fin
use Rattle.std.proofs.lemmas.Bool.{false_from_ne_true, false≢true}
use Rattle.std.proofs.lemmas.Bool.Decides.{Decides-int_eq}
use Rattle.std.proofs.lemmas.List.Elements.{filter-append}
use Rattle.row_types.specs.declared.rows.Row.{Row}
use Rattle.row_types.specs.declared.hits.Hit.{Hit}
use Rattle.row_types.specs.Hits.{least}
use Rattle.log_model.specs.declared.logs.Entry.{Entry}
use Rattle.log_model.specs.declared.queries.Query.{Query}
use Rattle.log_model.specs.declared.queries.Plan.{Plan}
use Rattle.log_model.specs.Logs.{key_of, live, IsBefore, IsLog}
use Rattle.log_model.specs.Scans.{passes_filter, hits_found, scan}
use Rattle.log_model.proofs.LogLaws.{each_implied, filter-none}
use Rattle.log_model.proofs.Dimensions.{each-filter}
use Rattle.journal_model.specs.Lists.{IsIn, joined}
use Rattle.journal_model.proofs.ListLaws.{all_in}
use Rattle.journal_model.proofs.FollowLaws.{journal_log}
use Rattle.view_laws.specs.Found.{found_in}
use Rattle.view_laws.specs.Wholes.{of_key, IsOfChannel, AreOfChannelsFrom, AreOfChannels, whole, Looked, ServesAt, log_at_end}
use Rattle.view_laws.proofs.Members.{least-joined, in_joined, out_joined, found-members, found-joined}
use Rattle.view_laws.proofs.Values.{value_of_get, get_of_value, get_same, get_none}
use Rattle.view_laws.proofs.Shows.{exact_scan}
use Rattle.view_laws.proofs.Unions.{Rises, rises-rising_by, rises-filter, rising_by-of_rising, filter-rising_by}

not_later : (entry later : Entry) → IsBefore entry later → entry.ts.0 ≤ later.ts.0
not_later entry later h = ⊎_elim (λ l. omega arith) (λ r. let same : entry.ts.0 ≡ later.ts.0 = r.0 in omega arith) h

log_rises : (log : List Entry) → IsLog log → Rises (λ entry. entry.ts.0) log
log_rises [] h = tt
log_rises (entry ∷ log) h = (each_implied _ _ (λ later b. not_later entry later b) log h.0, log_rises log h.1)

same_nat : (m n : ℕ) → nat_eq m n ≡ false → m ≢ n
same_nat m n e h = let t : nat_eq m n ≡ true = eq-eqb m n h in absurd (false≢true (sym e ∙ t))

same_log : (x y : List Entry) → Some x ≡ Some y → x ≡ y
same_log x y e = cc

module _ (home : ℤ → ℕ) (key : ℤ) where
  other_none : (c : ℕ) (log : List Entry) → home key ≢ c → IsOfChannel home c log → of_key key log ≡ []
  other_none c log ne h =
      filter-none (λ entry. int_eq key (key_of entry.write)) log
      (each_implied _ _ (λ entry e. false_from_ne_true (int_eq key (key_of entry.write)) (λ t. ne (ap home ((Decides-int_eq key (key_of entry.write)).0 t) ∙ e))) log h)

  of_key-joined : (log : List Entry) (logs : List (List Entry)) → of_key key (joined (log ∷ logs)) ≡ of_key key log ++ of_key key (joined logs)
  of_key-joined log logs = filter-append (λ entry. int_eq key (key_of entry.write)) log (joined logs)

  behind_none : (first : ℕ) (logs : List (List Entry)) → home key < first → AreOfChannelsFrom home first logs → of_key key (joined logs) ≡ []
  behind_none first [] low of_these = refl
  behind_none first (log ∷ logs) low of_these =
      of_key-joined log logs
      ∙ ap (λ l. l ++ of_key key (joined logs)) (other_none first log (λ e. omega arith) of_these.0)
      ∙ behind_none (first + 1) logs (omega arith) of_these.1

  first_only : (first : ℕ) (log : List Entry) (logs : List (List Entry)) → home key ≡ first → AreOfChannelsFrom home (first + 1) logs → of_key key (joined (log ∷ logs)) ≡ of_key key log
  first_only first log logs e of_these =
      of_key-joined log logs ∙ ap (λ l. of_key key log ++ l) (behind_none (first + 1) logs (omega arith) of_these) ∙ append-nil (of_key key log)

  rest_only : (first : ℕ) (log : List Entry) (logs : List (List Entry)) → home key ≢ first → IsOfChannel home first log → of_key key (joined (log ∷ logs)) ≡ of_key key (joined logs)
  rest_only first log logs ne h = of_key-joined log logs ∙ ap (λ l. l ++ of_key key (joined logs)) (other_none first log ne h)

  -- the entries of a key are those of one log, or none
  picked : (first : ℕ) (logs : List (List Entry)) → AreOfChannelsFrom home first logs
      → ((log : List Entry) × IsIn log logs × (of_key key log ≡ of_key key (joined logs))) ⊎ (of_key key (joined logs) ≡ [])
  picked first [] of_these = inr refl
  picked first (log ∷ logs) of_these = go (nat_eq (home key) first) refl (picked (first + 1) logs of_these.1)
    where
      go : (b : Bool) → nat_eq (home key) first ≡ b
          → ((l : List Entry) × IsIn l logs × (of_key key l ≡ of_key key (joined logs))) ⊎ (of_key key (joined logs) ≡ [])
          → ((l : List Entry) × IsIn l (log ∷ logs) × (of_key key l ≡ of_key key (joined (log ∷ logs)))) ⊎ (of_key key (joined (log ∷ logs)) ≡ [])
      go true t rest = inl (log, inl refl, sym (first_only first log logs (eqb-true (home key) first t) of_these.1))
      go false t rest =
          let same = rest_only first log logs (same_nat (home key) first t) of_these.0 in
          ⊎_elim (λ o. inl (o.0, inr o.1, o.2 ∙ sym same)) (λ e. inr (same ∙ e)) rest

  -- and a log has all of them, or none
  owned : (first : ℕ) (logs : List (List Entry)) (log : List Entry) → AreOfChannelsFrom home first logs → IsIn log logs
      → (of_key key log ≡ of_key key (joined logs)) ⊎ (of_key key log ≡ [])
  owned first [] log of_these h = absurd h
  owned first (l ∷ logs) log of_these h = go (nat_eq (home key) first) refl (⊎_elim (λ e. inl e) (λ g. inr (owned (first + 1) logs log of_these.1 g)) h)
    where
      go : (b : Bool) → nat_eq (home key) first ≡ b → (log ≡ l) ⊎ ((of_key key log ≡ of_key key (joined logs)) ⊎ (of_key key log ≡ [])) → (of_key key log ≡ of_key key (joined (l ∷ logs))) ⊎ (of_key key log ≡ [])
      go true t (inl e) = inl (ap (of_key key) e ∙ sym (first_only first l logs (eqb-true (home key) first t) of_these.1))
      go true t (inr g) =
          let at : home key ≡ first = eqb-true (home key) first t in
          ⊎_elim (λ e. inr (e ∙ behind_none (first + 1) logs (omega arith) of_these.1)) (λ e. inr e) g
      go false t (inl e) = inr (ap (of_key key) e ∙ other_none first l (same_nat (home key) first t) of_these.0)
      go false t (inr g) = ⊎_elim (λ e. inl (e ∙ sym (rest_only first l logs (same_nat (home key) first t) of_these.0))) (λ e. inr e) g

  -- the log of the key's channel has them
  owner : (first i : ℕ) (logs : List (List Entry)) (log : List Entry) → home key ≡ first + i → AreOfChannelsFrom home first logs → slice_get logs i ≡ Some log
      → of_key key log ≡ of_key key (joined logs)
  owner first i [] log e of_these g = absurd cc
  owner first zero (l ∷ logs) log e of_these g =
      subst (λ z. of_key key z ≡ of_key key (joined (l ∷ logs))) (same_log l log g) (sym (first_only first l logs (omega arith) of_these.1))
  owner first (suc i) (l ∷ logs) log e of_these g =
      owner (first + 1) i logs log (omega arith) of_these.1 g ∙ sym (rest_only first l logs (λ h. omega arith) of_these.0)

  -- the union by timestamp has the same entries of each key
  pub whole_of_key : (logs : List (List Entry)) → AreOfChannels home logs → AllByRecursion IsLog logs → of_key key (whole logs) ≡ of_key key (joined logs)
  whole_of_key logs of_these lawful =
      filter-rising_by (λ entry. entry.ts.0) (λ entry. int_eq key (key_of entry.write)) (joined logs)
      ∙ rising_by-of_rising (λ entry. entry.ts.0) (of_key key (joined logs))
      (⊎_elim
      (λ o. subst (Rises (λ entry. entry.ts.0)) o.2 (rises-filter (λ entry. entry.ts.0) (λ entry. int_eq key (key_of entry.write)) o.0 (log_rises o.0 (all_in IsLog logs o.0 lawful o.1))))
      (λ e. subst (Rises (λ entry. entry.ts.0)) (sym e) tt)
      (picked 0 logs of_these))

-- ---- the whole is a log

filter_log : (p : Entry → Bool) (log : List Entry) → IsLog log → IsLog (filter p log)
filter_log p [] is = tt
filter_log p (entry ∷ log) is =
    let rest = filter_log p log is.1 in
    elim (p entry) as (λ b. IsLog (cond b (entry ∷ filter p log) (filter p log))) [ true ↦ (each-filter (IsBefore entry) p log is.0, rest) | false ↦ rest ]

before_other : (entry later : Entry) → entry.ts.0 ≤ later.ts.0 → key_of entry.write ≢ key_of later.write → IsBefore entry later
before_other entry later low ne = go (nat_eq entry.ts.0 later.ts.0) refl
  where
    go : (b : Bool) → nat_eq entry.ts.0 later.ts.0 ≡ b → IsBefore entry later
    go true t = inr (eqb-true entry.ts.0 later.ts.0 t, ne)
    go false t = let apart = same_nat entry.ts.0 later.ts.0 t in inl (omega arith)

before_all : (entry : Entry) (log : List Entry) → AllByRecursion (λ later. entry.ts.0 ≤ later.ts.0) log
    → AllByRecursion (IsBefore entry) (of_key (key_of entry.write) log) → AllByRecursion (IsBefore entry) log
before_all entry [] rises same = tt
before_all entry (later ∷ log) rises same =
    let rest = of_key (key_of entry.write) log in
    let more = before_all entry log rises.1 in
    elim (int_eq (key_of entry.write) (key_of later.write)) as (λ b. int_eq (key_of entry.write) (key_of later.write) ≡ b
    → AllByRecursion (IsBefore entry) (cond b (later ∷ rest) rest) → AllByRecursion (IsBefore entry) (later ∷ log)) [
      | true ↦ λ t s. (s.0, more s.1)
      | false ↦ λ t s. (before_other entry later rises.0 (λ e. false≢true (sym t ∙ (Decides-int_eq (key_of entry.write) (key_of later.write)).1 e)), more s)
    ] refl same

-- what rises, and is a log key by key, is a log
log_by_keys : (log : List Entry) → Rises (λ entry. entry.ts.0) log → ((key : ℤ) → IsLog (of_key key log)) → IsLog log
log_by_keys [] rises each = tt
log_by_keys (entry ∷ log) rises each =
    let own : ℤ = key_of entry.write in
    let first : IsLog (entry ∷ of_key own log) = subst (λ b. IsLog (cond b (entry ∷ of_key own log) (of_key own log))) ((Decides-int_eq own own).1 refl) (each own) in (
      before_all entry log rises.0 first.0,
      log_by_keys log rises.1 (λ key.
          elim (int_eq key own) as (λ b. IsLog (cond b (entry ∷ of_key key log) (of_key key log)) → IsLog (of_key key log)) [ true ↦ λ h. h.1 | false ↦ λ h. h ] (each key)),
    )

pub whole_log : (home : ℤ → ℕ) (logs : List (List Entry)) → AreOfChannels home logs → AllByRecursion IsLog logs → IsLog (whole logs)
whole_log home logs of_these lawful =
    log_by_keys (whole logs) (rises-rising_by (λ entry. entry.ts.0) (joined logs)) (λ key.
    subst IsLog (sym (whole_of_key home key logs of_these lawful))
    (⊎_elim
    (λ o. subst IsLog o.2 (filter_log (λ entry. int_eq key (key_of entry.write)) o.0 (all_in IsLog logs o.0 lawful o.1)))
    (λ e. subst IsLog (sym e) tt)
    (picked home key 0 logs of_these)))

-- the live row of a key in the whole is that of its channel's log
pub whole_row : (home : ℤ → ℕ) (logs : List (List Entry)) (log : List Entry) (t : ℕ) (key : ℤ) → AreOfChannels home logs → AllByRecursion IsLog logs
    → slice_get logs (home key) ≡ Some log → fin.get (live (whole logs) t) key ≡ fin.get (live log t) key
whole_row home logs log t key of_these lawful g =
    get_same key (whole logs) log t (whole_of_key home key logs of_these lawful ∙ sym (owner home key 0 (home key) logs log (omega arith) of_these g))

none_some : (row : Row) → None ≡ Some row → ⊥
none_some row e = cc

module _ (t : ℕ) where
  abbrev rows_at : List Entry → List Row
  rows_at log = fin.values (live log t)

  row_moves : (log other : List Entry) (row : Row) → of_key row.key.0 log ≡ of_key row.key.0 other → IsIn row (rows_at log) → IsIn row (rows_at other)
  row_moves log other row same h =
      value_of_get (live other t) row.key.0 row (sym (get_same row.key.0 log other t same) ∙ get_of_value log t row h)

  no_row : (log : List Entry) (row : Row) → of_key row.key.0 log ≡ [] → IsIn row (rows_at log) → ⊥
  no_row log row none h = none_some row (sym (get_none row.key.0 log t none) ∙ get_of_value log t row h)

  module _ (plan : Plan) (query : Query) where
    -- the scan of a log depends on the entries of each key alone
    pub keys_scan : (log other : List Entry) → ((key : ℤ) → of_key key log ≡ of_key key other) → scan log t plan query ≡ scan other t plan query
    unfolding scan
    keys_scan log other same =
        found-members (passes_filter query.filter) plan query (rows_at log) (rows_at other)
        (λ row. row_moves log other row (same row.key.0))
        (λ row. row_moves other log row (sym (same row.key.0)))

    abbrev hits_at : List Entry → List Hit
    hits_at log = hits_found (passes_filter query.filter) plan query (rows_at log)

    hits_map : (logs : List (List Entry)) → map (λ log. least query.k (hits_at log)) logs ≡ map (least query.k) (map (hits_found (passes_filter query.filter) plan query) (map rows_at logs))
    hits_map [] = refl
    hits_map (log ∷ logs) = ap (λ l. least query.k (hits_at log) ∷ l) (hits_map logs)

    -- any log that has each key's entries as the channels' logs one after another have them
    pub union_scan : (home : ℤ → ℕ) (logs : List (List Entry)) (union : List Entry) → AreOfChannels home logs → ((key : ℤ) → of_key key union ≡ of_key key (joined logs))
        → least query.k (joined (map (λ log. scan log t plan query) logs)) ≡ scan union t plan query
    unfolding scan
    union_scan home logs union of_these same =
        ap (λ l. least query.k (joined l)) (hits_map logs)
        ∙ least-joined query.k (map (hits_found (passes_filter query.filter) plan query) (map rows_at logs))
        ∙ ap (least query.k) (found-joined (passes_filter query.filter) plan query (map rows_at logs))
        ∙ found-members (passes_filter query.filter) plan query (joined (map rows_at logs)) (rows_at union)
        (λ row h.
        let o = out_joined rows_at row logs h in
        ⊎_elim
        (λ e. row_moves o.0 union row (e ∙ sym (same row.key.0)) o.2)
        (λ e. absurd (no_row o.0 row e o.2))
        (owned home row.key.0 0 logs o.0 of_these o.1))
        (λ row h.
        ⊎_elim
        (λ o. in_joined rows_at row o.0 logs o.1 (row_moves union o.0 row (same row.key.0 ∙ sym o.2) h))
        (λ e. absurd (no_row union row (same row.key.0 ∙ e) h))
        (picked home row.key.0 0 logs of_these))

    pub channels_scan : (home : ℤ → ℕ) (logs : List (List Entry)) → AreOfChannels home logs → AllByRecursion IsLog logs
        → least query.k (joined (map (λ log. scan log t plan query) logs)) ≡ scan (whole logs) t plan query
    channels_scan home logs of_these lawful = union_scan home logs (whole logs) of_these (λ key. whole_of_key home key logs of_these lawful)

    looks_map : (looks : List Looked) → AllByRecursion (ServesAt t) looks
        → map (λ l. found_in l.view t plan query) looks ≡ map (λ log. scan log t plan query) (map log_at_end looks)
    looks_map [] serve = refl
    looks_map (l ∷ looks) serve =
        let s = serve.0 in
        λ i. exact_scan l.notes l.more l.view t plan query s.exact s.journal s.from_floor s.to_tick i ∷ looks_map looks serve.1 i

    looks_logs : (looks : List Looked) → AllByRecursion (ServesAt t) looks → AllByRecursion IsLog (map log_at_end looks)
    looks_logs [] serve = tt
    looks_logs (l ∷ looks) serve = (journal_log (l.notes ++ l.more) serve.0.journal, looks_logs looks serve.1)

    pub looks_scan : (home : ℤ → ℕ) (looks : List Looked) → AllByRecursion (ServesAt t) looks → AreOfChannels home (map log_at_end looks)
        → least query.k (joined (map (λ l. found_in l.view t plan query) looks)) ≡ scan (whole (map log_at_end looks)) t plan query
    looks_scan home looks serve of_these =
        ap (λ l. least query.k (joined l)) (looks_map looks serve) ∙ channels_scan home (map log_at_end looks) of_these (looks_logs looks serve)
