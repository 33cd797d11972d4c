-- The live rows of logs of several channels are those of each channel together.
use Rattle.std.proofs.Common.{◌≡◌, ℕ, ℤ, zero, suc, ◌+◌, ◌-◌, ◌<◌, ◌≤◌, Bool, true, false, true≢false, cond, Option, Some, None, is_some, List, [], ◌∷◌, ◌++◌, length, if◌then◌else◌, refl, sym, ap, subst, ◌∙◌, append_assoc, append-nil, arith}
use Rattle.std.specs.List.{AllByRecursion as Each}
use Rattle.std.specs.Ordering.{int_cmp, int_eq, eq_by_cmp}
use Rattle.std.specs.Cmp.{int_cmp_total}
use Rattle.std.specs.FinMap as fin
use Rattle.std.proofs.lemmas.Bool.{false_from_ne_true}
use Rattle.std.proofs.lemmas.Bool.Decides.{Decides-int_eq}
use Rattle.row_types.specs.declared.rows.Row.{Row}
use Rattle.turn_table.specs.Knowledge.{at_slot}
use Rattle.log_model.specs.declared.logs.Write.{Write}
use Rattle.log_model.specs.declared.logs.Write.TheVariants as writes
use Rattle.log_model.specs.declared.logs.Entry.{Entry}
use Rattle.log_model.specs.Logs.{Rows, key_of, applied, after, rows_of}
use Rattle.log_model.proofs.LogLaws.{each-append, each_implied, filter-none, live-all, rows_of-append, rows_of-after}
use Rattle.legal_output.specs.Printed.{sum_over}
use Rattle.journal_model.specs.declared.notes.Note.{Note}
use Rattle.journal_model.specs.Notes.{log_of, live_in}
use Rattle.journal_model.specs.Lists.{joined}
use Rattle.view_laws.specs.Wholes.{IsOfChannel, AreOfChannelsFrom}
use Rattle.view_laws.proofs.Values.{get_none}
use Rattle.phase_logs.proofs.Channels.{logs_of}

-- ---- rows of one channel among the rows of all

-- the rows u are the rows m, which have no key of the channel c, and the rows r of that channel
record Joint (home : ℤ → ℕ) (c : ℕ) (m r u : Rows) : Type 0 where
  many : fin.len u ≡ fin.len m + fin.len r
  same : (key : ℤ) → home key ≡ c → fin.get u key ≡ fin.get r key

some_len : (rows : Rows) (key : ℤ) → fin.contains_key rows key ≡ true → 1 ≤ fin.len rows
some_len rows key there = has_len (fin.len rows) refl
  where
    has_len : (n : ℕ) → fin.len rows ≡ n → 1 ≤ fin.len rows
    has_len zero is =
        let e : rows ≡ fin.empty = fin.empty_of_len rows is in
        let g : fin.contains_key rows key ≡ false = ap (λ (m : Rows). fin.contains_key m key) e ∙ ap is_some (fin.get-empty int_cmp key) in
        absurd (true≢false (sym there ∙ g))
    has_len (suc n) is = omega arith

same_there : (home : ℤ → ℕ) (c : ℕ) (m r u : Rows) (key : ℤ) → Joint home c m r u → home key ≡ c → fin.contains_key u key ≡ fin.contains_key r key
same_there home c m r u key j at = ap is_some (j.same key at)

put_many : (b : Bool) (n m k : ℕ) → n ≡ m + k → cond b n (n + 1) ≡ m + cond b k (k + 1)
put_many true n m k e = e
put_many false n m k e = omega arith

cut_many : (b : Bool) (n m k : ℕ) → n ≡ m + k → (b ≡ true → 1 ≤ k) → cond b (n - 1) n ≡ m + cond b (k - 1) k
cut_many true n m k e f = let s : 1 ≤ k = f refl in omega arith
cut_many false n m k e f = e

joint_put : (home : ℤ → ℕ) (c : ℕ) (m r u : Rows) (key : ℤ) (row : Row) → home key ≡ c → Joint home c m r u → Joint home c m (fin.insert r key row) (fin.insert u key row)
joint_put home c m r u key row at j = record {
  many = fin.len-insert int_cmp_total u key row
      ∙ ap (λ (b : Bool). cond b (fin.len u) (fin.len u + 1)) (same_there home c m r u key j at)
      ∙ put_many (fin.contains_key r key) (fin.len u) (fin.len m) (fin.len r) j.many
      ∙ ap (λ (n : ℕ). fin.len m + n) (sym (fin.len-insert int_cmp_total r key row));
  same = λ q there. fin.get-insert int_cmp_total u key row q ∙ ap (λ (o : Option Row). cond (eq_by_cmp int_cmp q key) (Some row) o) (j.same q there) ∙ sym (fin.get-insert int_cmp_total r key row q);
}

joint_cut : (home : ℤ → ℕ) (c : ℕ) (m r u : Rows) (key : ℤ) → home key ≡ c → Joint home c m r u → Joint home c m (fin.remove r key) (fin.remove u key)
joint_cut home c m r u key at j = record {
  many = fin.len-remove int_cmp_total u key
      ∙ ap (λ (b : Bool). cond b (fin.len u - 1) (fin.len u)) (same_there home c m r u key j at)
      ∙ cut_many (fin.contains_key r key) (fin.len u) (fin.len m) (fin.len r) j.many (some_len r key)
      ∙ ap (λ (n : ℕ). fin.len m + n) (sym (fin.len-remove int_cmp_total r key));
  same = λ q there. fin.get-remove int_cmp_total u key q ∙ ap (λ (o : Option Row). cond (eq_by_cmp int_cmp q key) None o) (j.same q there) ∙ sym (fin.get-remove int_cmp_total r key q);
}

joint_if : (home : ℤ → ℕ) (c : ℕ) (m r u r' u' : Rows) (b : Bool) → Joint home c m r u → Joint home c m r' u' → Joint home c m (if b then r else r') (if b then u else u')
joint_if home c m r u r' u' true j k = j
joint_if home c m r u r' u' false j k = k

joint_write : (home : ℤ → ℕ) (c : ℕ) (m r u : Rows) (write : Write) → home (key_of write) ≡ c → Joint home c m r u → Joint home c m (applied r write) (applied u write)
joint_write home c m r u (writes.Insert row) at j =
    subst (λ (b : Bool). Joint home c m (applied r (writes.Insert row)) (if b then u else fin.insert u row.key.0 row)) (sym (same_there home c m r u row.key.0 j at))
    (joint_if home c m r u (fin.insert r row.key.0 row) (fin.insert u row.key.0 row) (fin.contains_key r row.key.0) j (joint_put home c m r u row.key.0 row at j))
joint_write home c m r u (writes.Upsert row) at j = joint_put home c m r u row.key.0 row at j
joint_write home c m r u (writes.Delete key) at j = joint_cut home c m r u key.0 at j

joint_log : (home : ℤ → ℕ) (c : ℕ) (m r u : Rows) (log : List Entry) → IsOfChannel home c log → Joint home c m r u → Joint home c m (after r log) (after u log)
joint_log home c m r u [] of_these j = j
joint_log home c m r u (entry ∷ log) of_these j = joint_log home c m (applied r entry.write) (applied u entry.write) log of_these.1 (joint_write home c m r u entry.write of_these.0 j)

-- ---- one channel behind others

-- the live rows of journals, summed
abbrev lives : List (List Note) → ℕ
lives [] = 0
lives (notes ∷ journals) = fin.len (live_in notes) + lives journals

module _ (home : ℤ → ℕ) (ts : ℕ) where
  -- entries up to the timestamp, of channels before the channel k
  record Front (k : ℕ) (log : List Entry) : Type 0 where
    low : Each (λ (entry : Entry). entry.ts.0 ≤ ts) log
    before : Each (λ (entry : Entry). home (key_of entry.write) < k) log

  no_key : (k : ℕ) (log : List Entry) → Front k log → (key : ℤ) → home key ≡ k → fin.get (rows_of log) key ≡ None
  no_key k log f key at =
      ap (λ (rows : Rows). fin.get rows key) (sym (live-all log ts f.low))
      ∙ get_none key log ts (filter-none (λ (entry : Entry). int_eq key (key_of entry.write)) log
      (each_implied (λ (entry : Entry). home (key_of entry.write) < k) (λ (entry : Entry). int_eq key (key_of entry.write) ≡ false)
      (λ entry below. false_from_ne_true (int_eq key (key_of entry.write)) (λ t. (let e : home key ≡ home (key_of entry.write) = ap home ((Decides-int_eq key (key_of entry.write)).0 t) in absurd (omega arith)))) log f.before))

  one_more : (k : ℕ) (front log : List Entry) → Front k front → IsOfChannel home k log → fin.len (rows_of (front ++ log)) ≡ fin.len (rows_of front) + fin.len (rows_of log)
  one_more k front log f of_these =
      let start : Joint home k (rows_of front) fin.empty (rows_of front) = record {
        many = (let z : fin.len (fin.empty {X = Row} {R = int_cmp}) ≡ 0 = fin.len-empty int_cmp Row in omega arith);
        same = λ key at. no_key k front f key at ∙ sym (fin.get-empty int_cmp key);
      } in
      ap fin.len (rows_of-append front log) ∙ (joint_log home k (rows_of front) fin.empty (rows_of front) log of_these start).many ∙ ap (λ (rows : Rows). fin.len (rows_of front) + fin.len rows) (sym (rows_of-after log))

  front_more : (k : ℕ) (front log : List Entry) → Front k front → Each (λ (entry : Entry). entry.ts.0 ≤ ts) log → IsOfChannel home k log → Front (k + 1) (front ++ log)
  front_more k front log f low of_these = record {
    low = each-append (λ (entry : Entry). entry.ts.0 ≤ ts) front log f.low low;
    before = each-append (λ (entry : Entry). home (key_of entry.write) < k + 1) front log
        (each_implied (λ (entry : Entry). home (key_of entry.write) < k) (λ (entry : Entry). home (key_of entry.write) < k + 1) (λ entry b. omega arith) front f.before)
        (each_implied (λ (entry : Entry). home (key_of entry.write) ≡ k) (λ (entry : Entry). home (key_of entry.write) < k + 1) (λ entry e. omega arith) log of_these);
  }

  all_live : (k : ℕ) (front : List Entry) (journals : List (List Note)) → Front k front → AreOfChannelsFrom home k (logs_of journals)
      → ((i : ℕ) → i < length journals → Each (λ (entry : Entry). entry.ts.0 ≤ ts) (log_of (at_slot journals i))) → fin.len (rows_of (front ++ joined (logs_of journals))) ≡ fin.len (rows_of front) + lives journals
  all_live k front [] f of_these low = (let e : fin.len (rows_of (front ++ [])) ≡ fin.len (rows_of front) = ap (λ (l : List Entry). fin.len (rows_of l)) (append-nil front) in omega arith)
  all_live k front (notes ∷ journals) f of_these low =
      let rest : fin.len (rows_of ((front ++ log_of notes) ++ joined (logs_of journals))) ≡ fin.len (rows_of (front ++ log_of notes)) + lives journals =
      all_live (k + 1) (front ++ log_of notes) journals (front_more k front (log_of notes) f (low 0 (omega arith)) of_these.0) of_these.1 (λ i below. low (suc i) (omega arith)) in
      let here : fin.len (rows_of (front ++ log_of notes)) ≡ fin.len (rows_of front) + fin.len (rows_of (log_of notes)) = one_more k front (log_of notes) f of_these.0 in
      let same : fin.len (rows_of (front ++ (log_of notes ++ joined (logs_of journals)))) ≡ fin.len (rows_of ((front ++ log_of notes) ++ joined (logs_of journals))) =
      ap (λ (l : List Entry). fin.len (rows_of l)) (sym (append_assoc front (log_of notes) (joined (logs_of journals)))) in omega arith

sum_shift : (f : ℕ → ℕ) (n : ℕ) → sum_over (suc n) f ≡ f 0 + sum_over n (λ k. f (suc k))
sum_shift f zero = omega arith
sum_shift f (suc n) = let r : sum_over (suc n) f ≡ f 0 + sum_over n (λ k. f (suc k)) = sum_shift f n in omega arith

lives_sum : (journals : List (List Note)) → lives journals ≡ sum_over (length journals) (λ k. fin.len (live_in (at_slot journals k)))
lives_sum [] = refl
lives_sum (notes ∷ journals) =
    let r : lives journals ≡ sum_over (length journals) (λ k. fin.len (live_in (at_slot journals k))) = lives_sum journals in
    let s : sum_over (suc (length journals)) (λ k. fin.len (live_in (at_slot (notes ∷ journals) k))) ≡ fin.len (live_in notes) + sum_over (length journals) (λ k. fin.len (live_in (at_slot journals k))) =
    sum_shift (λ k. fin.len (live_in (at_slot (notes ∷ journals) k))) (length journals) in omega arith

-- the rows that are live in all channels
pub lives_together : (home : ℤ → ℕ) (ts : ℕ) (journals : List (List Note)) → AreOfChannelsFrom home 0 (logs_of journals) → ((i : ℕ) → i < length journals → Each (λ (entry : Entry). entry.ts.0 ≤ ts) (log_of (at_slot journals i)))
    → fin.len (rows_of (joined (logs_of journals))) ≡ sum_over (length journals) (λ k. fin.len (live_in (at_slot journals k)))
lives_together home ts journals of_these low =
    let a : fin.len (rows_of ([] ++ joined (logs_of journals))) ≡ fin.len (rows_of []) + lives journals = all_live home ts 0 [] journals (record { low = tt; before = tt }) of_these low in
    let z : fin.len (rows_of []) ≡ 0 = ap fin.len (rows_of-after []) ∙ fin.len-empty int_cmp Row in
    let s : lives journals ≡ sum_over (length journals) (λ k. fin.len (live_in (at_slot journals k))) = lives_sum journals in omega arith
