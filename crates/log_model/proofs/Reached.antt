-- A walk over a log that applies its writes up to a timestamp, as far as it has come.
use Rattle.std.proofs.Common.{◌≡◌, ℕ, ℤ, suc, ◌+◌, ◌<◌, ◌≤◌, cond, List, [], ◌∷◌, map, length, drop, get_or, sym, ap, ◌∙◌, add-one, drop-cons, arith}
use Rattle.std.specs.Ordering.{int_cmp}
use Rattle.std.specs.FinMap as fin
use Rattle.std.proofs.lemmas.Bool.{le-leb, lt-leb}
use Rattle.std.proofs.lemmas.List.{drop_all, nil_from_length}
use Rattle.row_types.specs.declared.rows.Row.{Row}
use Rattle.log_model.specs.declared.logs.Entry.{Entry}
use Rattle.log_model.specs.Logs.{Rows, applied, after, up_to, live}
use Rattle.log_model.proofs.LogLaws.{rows_of-after}

-- some rows have these entries, and what is left of the log leads from them to the live rows
pub record IsReached (log : List Entry) (ts i : ℕ) (es : List (ℤ × Row)) : Type 0 where
  pub rows : Rows
  pub same : fin.entries rows ≡ es
  pub rest : after rows (up_to (drop i log) ts) ≡ live log ts

pub entries-empty : fin.entries (fin.empty {X = Row} {R = int_cmp}) ≡ []
entries-empty = nil_from_length _ (sym (fin.len-entries (fin.empty {X = Row} {R = int_cmp})) ∙ fin.len-empty int_cmp Row)

pub begun : (log : List Entry) (ts : ℕ) → IsReached log ts 0 []
begun log ts = record { rows = fin.empty; same = entries-empty; rest = sym (rows_of-after (up_to log ts)) }

pub passed : (log : List Entry) (ts i : ℕ) (es : List (ℤ × Row)) (entry : Entry) → i < length log → entry ≡ get_or log i entry → ts < entry.ts.0
    → IsReached log ts i es → IsReached log ts (i + 1) es
passed log ts i es entry within is late reached =
    let split : drop i log ≡ entry ∷ drop (suc i) log = drop-cons log i entry within ∙ ap (λ e. e ∷ drop (suc i) log) (sym is) in
    let out : up_to (entry ∷ drop (suc i) log) ts ≡ up_to (drop (suc i) log) ts = ap (λ b. cond b (entry ∷ up_to (drop (suc i) log) ts) (up_to (drop (suc i) log) ts)) (lt-leb entry.ts.0 ts late) in
    record {
      rows = reached.rows;
      same = reached.same;
      rest = rw add-one (ap (after reached.rows) (sym out) ∙ ap (λ l. after reached.rows (up_to l ts)) (sym split) ∙ reached.rest);
    }

pub applied_one : (log : List Entry) (ts i : ℕ) (es fs : List (ℤ × Row)) (entry : Entry) → i < length log → entry ≡ get_or log i entry → entry.ts.0 ≤ ts
    → IsReached log ts i es → ((m : Rows) → fin.entries m ≡ es → fin.entries (applied m entry.write) ≡ fs) → IsReached log ts (i + 1) fs
applied_one log ts i es fs entry within is early reached step =
    let split : drop i log ≡ entry ∷ drop (suc i) log = drop-cons log i entry within ∙ ap (λ e. e ∷ drop (suc i) log) (sym is) in
    let into : up_to (entry ∷ drop (suc i) log) ts ≡ entry ∷ up_to (drop (suc i) log) ts = ap (λ b. cond b (entry ∷ up_to (drop (suc i) log) ts) (up_to (drop (suc i) log) ts)) (le-leb entry.ts.0 ts early) in
    record {
      rows = applied reached.rows entry.write;
      same = step reached.rows reached.same;
      rest = rw add-one (ap (after reached.rows) (sym into) ∙ ap (λ l. after reached.rows (up_to l ts)) (sym split) ∙ reached.rest);
    }

pub ended : (log : List Entry) (ts : ℕ) (es : List (ℤ × Row)) → IsReached log ts (length log) es → map (λ e. e.1) es ≡ fin.values (live log ts)
ended log ts es reached =
    let none : drop (length log) log ≡ [] = drop_all (length log) log (omega arith) in
    ap (map (λ e. e.1)) (sym reached.same)
    ∙ ap fin.values (ap (λ l. after reached.rows (up_to l ts)) (sym none) ∙ reached.rest)
