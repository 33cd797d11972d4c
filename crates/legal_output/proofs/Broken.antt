-- The small outputs are what they say.
use Rattle.std.proofs.Common.{◌≡◌, ◌≢◌, ℕ, zero, suc, ◌+◌, ◌<◌, ◌≤◌, Bool, false, true≢false, cond, List, [], ◌∷◌, map, take, Some, None, refl, sym, ap, ◌∙◌, lit<, lit≤, arith}
use Rattle.std.specs.Prelude.{is_some}
use Rattle.std.specs.Ordering.{int_cmp}
use Rattle.std.specs.Cmp.{int_cmp_total}
use Rattle.std.specs.List.Sorted.{IsStrictlySortedBy}
use Rattle.std.specs.FinMap as fin
use Rattle.std.specs.FinMap.Entries.{put}
use Rattle.std.proofs.lemmas.List.{nil_from_length}
use Rattle.row_types.specs.declared.rows.Row.{Row}
use Rattle.row_types.specs.declared.hits.Hit.{Hit}
use Rattle.row_types.specs.Hits.{hit_cmp, least}
use Rattle.row_types.specs.Orders.{hits_total}
use Rattle.row_types.proofs.Rising as rising
use Rattle.hybrid_time.specs.declared.levels.Level.TheVariants.{Eventually}
use Rattle.log_model.specs.declared.logs.Write.TheVariants.{Insert}
use Rattle.log_model.specs.declared.logs.Entry.{Entry}
use Rattle.log_model.specs.Logs.{Rows, rows_of}
use Rattle.log_model.specs.Scans.{hits_found, passes_filter, scan}
use Rattle.log_model.proofs.LogLaws.{rows_of-after}
use Rattle.answer_lines.specs.declared.answers.Wrote.TheVariants.{Inserted, Exists}
use Rattle.legal_output.specs.Printed.{past_of}
use Rattle.legal_output.specs.Legal.{Counts, IsLegal, told_of, reply}
use Rattle.legal_output.specs.Examples.{Clause, Form, Refusals, Numbers, Writes, Content, Levels, Order, Pending, Meets, Holds, BreaksJust, asks_in, one_channel, stamp, seven, row_seven, nearest_to, found, in_tail, tick_line, search_line, legal_lines, without_a_tick, request_refused, number_twice, first_exists, hit_of_nothing, row_of_nothing, weak_guarantee, older_than_guarantee, older_than_known, falls_back, falls_behind_a_meet, pends_though_it_waits, pends_at_its_guarantee, seals_no_row, leaves_the_tail_out, too_many_wait, counts_too_many, end_leaves_the_tail_out, too_many_wait_at_the_end, end_keeps_dead_rows}

abbrev one_entry : ℕ → Row → List Entry
one_entry ts row = record { ts = stamp ts; write = Insert row } ∷ []

abbrev one_row : Row → Rows
one_row row = fin.insert fin.empty row.key.0 row

rows_of_none : rows_of [] ≡ fin.empty
rows_of_none = rows_of-after []

entries_none : fin.entries (fin.empty {X = Row} {R = int_cmp}) ≡ []
entries_none = nil_from_length _ (sym (fin.len-entries (fin.empty {X = Row} {R = int_cmp})) ∙ fin.len-empty int_cmp Row)

-- no key is live before the first entry
nothing_live : (row : Row) → fin.contains_key (rows_of []) row.key.0 ≡ false
nothing_live row = ap is_some (ap (λ rows. fin.get rows row.key.0) rows_of_none ∙ fin.get-empty int_cmp row.key.0)

none_counted : fin.len (rows_of []) ≡ 0
none_counted = ap (λ rows. fin.len rows) rows_of_none ∙ fin.len-empty int_cmp Row

-- an end or a meet with nothing to count
none_met : {ts : ℕ} → Counts one_channel [] (λ channel. record { rows = 0; segments = 0 }) 0 (in_tail ts 0 0 0)
none_met = record { live = sym none_counted; tail = refl; node_live = lit≤ tt; merged = λ e. lit≤ tt; least = lit≤ tt; most = lit≤ tt; waiting = lit≤ tt; failed = lit≤ tt }

empty_has_none : (row : Row) → fin.contains_key (fin.empty {X = Row} {R = int_cmp}) row.key.0 ≡ false
empty_has_none row = ap is_some (fin.get-empty int_cmp row.key.0)

rows_of_one : (ts : ℕ) (row : Row) → rows_of (one_entry ts row) ≡ one_row row
rows_of_one ts row = rows_of-after (one_entry ts row) ∙ ap (λ b. cond b fin.empty (one_row row)) (empty_has_none row)

one_counted : (ts : ℕ) (row : Row) → fin.len (rows_of (one_entry ts row)) ≡ 1
one_counted ts row =
    ap (λ rows. fin.len rows) (rows_of_one ts row)
    ∙ fin.len-insert int_cmp_total fin.empty row.key.0 row
    ∙ ap (λ b. cond b (fin.len (fin.empty {X = Row} {R = int_cmp})) (fin.len (fin.empty {X = Row} {R = int_cmp}) + 1)) (empty_has_none row)
    ∙ ap (λ n. n + 1) (fin.len-empty int_cmp Row)

entries_one : (row : Row) → fin.entries (one_row row) ≡ (row.key.0, row) ∷ []
entries_one row = fin.entries-insert int_cmp_total fin.empty row.key.0 row ∙ ap (put int_cmp row.key.0 row) entries_none

rises_none : IsStrictlySortedBy hit_cmp []
unfolding IsStrictlySortedBy
rises_none = tt

rises_one : (hit : Hit) → IsStrictlySortedBy hit_cmp (hit ∷ [])
unfolding IsStrictlySortedBy
rises_one hit = (tt, tt)

scan_none : (vector : List Bool) (ts : ℕ) → scan [] ts one_channel.plan (nearest_to vector) ≡ []
unfolding scan
scan_none vector ts =
    ap (λ rows. least 1 (hits_found (passes_filter (nearest_to vector).filter) one_channel.plan (nearest_to vector) (fin.values rows))) rows_of_none
    ∙ ap (λ es. least 1 (hits_found (passes_filter (nearest_to vector).filter) one_channel.plan (nearest_to vector) (map (λ e. e.1) es))) entries_none
    ∙ ap (λ hits. take 1 hits) (rising.in_order-of_rising hits_total [] rises_none)

scan_one : (vector : List Bool) → scan (one_entry 2 (row_seven vector)) 4 one_channel.plan (nearest_to vector) ≡ found vector ∷ []
unfolding scan
scan_one vector =
    ap (λ rows. least 1 (hits_found (passes_filter (nearest_to vector).filter) one_channel.plan (nearest_to vector) (fin.values rows))) (rows_of_one 2 (row_seven vector))
    ∙ ap (λ es. least 1 (hits_found (passes_filter (nearest_to vector).filter) one_channel.plan (nearest_to vector) (map (λ e. e.1) es))) (entries_one (row_seven vector))
    ∙ ap (λ hits. take 1 hits) (rising.in_order-of_rising hits_total (found vector ∷ []) (rises_one (found vector)))

get_one : (vector : List Bool) → fin.get (rows_of (one_entry 2 (row_seven vector))) seven.0 ≡ Some (row_seven vector)
get_one vector = ap (λ rows. fin.get rows seven.0) (rows_of_one 2 (row_seven vector)) ∙ fin.get-insert int_cmp_total fin.empty seven.0 (row_seven vector) seven.0

-- a first insert is not told that its key is live
first_finds_none : (row : Row) → Exists ≡ reply (one_entry 1 row) 1 (Insert row) → ⊥
first_finds_none row told =
    let both : Exists ≡ Inserted = told ∙ ap (told_of (Insert row)) (nothing_live row) in
    cc

finds_nothing : (vector : List Bool) (ts : ℕ) → found vector ∷ [] ≡ scan [] ts one_channel.plan (nearest_to vector) → ⊥
finds_nothing vector ts shows =
    let both : found vector ∷ [] ≡ [] = shows ∙ scan_none vector ts in
    cc

shows_nothing : (vector : List Bool) → Some (row_seven vector) ≡ fin.get (rows_of []) seven.0 → ⊥
shows_nothing vector shows =
    let both : Some (row_seven vector) ≡ None = shows ∙ ap (λ rows. fin.get rows seven.0) rows_of_none ∙ fin.get-empty int_cmp seven.0 in
    cc

-- a caller knows the tick that it was told
knows_its_tick : (vector : List Bool) (channel : ℕ) → channel < 1 → (past_of one_channel (tick_line 2 0 1 ∷ []) (search_line 3 vector Eventually 2 0 0 [])).known_tick channel ≤ 0 → ⊥
knows_its_tick vector zero only late = let one : 1 ≤ 0 = late in omega arith
knows_its_tick vector (suc channel) only late = omega arith

pub legal : (vector : List Bool) → IsLegal one_channel (asks_in (legal_lines vector)) (legal_lines vector)
legal vector = record {
  form = record { numbered = (refl, (refl, (refl, (refl, (refl, (refl, (refl, (refl, (refl, tt))))))))); asked = refl; kinds = (tt, (refl, ((tt, tt), (tt, (record { names = refl; kinds = tt }, (tt, (refl, (tt, (tt, tt))))))))) };
  refusals = (tt, (tt, (tt, (refl, (tt, (tt, (tt, (tt, (tt, tt)))))))));
  numbers = record { differ = (((λ e. cc), ((λ e. cc), ((λ e. cc), ((λ e. cc), ((λ e. cc), ((λ e. cc), ((λ e. cc), tt))))))), (((λ e. cc), ((λ e. cc), ((λ e. cc), ((λ e. cc), ((λ e. cc), ((λ e. cc), tt)))))), (((λ e. cc), ((λ e. cc), ((λ e. cc), ((λ e. cc), ((λ e. cc), tt))))), (((λ e. cc), ((λ e. cc), ((λ e. cc), ((λ e. cc), tt)))), (((λ e. cc), ((λ e. cc), ((λ e. cc), tt))), (((λ e. cc), ((λ e. cc), tt)), (((λ e. cc), tt), (tt, tt)))))))); above = (lit< tt, (lit< tt, (lit< tt, (lit< tt, (lit< tt, (lit< tt, (lit< tt, (lit< tt, tt)))))))) };
  writes = ((ap (told_of (Insert (row_seven vector))) (sym (nothing_live (row_seven vector))), tt), (tt, (tt, (tt, (tt, (tt, (tt, (tt, (tt, tt)))))))));
  content = (tt, (tt, (sym (scan_one vector), (tt, (sym (get_one vector), (tt, (tt, (tt, (tt, tt)))))))));
  levels = (tt, (tt, (record { guarantee = refl; fresh = record { guaranteed = lit≤ tt; known = (0, lit< tt, lit≤ tt) } }, (tt, (record { guarantee = refl; fresh = record { guaranteed = lit≤ tt; known = lit≤ tt } }, (record { guarantee = refl; fresh = tt }, (tt, (tt, (tt, tt)))))))));
  order = (record { rising = (tt, tt); after_meet = (lit< tt, tt); after_caller = (lit< tt, tt) }, (record { rising = (tt, tt); after_meet = (lit< tt, tt); after_caller = (lit< tt, tt) }, (record { rising = (tt, tt); after_meet = (lit< tt, tt); after_caller = (lit< tt, tt) }, (record { rising = tt; after_meet = tt; after_caller = tt }, (record { rising = (tt, tt); after_meet = (lit< tt, tt); after_caller = (lit< tt, tt) }, (record { rising = (tt, tt); after_meet = (lit< tt, tt); after_caller = (lit< tt, tt) }, (record { rising = (tt, tt); after_meet = (lit< tt, tt); after_caller = (lit< tt, tt) }, (record { rising = (tt, tt); after_meet = (lit< tt, tt); after_caller = (lit< tt, tt) }, (record { rising = (tt, tt); after_meet = (lit< tt, tt); after_caller = (lit< tt, tt) }, tt)))))))));
  pending = (tt, (tt, (tt, (tt, (tt, (record { alone = refl; needed = refl; known = lit≤ tt; below = lit< tt }, (tt, (tt, (tt, tt)))))))));
  meets = (record { sealed = tt; met = tt }, (record { sealed = tt; met = tt }, (record { sealed = tt; met = tt }, (record { sealed = tt; met = tt }, (record { sealed = tt; met = tt }, (record { sealed = tt; met = tt }, (record { sealed = (refl, tt); met = tt }, (record { sealed = tt; met = record { live = sym (one_counted 2 (row_seven vector)); tail = refl; node_live = lit≤ tt; merged = λ e. lit≤ tt; least = lit≤ tt; most = lit≤ tt; waiting = lit≤ tt; failed = lit≤ tt } }, (record { sealed = tt; met = record { live = sym (one_counted 2 (row_seven vector)); tail = refl; node_live = lit≤ tt; merged = λ e. lit≤ tt; least = lit≤ tt; most = lit≤ tt; waiting = lit≤ tt; failed = lit≤ tt } }, tt)))))))));
}

form_others : (other : Clause) → other ≢ Form → Holds one_channel without_a_tick other
form_others Form differs = absurd (differs refl)
form_others Refusals differs = (tt, (tt, tt))
form_others Numbers differs = record { differ = (tt, tt); above = (lit< tt, tt) }
form_others Writes differs = (tt, (tt, tt))
form_others Content differs = (tt, (tt, tt))
form_others Levels differs = (tt, (tt, tt))
form_others Order differs = (record { rising = tt; after_meet = tt; after_caller = tt }, (record { rising = (tt, tt); after_meet = (lit< tt, tt); after_caller = (lit< tt, tt) }, tt))
form_others Pending differs = (tt, (tt, tt))
form_others Meets differs = (record { sealed = tt; met = tt }, (record { sealed = tt; met = none_met }, tt))

pub form : BreaksJust one_channel without_a_tick Form
form = record { broken = λ holds. let none_is_one : 0 ≡ 1 = holds.kinds.0 in cc; others = form_others }

refusals_others : (other : Clause) → other ≢ Refusals → Holds one_channel request_refused other
refusals_others Form differs = record { numbered = (refl, (refl, tt)); asked = refl; kinds = (tt, (tt, tt)) }
refusals_others Refusals differs = absurd (differs refl)
refusals_others Numbers differs = record { differ = (tt, tt); above = (lit< tt, tt) }
refusals_others Writes differs = (tt, (tt, tt))
refusals_others Content differs = (tt, (tt, tt))
refusals_others Levels differs = (tt, (tt, tt))
refusals_others Order differs = (record { rising = tt; after_meet = tt; after_caller = tt }, (record { rising = (tt, tt); after_meet = (lit< tt, tt); after_caller = (lit< tt, tt) }, tt))
refusals_others Pending differs = (tt, (tt, tt))
refusals_others Meets differs = (record { sealed = tt; met = tt }, (record { sealed = tt; met = none_met }, tt))

pub refusals : BreaksJust one_channel request_refused Refusals
refusals = record { broken = λ holds. holds.0; others = refusals_others }

numbers_others : (other : Clause) → other ≢ Numbers → Holds one_channel number_twice other
numbers_others Form differs = record { numbered = (refl, (refl, (refl, tt))); asked = refl; kinds = (refl, (refl, (tt, tt))) }
numbers_others Refusals differs = (tt, (tt, (tt, tt)))
numbers_others Numbers differs = absurd (differs refl)
numbers_others Writes differs = (tt, (tt, (tt, tt)))
numbers_others Content differs = (tt, (tt, (tt, tt)))
numbers_others Levels differs = (tt, (tt, (tt, tt)))
numbers_others Order differs = (record { rising = (tt, tt); after_meet = (lit< tt, tt); after_caller = (lit< tt, tt) }, (record { rising = (tt, tt); after_meet = (lit< tt, tt); after_caller = (lit< tt, tt) }, (record { rising = (tt, tt); after_meet = (lit< tt, tt); after_caller = (lit< tt, tt) }, tt)))
numbers_others Pending differs = (tt, (tt, (tt, tt)))
numbers_others Meets differs = (record { sealed = tt; met = tt }, (record { sealed = tt; met = tt }, (record { sealed = tt; met = none_met }, tt)))

pub numbers : BreaksJust one_channel number_twice Numbers
numbers = record { broken = λ holds. holds.differ.0.0 refl; others = numbers_others }

writes_others : (vector : List Bool) → (other : Clause) → other ≢ Writes → Holds one_channel (first_exists vector) other
writes_others vector Form differs = record { numbered = (refl, (refl, tt)); asked = refl; kinds = (tt, (tt, tt)) }
writes_others vector Refusals differs = (tt, (tt, tt))
writes_others vector Numbers differs = record { differ = (((λ e. cc), tt), (tt, tt)); above = (lit< tt, (lit< tt, tt)) }
writes_others vector Writes differs = absurd (differs refl)
writes_others vector Content differs = (tt, (tt, tt))
writes_others vector Levels differs = (tt, (tt, tt))
writes_others vector Order differs = (record { rising = (tt, tt); after_meet = (lit< tt, tt); after_caller = (lit< tt, tt) }, (record { rising = (tt, tt); after_meet = (lit< tt, tt); after_caller = (lit< tt, tt) }, tt))
writes_others vector Pending differs = (tt, (tt, tt))
writes_others vector Meets differs = (record { sealed = tt; met = tt }, (record { sealed = tt; met = record { live = sym (one_counted 1 (row_seven vector)); tail = refl; node_live = lit≤ tt; merged = λ e. lit≤ tt; least = lit≤ tt; most = lit≤ tt; waiting = lit≤ tt; failed = lit≤ tt } }, tt))

pub writes : (vector : List Bool) → BreaksJust one_channel (first_exists vector) Writes
writes vector = record { broken = λ holds. first_finds_none (row_seven vector) holds.0.0; others = writes_others vector }

content_others : (vector : List Bool) → (other : Clause) → other ≢ Content → Holds one_channel (hit_of_nothing vector) other
content_others vector Form differs = record { numbered = (refl, (refl, tt)); asked = refl; kinds = ((tt, tt), (tt, tt)) }
content_others vector Refusals differs = (tt, (tt, tt))
content_others vector Numbers differs = record { differ = (((λ e. cc), tt), (tt, tt)); above = (lit< tt, (lit< tt, tt)) }
content_others vector Writes differs = (tt, (tt, tt))
content_others vector Content differs = absurd (differs refl)
content_others vector Levels differs = (record { guarantee = refl; fresh = record { guaranteed = lit≤ tt; known = (0, lit< tt, lit≤ tt) } }, (tt, tt))
content_others vector Order differs = (record { rising = (tt, tt); after_meet = (lit< tt, tt); after_caller = (lit< tt, tt) }, (record { rising = (tt, tt); after_meet = (lit< tt, tt); after_caller = (lit< tt, tt) }, tt))
content_others vector Pending differs = (tt, (tt, tt))
content_others vector Meets differs = (record { sealed = tt; met = tt }, (record { sealed = tt; met = none_met }, tt))

pub content : (vector : List Bool) → BreaksJust one_channel (hit_of_nothing vector) Content
content vector = record { broken = λ holds. finds_nothing vector 2 holds.0; others = content_others vector }

row_others : (vector : List Bool) → (other : Clause) → other ≢ Content → Holds one_channel (row_of_nothing vector) other
row_others vector Form differs = record { numbered = (refl, (refl, tt)); asked = refl; kinds = (record { names = refl; kinds = tt }, (tt, tt)) }
row_others vector Refusals differs = (tt, (tt, tt))
row_others vector Numbers differs = record { differ = (((λ e. cc), tt), (tt, tt)); above = (lit< tt, (lit< tt, tt)) }
row_others vector Writes differs = (tt, (tt, tt))
row_others vector Content differs = absurd (differs refl)
row_others vector Levels differs = (record { guarantee = refl; fresh = record { guaranteed = lit≤ tt; known = lit≤ tt } }, (tt, tt))
row_others vector Order differs = (record { rising = (tt, tt); after_meet = (lit< tt, tt); after_caller = (lit< tt, tt) }, (record { rising = (tt, tt); after_meet = (lit< tt, tt); after_caller = (lit< tt, tt) }, tt))
row_others vector Pending differs = (tt, (tt, tt))
row_others vector Meets differs = (record { sealed = tt; met = tt }, (record { sealed = tt; met = none_met }, tt))

pub row : (vector : List Bool) → BreaksJust one_channel (row_of_nothing vector) Content
row vector = record { broken = λ holds. shows_nothing vector holds.0; others = row_others vector }

levels_others : (vector : List Bool) → (other : Clause) → other ≢ Levels → Holds one_channel (weak_guarantee vector) other
levels_others vector Form differs = record { numbered = (refl, (refl, tt)); asked = refl; kinds = (tt, (tt, tt)) }
levels_others vector Refusals differs = (tt, (tt, tt))
levels_others vector Numbers differs = record { differ = (((λ e. cc), tt), (tt, tt)); above = (lit< tt, (lit< tt, tt)) }
levels_others vector Writes differs = (tt, (tt, tt))
levels_others vector Content differs = (sym (scan_none vector 2), (tt, tt))
levels_others vector Levels differs = absurd (differs refl)
levels_others vector Order differs = (record { rising = (tt, tt); after_meet = (lit< tt, tt); after_caller = (lit< tt, tt) }, (record { rising = (tt, tt); after_meet = (lit< tt, tt); after_caller = (lit< tt, tt) }, tt))
levels_others vector Pending differs = (tt, (tt, tt))
levels_others vector Meets differs = (record { sealed = tt; met = tt }, (record { sealed = tt; met = none_met }, tt))

pub levels : (vector : List Bool) → BreaksJust one_channel (weak_guarantee vector) Levels
levels vector = record { broken = λ holds. let none_is_one : 0 ≡ 1 = holds.0.guarantee in cc; others = levels_others vector }

guaranteed_others : (vector : List Bool) → (other : Clause) → other ≢ Levels → Holds one_channel (older_than_guarantee vector) other
guaranteed_others vector Form differs = record { numbered = (refl, (refl, tt)); asked = refl; kinds = (tt, (tt, tt)) }
guaranteed_others vector Refusals differs = (tt, (tt, tt))
guaranteed_others vector Numbers differs = record { differ = (((λ e. cc), tt), (tt, tt)); above = (lit< tt, (lit< tt, tt)) }
guaranteed_others vector Writes differs = (tt, (tt, tt))
guaranteed_others vector Content differs = (sym (scan_none vector 0), (tt, tt))
guaranteed_others vector Levels differs = absurd (differs refl)
guaranteed_others vector Order differs = (record { rising = (tt, tt); after_meet = (lit< tt, tt); after_caller = (lit< tt, tt) }, (record { rising = (tt, tt); after_meet = (lit< tt, tt); after_caller = (lit< tt, tt) }, tt))
guaranteed_others vector Pending differs = (tt, (tt, tt))
guaranteed_others vector Meets differs = (record { sealed = tt; met = tt }, (record { sealed = tt; met = none_met }, tt))

pub guaranteed : (vector : List Bool) → BreaksJust one_channel (older_than_guarantee vector) Levels
guaranteed vector = record { broken = λ holds. let late : 1 ≤ 0 = holds.0.fresh.guaranteed in omega arith; others = guaranteed_others vector }

known_others : (vector : List Bool) → (other : Clause) → other ≢ Levels → Holds one_channel (older_than_known vector) other
known_others vector Form differs = record { numbered = (refl, (refl, (refl, tt))); asked = refl; kinds = (refl, (tt, (tt, tt))) }
known_others vector Refusals differs = (tt, (tt, (tt, tt)))
known_others vector Numbers differs = record { differ = (((λ e. cc), ((λ e. cc), tt)), (((λ e. cc), tt), (tt, tt))); above = (lit< tt, (lit< tt, (lit< tt, tt))) }
known_others vector Writes differs = (tt, (tt, (tt, tt)))
known_others vector Content differs = (tt, (sym (scan_none vector 0), (tt, tt)))
known_others vector Levels differs = absurd (differs refl)
known_others vector Order differs = (record { rising = (tt, tt); after_meet = (lit< tt, tt); after_caller = (lit< tt, tt) }, (record { rising = (tt, tt); after_meet = (lit< tt, tt); after_caller = (lit< tt, tt) }, (record { rising = (tt, tt); after_meet = (lit< tt, tt); after_caller = (lit< tt, tt) }, tt)))
known_others vector Pending differs = (tt, (tt, (tt, tt)))
known_others vector Meets differs = (record { sealed = tt; met = tt }, (record { sealed = tt; met = tt }, (record { sealed = tt; met = none_met }, tt)))

pub known : (vector : List Bool) → BreaksJust one_channel (older_than_known vector) Levels
known vector = record { broken = λ holds. knows_its_tick vector holds.1.0.fresh.known.0 holds.1.0.fresh.known.1 holds.1.0.fresh.known.2; others = known_others vector }

order_others : (other : Clause) → other ≢ Order → Holds one_channel falls_back other
order_others Form differs = record { numbered = (refl, (refl, (refl, tt))); asked = refl; kinds = (refl, (refl, (tt, tt))) }
order_others Refusals differs = (tt, (tt, (tt, tt)))
order_others Numbers differs = record { differ = (((λ e. cc), ((λ e. cc), tt)), (((λ e. cc), tt), (tt, tt))); above = (lit< tt, (lit< tt, (lit< tt, tt))) }
order_others Writes differs = (tt, (tt, (tt, tt)))
order_others Content differs = (tt, (tt, (tt, tt)))
order_others Levels differs = (tt, (tt, (tt, tt)))
order_others Order differs = absurd (differs refl)
order_others Pending differs = (tt, (tt, (tt, tt)))
order_others Meets differs = (record { sealed = tt; met = tt }, (record { sealed = tt; met = tt }, (record { sealed = tt; met = none_met }, tt)))

pub order : BreaksJust one_channel falls_back Order
order = record { broken = λ holds. let later : 2 < 1 = holds.1.0.after_caller.0 in omega arith; others = order_others }

after_meet_others : (other : Clause) → other ≢ Order → Holds one_channel falls_behind_a_meet other
after_meet_others Form differs = record { numbered = (refl, (refl, (refl, tt))); asked = refl; kinds = (tt, (refl, (tt, tt))) }
after_meet_others Refusals differs = (tt, (tt, (tt, tt)))
after_meet_others Numbers differs = record { differ = (((λ e. cc), ((λ e. cc), tt)), (((λ e. cc), tt), (tt, tt))); above = (lit< tt, (lit< tt, (lit< tt, tt))) }
after_meet_others Writes differs = (tt, (tt, (tt, tt)))
after_meet_others Content differs = (tt, (tt, (tt, tt)))
after_meet_others Levels differs = (tt, (tt, (tt, tt)))
after_meet_others Order differs = absurd (differs refl)
after_meet_others Pending differs = (tt, (tt, (tt, tt)))
after_meet_others Meets differs = (record { sealed = tt; met = record { live = sym none_counted; tail = refl; node_live = lit≤ tt; merged = λ e. lit≤ tt; least = lit≤ tt; most = lit≤ tt; waiting = lit≤ tt; failed = lit≤ tt } }, (record { sealed = tt; met = tt }, (record { sealed = tt; met = none_met }, tt)))

pub after_meet : BreaksJust one_channel falls_behind_a_meet Order
after_meet = record { broken = λ holds. let later : 2 < 1 = holds.1.0.after_meet.0 in omega arith; others = after_meet_others }

pending_others : (other : Clause) → other ≢ Pending → Holds one_channel pends_though_it_waits other
pending_others Form differs = record { numbered = (refl, (refl, tt)); asked = refl; kinds = (tt, (tt, tt)) }
pending_others Refusals differs = (tt, (tt, tt))
pending_others Numbers differs = record { differ = (((λ e. cc), tt), (tt, tt)); above = (lit< tt, (lit< tt, tt)) }
pending_others Writes differs = (tt, (tt, tt))
pending_others Content differs = (tt, (tt, tt))
pending_others Levels differs = (record { guarantee = refl; fresh = tt }, (tt, tt))
pending_others Order differs = (record { rising = (tt, tt); after_meet = (lit< tt, tt); after_caller = (lit< tt, tt) }, (record { rising = (tt, tt); after_meet = (lit< tt, tt); after_caller = (lit< tt, tt) }, tt))
pending_others Pending differs = absurd (differs refl)
pending_others Meets differs = (record { sealed = tt; met = tt }, (record { sealed = tt; met = none_met }, tt))

pub pending : BreaksJust one_channel pends_though_it_waits Pending
pending = record { broken = λ holds. true≢false holds.0.alone; others = pending_others }

pending_below_others : (other : Clause) → other ≢ Pending → Holds one_channel pends_at_its_guarantee other
pending_below_others Form differs = record { numbered = (refl, (refl, tt)); asked = refl; kinds = (tt, (tt, tt)) }
pending_below_others Refusals differs = (tt, (tt, tt))
pending_below_others Numbers differs = record { differ = (((λ e. cc), tt), (tt, tt)); above = (lit< tt, (lit< tt, tt)) }
pending_below_others Writes differs = (tt, (tt, tt))
pending_below_others Content differs = (tt, (tt, tt))
pending_below_others Levels differs = (record { guarantee = refl; fresh = tt }, (tt, tt))
pending_below_others Order differs = (record { rising = (tt, tt); after_meet = (lit< tt, tt); after_caller = (lit< tt, tt) }, (record { rising = (tt, tt); after_meet = (lit< tt, tt); after_caller = (lit< tt, tt) }, tt))
pending_below_others Pending differs = absurd (differs refl)
pending_below_others Meets differs = (record { sealed = tt; met = tt }, (record { sealed = tt; met = none_met }, tt))

pub pending_below : BreaksJust one_channel pends_at_its_guarantee Pending
pending_below = record { broken = λ holds. let below : 1 < 1 = holds.0.below in omega arith; others = pending_below_others }

sealed_others : (vector : List Bool) → (other : Clause) → other ≢ Meets → Holds one_channel (seals_no_row vector) other
sealed_others vector Form differs = record { numbered = (refl, (refl, (refl, tt))); asked = refl; kinds = (tt, (refl, (tt, tt))) }
sealed_others vector Refusals differs = (tt, (tt, (tt, tt)))
sealed_others vector Numbers differs = record { differ = (((λ e. cc), ((λ e. cc), tt)), (((λ e. cc), tt), (tt, tt))); above = (lit< tt, (lit< tt, (lit< tt, tt))) }
sealed_others vector Writes differs = ((ap (told_of (Insert (row_seven vector))) (sym (nothing_live (row_seven vector))), tt), (tt, (tt, tt)))
sealed_others vector Content differs = (tt, (tt, (tt, tt)))
sealed_others vector Levels differs = (tt, (tt, (tt, tt)))
sealed_others vector Order differs = (record { rising = (tt, tt); after_meet = (lit< tt, tt); after_caller = (lit< tt, tt) }, (record { rising = (tt, tt); after_meet = (lit< tt, tt); after_caller = (lit< tt, tt) }, (record { rising = (tt, tt); after_meet = (lit< tt, tt); after_caller = (lit< tt, tt) }, tt)))
sealed_others vector Pending differs = (tt, (tt, (tt, tt)))
sealed_others vector Meets differs = absurd (differs refl)

pub sealed : (vector : List Bool) → BreaksJust one_channel (seals_no_row vector) Meets
sealed vector = record { broken = λ holds. let none_is_one : 0 ≡ 1 = holds.1.0.sealed.0 in cc; others = sealed_others vector }

tail_others : (vector : List Bool) → (other : Clause) → other ≢ Meets → Holds one_channel (leaves_the_tail_out vector) other
tail_others vector Form differs = record { numbered = (refl, (refl, (refl, tt))); asked = refl; kinds = (tt, (tt, (tt, tt))) }
tail_others vector Refusals differs = (tt, (tt, (tt, tt)))
tail_others vector Numbers differs = record { differ = (((λ e. cc), ((λ e. cc), tt)), (((λ e. cc), tt), (tt, tt))); above = (lit< tt, (lit< tt, (lit< tt, tt))) }
tail_others vector Writes differs = ((ap (told_of (Insert (row_seven vector))) (sym (nothing_live (row_seven vector))), tt), (tt, (tt, tt)))
tail_others vector Content differs = (tt, (tt, (tt, tt)))
tail_others vector Levels differs = (tt, (tt, (tt, tt)))
tail_others vector Order differs = (record { rising = (tt, tt); after_meet = (lit< tt, tt); after_caller = (lit< tt, tt) }, (record { rising = (tt, tt); after_meet = (lit< tt, tt); after_caller = (lit< tt, tt) }, (record { rising = (tt, tt); after_meet = (lit< tt, tt); after_caller = (lit< tt, tt) }, tt)))
tail_others vector Pending differs = (tt, (tt, (tt, tt)))
tail_others vector Meets differs = absurd (differs refl)

pub tail : (vector : List Bool) → BreaksJust one_channel (leaves_the_tail_out vector) Meets
tail vector = record { broken = λ holds. let none_is_one : 0 ≡ 1 = holds.1.0.met.tail in cc; others = tail_others vector }

waiting_others : (vector : List Bool) → (other : Clause) → other ≢ Meets → Holds one_channel (too_many_wait vector) other
waiting_others vector Form differs = record { numbered = (refl, (refl, (refl, tt))); asked = refl; kinds = (tt, (tt, (tt, tt))) }
waiting_others vector Refusals differs = (tt, (tt, (tt, tt)))
waiting_others vector Numbers differs = record { differ = (((λ e. cc), ((λ e. cc), tt)), (((λ e. cc), tt), (tt, tt))); above = (lit< tt, (lit< tt, (lit< tt, tt))) }
waiting_others vector Writes differs = ((ap (told_of (Insert (row_seven vector))) (sym (nothing_live (row_seven vector))), tt), (tt, (tt, tt)))
waiting_others vector Content differs = (tt, (tt, (tt, tt)))
waiting_others vector Levels differs = (tt, (tt, (tt, tt)))
waiting_others vector Order differs = (record { rising = (tt, tt); after_meet = (lit< tt, tt); after_caller = (lit< tt, tt) }, (record { rising = (tt, tt); after_meet = (lit< tt, tt); after_caller = (lit< tt, tt) }, (record { rising = (tt, tt); after_meet = (lit< tt, tt); after_caller = (lit< tt, tt) }, tt)))
waiting_others vector Pending differs = (tt, (tt, (tt, tt)))
waiting_others vector Meets differs = absurd (differs refl)

pub waiting : (vector : List Bool) → BreaksJust one_channel (too_many_wait vector) Meets
waiting vector = record { broken = λ holds. let most : 1 ≤ 0 = holds.1.0.met.waiting in omega arith; others = waiting_others vector }

meets_others : (other : Clause) → other ≢ Meets → Holds one_channel counts_too_many other
meets_others Form differs = record { numbered = (refl, tt); asked = refl; kinds = (tt, tt) }
meets_others Refusals differs = (tt, tt)
meets_others Numbers differs = record { differ = (tt, tt); above = (lit< tt, tt) }
meets_others Writes differs = (tt, tt)
meets_others Content differs = (tt, tt)
meets_others Levels differs = (tt, tt)
meets_others Order differs = (record { rising = (tt, tt); after_meet = (lit< tt, tt); after_caller = (lit< tt, tt) }, tt)
meets_others Pending differs = (tt, tt)
meets_others Meets differs = absurd (differs refl)

pub meets : BreaksJust one_channel counts_too_many Meets
meets = record { broken = λ holds. let one_is_none : 1 ≡ fin.len (rows_of []) = holds.0.met.live in let none_is_one : 0 ≡ 1 = sym none_counted ∙ sym one_is_none in cc; others = meets_others }

end_tail_others : (vector : List Bool) → (other : Clause) → other ≢ Meets → Holds one_channel (end_leaves_the_tail_out vector) other
end_tail_others vector Form differs = record { numbered = (refl, (refl, tt)); asked = refl; kinds = (tt, (tt, tt)) }
end_tail_others vector Refusals differs = (tt, (tt, tt))
end_tail_others vector Numbers differs = record { differ = (((λ e. cc), tt), (tt, tt)); above = (lit< tt, (lit< tt, tt)) }
end_tail_others vector Writes differs = ((ap (told_of (Insert (row_seven vector))) (sym (nothing_live (row_seven vector))), tt), (tt, tt))
end_tail_others vector Content differs = (tt, (tt, tt))
end_tail_others vector Levels differs = (tt, (tt, tt))
end_tail_others vector Order differs = (record { rising = (tt, tt); after_meet = (lit< tt, tt); after_caller = (lit< tt, tt) }, (record { rising = (tt, tt); after_meet = (lit< tt, tt); after_caller = (lit< tt, tt) }, tt))
end_tail_others vector Pending differs = (tt, (tt, tt))
end_tail_others vector Meets differs = absurd (differs refl)

pub end_tail : (vector : List Bool) → BreaksJust one_channel (end_leaves_the_tail_out vector) Meets
end_tail vector = record { broken = λ holds. let none_is_one : 0 ≡ 1 = holds.1.0.met.tail in cc; others = end_tail_others vector }

end_waiting_others : (vector : List Bool) → (other : Clause) → other ≢ Meets → Holds one_channel (too_many_wait_at_the_end vector) other
end_waiting_others vector Form differs = record { numbered = (refl, (refl, tt)); asked = refl; kinds = (tt, (tt, tt)) }
end_waiting_others vector Refusals differs = (tt, (tt, tt))
end_waiting_others vector Numbers differs = record { differ = (((λ e. cc), tt), (tt, tt)); above = (lit< tt, (lit< tt, tt)) }
end_waiting_others vector Writes differs = ((ap (told_of (Insert (row_seven vector))) (sym (nothing_live (row_seven vector))), tt), (tt, tt))
end_waiting_others vector Content differs = (tt, (tt, tt))
end_waiting_others vector Levels differs = (tt, (tt, tt))
end_waiting_others vector Order differs = (record { rising = (tt, tt); after_meet = (lit< tt, tt); after_caller = (lit< tt, tt) }, (record { rising = (tt, tt); after_meet = (lit< tt, tt); after_caller = (lit< tt, tt) }, tt))
end_waiting_others vector Pending differs = (tt, (tt, tt))
end_waiting_others vector Meets differs = absurd (differs refl)

pub end_waiting : (vector : List Bool) → BreaksJust one_channel (too_many_wait_at_the_end vector) Meets
end_waiting vector = record { broken = λ holds. let most : 1 ≤ 0 = holds.1.0.met.waiting in omega arith; others = end_waiting_others vector }

end_merged_others : (other : Clause) → other ≢ Meets → Holds one_channel end_keeps_dead_rows other
end_merged_others Form differs = record { numbered = (refl, tt); asked = refl; kinds = (tt, tt) }
end_merged_others Refusals differs = (tt, tt)
end_merged_others Numbers differs = record { differ = (tt, tt); above = (lit< tt, tt) }
end_merged_others Writes differs = (tt, tt)
end_merged_others Content differs = (tt, tt)
end_merged_others Levels differs = (tt, tt)
end_merged_others Order differs = (record { rising = (tt, tt); after_meet = (lit< tt, tt); after_caller = (lit< tt, tt) }, tt)
end_merged_others Pending differs = (tt, tt)
end_merged_others Meets differs = absurd (differs refl)

pub end_merged : BreaksJust one_channel end_keeps_dead_rows Meets
end_merged = record { broken = λ holds. let most : 1 ≤ 0 = holds.0.met.merged refl in omega arith; others = end_merged_others }
