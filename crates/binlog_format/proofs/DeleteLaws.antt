-- A delete log is read exactly where it is spelled.
use Rattle.std.proofs.Common.{◌≡◌, ℕ, ◌*◌, ◌^◌, ◌<◌, ◌≤◌, List, [], ◌++◌, length, None, Result, Ok, Err, refl, sym, ap, ◌∙◌, arith}
use Rattle.std.specs.Prelude.{codes, IfOk}
use Rattle.std.specs.Int.{w32, w64}
use Rattle.std.specs.List.{flat_map}
use Rattle.std.proofs.lemmas.Bool.Decides.{nat_tests}
use Rattle.hybrid_time.specs.declared.times.Timestamp.{Timestamp}
use Rattle.binlog_format.specs.declared.objects.DeleteLog.{DeleteLog}
use Rattle.binlog_format.specs.declared.refusals.FormatError.{FormatError}
use Rattle.binlog_format.specs.Reading.{everything, Answers, IsReadAs}
use Rattle.binlog_format.specs.Fields.{InTurn}
use Rattle.binlog_format.specs.Deletes.{mark_bytes, after_mark, IsMarkFrom, row_rule, mark_at, marks_at, delete_log, delete_bytes, IsDeleteLog, DeletesFit, SpellsDeletes}
use Rattle.binlog_format.proofs.FieldLaws.{IsField, IsBytes, field_then, field_as, gives_field, checked_field, number_field, whole_field, items_field, magic_field, segment_field, between_field, wide32, wide64, flat_map_long, all_from_turn, turn_weaker, turn_with, small_bytes, everything_takes, everything_again, apart, read_back}

-- a mark, with the sizes of its numbers
abbrev FitsMark : ℕ → ℕ × Timestamp → Type 0
FitsMark least mark = IsMarkFrom least mark × (mark.1.0 < 2 ^ 64)

row_allowed : (least row : ℕ) → row_rule least row ≡ None → (row < 65536) × (least ≤ row)
row_allowed least row e = (grind (arith, nat_tests), grind (arith, nat_tests))

row_passes : (least row : ℕ) → row < 65536 → least ≤ row → row_rule least row ≡ None
row_passes least row h k = grind (arith, nat_tests)

mark_field : (least : ℕ) → IsField (mark_at least) mark_bytes (FitsMark least)
unfolding mark_at
mark_field least = field_then (λ mark. mark.0) (checked_field (row_rule least) (number_field w32 (2 ^ 32) wide32))
    (λ row h. let ok = row_allowed least row h.1 in
    field_as (λ ts. (row, record { 0 = ts })) (λ mark. mark.1.0) (number_field w64 (2 ^ 64) wide64) (λ ts k. (refl, (refl, (ok, k)))) (λ mark k. (k.1.1, ap (λ (r : ℕ). (r, mark.1)) (sym k.0))))
    (λ mark k. let h : mark.0 < 65536 = k.0.0 in (omega arith, row_passes least mark.0 k.0.0 k.0.1))

marks_field : (count : ℕ) → IsField (marks_at count) (flat_map mark_bytes) (λ marks. (length marks ≡ count) × InTurn FitsMark after_mark 0 marks)
unfolding marks_at
marks_field count = whole_field (12 * count) (items_field mark_field count 0) (λ marks h. let e = flat_map_long mark_bytes 12 (λ mark. refl) marks in omega (arith, e, h.0))

abbrev made : ℕ → ℕ → List (ℕ × Timestamp) → DeleteLog
made segment applied marks = record { segment = segment; applied = applied; marks = marks }

same_log : (segment applied : ℕ) (marks : List (ℕ × Timestamp)) (log : DeleteLog) → log.segment ≡ segment → log.applied ≡ applied → log.marks ≡ marks → made segment applied marks ≡ log
same_log segment applied marks log s a m = rw (← s, ← a, ← m) refl

-- the rules and the sizes of all marks, from those of each
abbrev Valid : DeleteLog → Type 0
Valid log = IsDeleteLog log × DeletesFit log

valid : (log : DeleteLog) → log.segment < 2 ^ 60 → log.applied < 2 ^ 64 → length log.marks ≤ 65536 → InTurn FitsMark after_mark 0 log.marks → Valid log
valid log s a n h = (record { segment = s; count = n; marks = turn_weaker FitsMark IsMarkFrom after_mark (λ t x k. k.0) 0 log.marks h }, record { applied = a; stamps = all_from_turn FitsMark (λ mark. mark.1.0 < 2 ^ 64) after_mark (λ t x k. k.1) 0 log.marks h })

name_fits : IsBytes (codes "MANUDEL1")
name_fits = λ i. small_bytes (codes "MANUDEL1") refl i

pub delete_field : IsField delete_log delete_bytes Valid
unfolding delete_log
delete_field = field_then (λ log. codes "MANUDEL1") (magic_field (codes "MANUDEL1") refl name_fits) (λ name hn.
    field_then (λ log. log.segment) segment_field (λ segment hs.
    field_then (λ log. log.applied) (number_field w64 (2 ^ 64) wide64) (λ applied ha.
    field_then (λ log. length log.marks) (between_field 0 65536 (omega arith)) (λ count hc.
    field_then (λ log. log.marks) (marks_field count) (λ marks hm.
    gives_field (record { segment = segment; applied = applied; marks = marks })
    (refl, (hm.0, (refl, (refl, (sym hn, valid _ hs ha (omega arith) hm.1)))))
    (λ log e. same_log segment applied marks log e.1.1.1.0 e.1.1.0 e.0))
    (λ log h. (h.0, turn_with IsMarkFrom (λ mark. mark.1.0 < 2 ^ 64) FitsMark after_mark (λ t x k l. (k, l)) 0 log.marks h.1.1.1.1.0.marks h.1.1.1.1.1.stamps)))
    (λ log h. (omega arith, h.1.1.1.0.count)))
    (λ log h. h.1.1.1.applied))
    (λ log h. h.1.0.segment))
    (λ log h. refl)

pub is_found : (bs : List ℕ) (r : Result DeleteLog FormatError) → IsBytes bs → Answers r (everything delete_log bs) → IfOk r (λ log. SpellsDeletes bs log)
is_found bs (Ok log) fits given = let t = everything_takes delete_field bs log fits given in record { rules = t.1.0; fit = t.1.1; spelling = t.0 }
is_found bs (Err e) fits given = tt

pub is_only : (bs : List ℕ) (r : Result DeleteLog FormatError) (log : DeleteLog) → Answers r (everything delete_log bs) → SpellsDeletes bs log → IsReadAs r log
is_only bs r log given s = read_back r log (everything delete_log bs) given (ap (everything delete_log) s.spelling ∙ everything_again delete_field log (s.rules, s.fit))

pub deletes_apart : (a b : DeleteLog) (bs rest : List ℕ) → SpellsDeletes bs a → SpellsDeletes (bs ++ rest) b → (rest ≡ []) × (a ≡ b)
deletes_apart a b bs rest x y = let t = apart delete_field a b rest (x.rules, x.fit) (y.rules, y.fit) (ap (λ (z : List ℕ). z ++ rest) (sym x.spelling) ∙ y.spelling) in (t.1, t.0)
