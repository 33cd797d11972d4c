-- Entries in the order of their timestamps: those that are later than all others go behind them.
use Rattle.std.proofs.Common.{◌≡◌, ℕ, ◌<◌, ◌≤◌, true, false, cond, List, [], ◌∷◌, ◌++◌, map, refl, sym, ap, ◌∙◌, append_assoc, arith}
use Rattle.std.specs.Prelude.{Option, Some, None, nat_le}
use Rattle.std.specs.List.{AllByRecursion as Each, flat_map}
use Rattle.std.proofs.lemmas.Bool.{le-leb}
use Rattle.log_model.specs.declared.logs.Write.{Write}
use Rattle.log_model.specs.declared.logs.Entry.{Entry}
use Rattle.answer_lines.specs.declared.answers.Answer.{Answer}
use Rattle.answer_lines.specs.declared.answers.Answer.TheVariants as answers
use Rattle.legal_output.specs.Lines.{Line, Start, Written, changes_of, written_of, drawn, stamps}
use Rattle.legal_output.specs.Printed.{place, ordered, entries_if, entries_of, printed_log}
use Rattle.legal_output.proofs.Grown.{each-flat_map, flat_map-push}
use Rattle.log_model.proofs.LogLaws.{each_implied}

le_over : (a b c : ℕ) → a < b → b ≤ c → a ≤ c
le_over a b c low high = omega arith

module _ {X : Type 0} (ts_of : X → ℕ) where
  place-first : (clock : ℕ) (item : X) (later : List X) → ts_of item < clock → Each (λ x. clock ≤ ts_of x) later → place ts_of item later ≡ item ∷ later
  place-first clock item [] low high = refl
  place-first clock item (other ∷ others) low high = ap (λ b. cond b (item ∷ other ∷ others) (other ∷ place ts_of item others)) (le-leb (ts_of item) (ts_of other) (le_over (ts_of item) clock (ts_of other) low high.0))

  place-append : (clock : ℕ) (item : X) (items later : List X) → ts_of item < clock → Each (λ x. clock ≤ ts_of x) later → place ts_of item (items ++ later) ≡ place ts_of item items ++ later
  place-append clock item [] later low high = place-first clock item later low high
  place-append clock item (other ∷ items) later low high =
      let rest = place-append clock item items later low high in
      elim (nat_le (ts_of item) (ts_of other)) as (λ b. cond b (item ∷ other ∷ (items ++ later)) (other ∷ place ts_of item (items ++ later)) ≡ cond b (item ∷ other ∷ items) (other ∷ place ts_of item items) ++ later) [
        | true ↦ refl
        | false ↦ ap (λ l. other ∷ l) rest
      ]

  pub ordered-append : (clock : ℕ) (items later : List X) → Each (λ x. ts_of x < clock) items → Each (λ x. clock ≤ ts_of x) later → ordered ts_of later ≡ later
      → ordered ts_of (items ++ later) ≡ ordered ts_of items ++ later
  ordered-append clock [] later low high same = same
  ordered-append clock (item ∷ items) later low high same = ap (place ts_of item) (ordered-append clock items later low.1 high same) ∙ place-append clock item (ordered ts_of items) later low.0 high

module _ {X : Type 0} (ts_of : X → ℕ) (P : X → Type 0) where
  pub place_each : (item : X) (items : List X) → P item → Each P items → Each P (place ts_of item items)
  place_each item [] here all = (here, tt)
  place_each item (other ∷ others) here all =
      let rest = place_each item others here all.1 in
      elim (nat_le (ts_of item) (ts_of other)) as (λ b. Each P (cond b (item ∷ other ∷ others) (other ∷ place ts_of item others))) [
        | true ↦ (here, all)
        | false ↦ (all.0, rest)
      ]

  pub ordered_each : (items : List X) → Each P items → Each P (ordered ts_of items)
  ordered_each [] all = tt
  ordered_each (item ∷ items) all = place_each item (ordered ts_of items) all.0 (ordered_each items all.1)

-- items that are later than all others stand behind them
pub ordered-blocks : {X : Type 0} (ts_of : X → ℕ) (clock : ℕ) (items later : List X) → Each (λ x. ts_of x < clock) items → Each (λ x. clock ≤ ts_of x) later
    → ordered ts_of (items ++ later) ≡ ordered ts_of items ++ ordered ts_of later
ordered-blocks ts_of clock [] later low high = refl
ordered-blocks ts_of clock (item ∷ items) later low high =
    ap (place ts_of item) (ordered-blocks ts_of clock items later low.1 high)
    ∙ place-append ts_of clock item (ordered ts_of items) (ordered ts_of later) low.0 (ordered_each ts_of (λ x. clock ≤ ts_of x) later high)

abbrev time_of : Entry → ℕ
time_of entry = entry.ts.0

place-same : (ts : ℕ) (change : Write) (changes : List Write)
    → place time_of (record { ts = record { 0 = ts }; write = change }) (entries_if changes (Some (record { ts = ts; replies = [] }))) ≡ record { ts = record { 0 = ts }; write = change } ∷ entries_if changes (Some (record { ts = ts; replies = [] }))
place-same ts change [] = refl
place-same ts change (other ∷ changes) =
    let here : Entry = record { ts = record { 0 = ts }; write = change } in
    let next : Entry = record { ts = record { 0 = ts }; write = other } in
    let rest : List Entry = entries_if changes (Some (record { ts = ts; replies = [] })) in
    ap (λ b. cond b (here ∷ next ∷ rest) (next ∷ place time_of here rest)) (le-leb ts ts (omega arith))

-- the changes of one answer have one timestamp, and stay in their order
ordered-changes : (ts : ℕ) (changes : List Write) → ordered time_of (entries_if changes (Some (record { ts = ts; replies = [] }))) ≡ entries_if changes (Some (record { ts = ts; replies = [] }))
ordered-changes ts [] = refl
ordered-changes ts (change ∷ changes) = ap (place time_of (record { ts = record { 0 = ts }; write = change })) (ordered-changes ts changes) ∙ place-same ts change changes

ordered-if : (changes : List Write) (written : Option Written) → ordered time_of (entries_if changes written) ≡ entries_if changes written
ordered-if changes None = refl
ordered-if changes (Some written) = ordered-changes written.ts changes

entries_at : (Q : ℕ → Type 0) (ts : ℕ) (changes : List Write) → Q ts → Each (λ (e : Entry). Q e.ts.0) (map (λ change. record { ts = record { 0 = ts }; write = change }) changes)
entries_at Q ts [] here = tt
entries_at Q ts (change ∷ changes) here = (here, entries_at Q ts changes here)

-- what holds of the drawn numbers holds of the timestamps of the entries
pub entries_hold : (Q : ℕ → Type 0) (changes : List Write) (answer : Answer) → Each Q (drawn answer) → Each (λ (e : Entry). Q e.ts.0) (entries_if changes (written_of answer))
entries_hold Q changes answers.Created all = tt
entries_hold Q changes (answers.Wrote reply) all = entries_at Q reply.ts.0 changes all.0
entries_hold Q changes (answers.Hits now guarantee ts hits) all = tt
entries_hold Q changes (answers.Found now guarantee ts row) all = tt
entries_hold Q changes (answers.Pending now guarantee channel tick) all = tt
entries_hold Q changes (answers.Ticked ticks) all = tt
entries_hold Q changes (answers.Sealed seals) all = tt
entries_hold Q changes (answers.Met reply) all = tt
entries_hold Q changes (answers.End reply) all = tt
entries_hold Q changes (answers.Refused reason) all = tt

pub drawn_shown : (Q : ℕ → Type 0) (answer : Answer) → Each Q (stamps answer) → Each Q (drawn answer)
drawn_shown Q answers.Created all = all
drawn_shown Q (answers.Wrote reply) all = all
drawn_shown Q (answers.Hits now guarantee ts hits) all = (all.0, tt)
drawn_shown Q (answers.Found now guarantee ts row) all = (all.0, tt)
drawn_shown Q (answers.Pending now guarantee channel tick) all = (all.0, tt)
drawn_shown Q (answers.Ticked ticks) all = all
drawn_shown Q (answers.Sealed seals) all = all
drawn_shown Q (answers.Met reply) all = all
drawn_shown Q (answers.End reply) all = all
drawn_shown Q (answers.Refused reason) all = all

-- a line whose numbers are from the clock on writes behind the log of lines whose numbers are below it
pub printed_log-push : (start : Start) (clock : ℕ) (lines : List Line) (line : Line)
    → Each (λ other. Each (λ n. n < clock) (stamps other.answer)) lines → Each (λ n. clock ≤ n) (drawn line.answer)
    → printed_log start (lines ++ line ∷ []) ≡ printed_log start lines ++ entries_of line
printed_log-push start clock lines line low high =
    let lower : Each (λ e. e.ts.0 < clock) (flat_map entries_of lines) = each-flat_map (λ e. e.ts.0 < clock) entries_of lines
    (each_implied (λ other. Each (λ n. n < clock) (stamps other.answer)) (λ other. Each (λ e. e.ts.0 < clock) (entries_of other))
    (λ other all. entries_hold (λ n. n < clock) (changes_of other.asked) other.answer (drawn_shown (λ n. n < clock) other.answer all)) lines low) in
    ap (λ es. start.base ++ ordered time_of es) (flat_map-push entries_of lines line)
    ∙ ap (λ es. start.base ++ es) (ordered-append time_of clock (flat_map entries_of lines) (entries_of line) lower
    (entries_hold (λ n. clock ≤ n) (changes_of line.asked) line.answer high) (ordered-if (changes_of line.asked) (written_of line.answer)))
    ∙ sym (append_assoc start.base (ordered time_of (flat_map entries_of lines)) (entries_of line))
