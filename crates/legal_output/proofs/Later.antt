-- What was right of a line stays right when later entries join the log.
use Rattle.std.proofs.Common.{◌≡◌, ℕ, ◌<◌, ◌≤◌, List, [], ◌∷◌, ◌++◌, sym, ap, ◌∙◌, arith}
use Rattle.std.specs.List.{AllByRecursion as Each, AllZip}
use Rattle.std.specs.FinMap as fin
use Rattle.log_model.specs.declared.logs.Entry.{Entry}
use Rattle.log_model.specs.declared.queries.Plan.{Plan}
use Rattle.log_model.specs.Logs.{IsFrom, IsAbove}
use Rattle.log_model.proofs.LogLaws.{each_implied, live-more, scan-more, was_live-more}
use Rattle.answer_lines.specs.declared.answers.Answer.{Answer}
use Rattle.answer_lines.specs.declared.answers.Answer.TheVariants as answers
use Rattle.request_lines.specs.declared.requests.Ask.{Ask}
use Rattle.request_lines.specs.declared.requests.Ask.TheVariants as asks
use Rattle.legal_output.specs.Lines.{Asked, Bad, Given, Finish, stamps}
use Rattle.legal_output.specs.Legal.{told_of, reply, Replied, ShowsContent, HasContent}

lt_over : (a b c : ℕ) → a < b → b ≤ c → a < c
lt_over a b c low high = omega arith

le_over : (a b c : ℕ) → a < b → b ≤ c → a ≤ c
le_over a b c low high = omega arith

pub above : (ts clock : ℕ) (more : List Entry) → ts < clock → IsFrom clock more → IsAbove ts more
above ts clock more low high = each_implied (λ e. clock ≤ e.ts.0) (λ e. ts < e.ts.0) (λ e h. lt_over ts clock e.ts.0 low h) more high

from : (ts clock : ℕ) (more : List Entry) → ts < clock → IsFrom clock more → IsFrom ts more
from ts clock more low high = each_implied (λ e. clock ≤ e.ts.0) (λ e. ts ≤ e.ts.0) (λ e h. le_over ts clock e.ts.0 low h) more high

pub zip_implied : {X Y : Type 0} (R S : X → Y → Type 0) → ((x : X) (y : Y) → R x y → S x y) → (xs : List X) (ys : List Y) → AllZip R xs ys → AllZip S xs ys
zip_implied R S f [] [] all = tt
zip_implied R S f [] (y ∷ ys) all = absurd all
zip_implied R S f (x ∷ xs) [] all = absurd all
zip_implied R S f (x ∷ xs) (y ∷ ys) all = (f x y all.0, zip_implied R S f xs ys all.1)

pub replied-more : (log more : List Entry) (clock : ℕ) (asked : Asked) (answer : Answer) → Each (λ n. n < clock) (stamps answer) → IsFrom clock more
    → Replied log asked answer → Replied (log ++ more) asked answer
replied-more log more clock asked answers.Created low high right = tt
replied-more log more clock asked (answers.Wrote written) low high right =
    zip_implied (λ change what. what ≡ reply log written.ts.0 change) (λ change what. what ≡ reply (log ++ more) written.ts.0 change)
    (λ change what same. same ∙ sym (ap (told_of change) (was_live-more log more written.ts.0 change (from written.ts.0 clock more low.0 high)))) _ _ right
replied-more log more clock asked (answers.Hits now guarantee ts hits) low high right = tt
replied-more log more clock asked (answers.Found now guarantee ts row) low high right = tt
replied-more log more clock asked (answers.Pending now guarantee channel tick) low high right = tt
replied-more log more clock asked (answers.Ticked ticks) low high right = tt
replied-more log more clock asked (answers.Sealed seals) low high right = tt
replied-more log more clock asked (answers.Met counted) low high right = tt
replied-more log more clock asked (answers.End counted) low high right = tt
replied-more log more clock asked (answers.Refused reason) low high right = tt

shows-more : (plan : Plan) (log more : List Entry) (clock : ℕ) (ask : Ask) (answer : Answer) → Each (λ n. n < clock) (stamps answer) → IsFrom clock more
    → ShowsContent plan log ask answer → ShowsContent plan (log ++ more) ask answer
shows-more plan log more clock (asks.Write write) answer low high right = tt
shows-more plan log more clock asks.Tick answer low high right = tt
shows-more plan log more clock asks.Seal answer low high right = tt
shows-more plan log more clock asks.Meet answer low high right = tt
shows-more plan log more clock (asks.Search query level wait) answers.Created low high right = tt
shows-more plan log more clock (asks.Search query level wait) (answers.Wrote written) low high right = tt
shows-more plan log more clock (asks.Search query level wait) (answers.Hits now guarantee ts hits) low high right = right ∙ sym (scan-more log more ts.0 plan query (above ts.0 clock more low.1.1.0 high))
shows-more plan log more clock (asks.Search query level wait) (answers.Found now guarantee ts row) low high right = tt
shows-more plan log more clock (asks.Search query level wait) (answers.Pending now guarantee channel tick) low high right = tt
shows-more plan log more clock (asks.Search query level wait) (answers.Ticked ticks) low high right = tt
shows-more plan log more clock (asks.Search query level wait) (answers.Sealed seals) low high right = tt
shows-more plan log more clock (asks.Search query level wait) (answers.Met counted) low high right = tt
shows-more plan log more clock (asks.Search query level wait) (answers.End counted) low high right = tt
shows-more plan log more clock (asks.Search query level wait) (answers.Refused reason) low high right = tt
shows-more plan log more clock (asks.Get key level wait) answers.Created low high right = tt
shows-more plan log more clock (asks.Get key level wait) (answers.Wrote written) low high right = tt
shows-more plan log more clock (asks.Get key level wait) (answers.Hits now guarantee ts hits) low high right = tt
shows-more plan log more clock (asks.Get key level wait) (answers.Found now guarantee ts row) low high right = right ∙ sym (ap (λ rows. fin.get rows key.0) (live-more log more ts.0 (above ts.0 clock more low.1.1.0 high)))
shows-more plan log more clock (asks.Get key level wait) (answers.Pending now guarantee channel tick) low high right = tt
shows-more plan log more clock (asks.Get key level wait) (answers.Ticked ticks) low high right = tt
shows-more plan log more clock (asks.Get key level wait) (answers.Sealed seals) low high right = tt
shows-more plan log more clock (asks.Get key level wait) (answers.Met counted) low high right = tt
shows-more plan log more clock (asks.Get key level wait) (answers.End counted) low high right = tt
shows-more plan log more clock (asks.Get key level wait) (answers.Refused reason) low high right = tt

pub content-more : (plan : Plan) (log more : List Entry) (clock : ℕ) (asked : Asked) (answer : Answer) → Each (λ n. n < clock) (stamps answer) → IsFrom clock more
    → HasContent plan log asked answer → HasContent plan (log ++ more) asked answer
content-more plan log more clock (Bad reason) answer low high right = tt
content-more plan log more clock (Given request) answer low high right = shows-more plan log more clock request.what answer low high right
content-more plan log more clock Finish answer low high right = tt
