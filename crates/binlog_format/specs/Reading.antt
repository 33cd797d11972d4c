-- Reading from left to right, with the first item that is wrong.
use Rattle.std.specs.Prelude.{◌≡◌, ℕ, zero, suc, List, [], ◌∷◌, length, take, Option, Some, None, Result, Ok, Err, nat_lt, nat_le, ◌==◌, ◌&&◌, Bool, if◌then◌else◌}
use Rattle.std.specs.Int.{Width, w32, byte_len, from_le_bytes}
use Rattle.byte_fields.specs.Unread.{Unread, all_of, end_of, past}
use Rattle.binlog_format.specs.declared.refusals.FormatKind.{FormatKind}
use Rattle.binlog_format.specs.declared.refusals.FormatKind.TheVariants.{Short, Range, Extra}
use Rattle.binlog_format.specs.declared.refusals.FormatError.{FormatError}
use Rattle.binlog_format.specs.declared.refusals.FormatError.TheVariants as errors

-- what is wrong, and the place of its first byte
pub record Fault : Type 0 where
  pub at : ℕ
  pub kind : FormatKind

-- An item is a value and what is unread behind it, or the first fault.
abbrev pub Item : Type 0 → Type 0
Item A = Unread → Result (A × Unread) Fault

abbrev pub go_on : {A B : Type 0} → Result (A × Unread) Fault → (A → Item B) → Result (B × Unread) Fault
go_on (Ok x) f = f x.0 x.1
go_on (Err fault) f = Err fault

-- one item, and then another that may depend on its value
infixl 10 ◌>>=◌
abbrev pub ◌>>=◌ : {A B : Type 0} → Item A → (A → Item B) → Item B
(item >>= f) u = go_on (item u) f

-- a value that takes no bytes
abbrev pub gives : {A : Type 0} → A → Item A
gives x u = Ok (x, u)

-- an item of which n bytes have to be there
abbrev pub whole : {A : Type 0} → ℕ → Item A → Item A
whole n item u = if nat_lt (length u.rest) n then Err (record { at = end_of u; kind = Short }) else item u

-- the next n bytes
abbrev pub bytes : ℕ → Item (List ℕ)
bytes n = whole n (λ u. Ok (take n u.rest, past n u))

-- the number that the next bytes make, the lowest byte first
abbrev pub number : Width → Item ℕ
number w = whole (byte_len w) (λ u. Ok (from_le_bytes w (take (byte_len w) u.rest), past (byte_len w) u))

abbrev pub refuse_at : {A : Type 0} → ℕ → Option FormatKind → A → Item A
refuse_at place None x u = Ok (x, u)
refuse_at place (Some kind) x u = Err (record { at = place; kind = kind })

-- an item whose value a rule may refuse, at the first byte of the item
abbrev pub checked : {A : Type 0} → Item A → (A → Option FormatKind) → Item A
checked item rule u = go_on (item u) (λ x. refuse_at u.place (rule x) x)

-- a rule that refuses what does not pass a test
abbrev pub unless : {A : Type 0} → FormatKind → (A → Bool) → A → Option FormatKind
unless kind test x = if test x then None else Some kind

-- a number of four bytes within these bounds
abbrev pub between : ℕ → ℕ → Item ℕ
between least most = checked (number w32) (unless Range (λ n. nat_le least n && nat_le n most))

-- n items in a row; each is read in the state that the values of those before it leave
unfoldable pub items : {S A : Type 0} → (S → Item A) → (S → A → S) → ℕ → S → Item (List A)
items item after zero state = gives []
items item after (suc n) state = do
  x ← item state
  xs ← items item after n (after state x)
  gives (x ∷ xs)

-- an item behind which nothing may follow
abbrev pub last_of : {A : Type 0} → A × Unread → Result A Fault
last_of x = if length x.1.rest == 0 then Ok x.0 else Err (record { at = x.1.place; kind = Extra })

abbrev pub last : {A : Type 0} → Result (A × Unread) Fault → Result A Fault
last (Ok x) = last_of x
last (Err fault) = Err fault

-- the value that all of the bytes spell, or the first fault
abbrev pub everything : {A : Type 0} → Item A → List ℕ → Result A Fault
everything item bytes = last (item (all_of bytes))

-- A refusal is the first fault; want of memory says nothing.
abbrev pub Fails : {Y : Type 0} → FormatError → Result Y Fault → Type 0
Fails errors.Memory read = Unit {0}
Fails (errors.Bad at kind) read = read ≡ Err (record { at = at; kind = kind })

-- what a function returned, seen by view, and what it left unread, is what reading gives
abbrev pub GivesAs : {X A : Type 0} → (X → A) → Result X FormatError → Unread → Result (A × Unread) Fault → Type 0
GivesAs view (Ok x) left read = read ≡ Ok (view x, left)
GivesAs view (Err e) left read = Fails e read

abbrev pub Gives : {A : Type 0} → Result A FormatError → Unread → Result (A × Unread) Fault → Type 0
Gives = GivesAs (λ x. x)

-- what a function returned of all bytes is what reading gives
abbrev pub Answers : {A : Type 0} → Result A FormatError → Result A Fault → Type 0
Answers (Ok x) read = read ≡ Ok x
Answers (Err e) read = Fails e read

-- what is read of a spelling: its value, unless memory runs out
abbrev pub IsReadAs : {A : Type 0} → Result A FormatError → A → Type 0
IsReadAs (Ok x) value = x ≡ value
IsReadAs (Err e) value = e ≡ errors.Memory
