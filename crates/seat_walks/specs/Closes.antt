-- A table from its first seat to its end.
use Rattle.std.specs.Prelude.{◌≡◌, ℕ, ◌+◌, ◌^◌, ◌<◌, ◌≤◌, max, List, [], ◌∷◌, ◌++◌, length, map, Option}
use Rattle.std.specs.List.{All}
use Rattle.turn_facts.specs.Counts.{count, Among, NoneTwice, total}
use Rattle.turn_facts.specs.Notes.{of, times}
use Rattle.turn_facts.specs.Prefixes.{StartsWith, IsAt}
use Rattle.turn_table.specs.Knowledge.{at_slot}
use Rattle.turn_table.specs.Seats.{Table, SeatView, first_seat}
use Rattle.seat_walks.specs.Walks.{Turned, Step, Took, Walks, all_drawn, all_notes}
use Rattle.seat_walks.specs.Gathers.{number_in, Parted}

module _ {N B : Type 0} where
  -- what `close` tells of the last seat, and of the journals and the number that it gives
  pub record IsLast (number : N → ℕ) (time : N → Option ℕ) (e : SeatView N B) (new : List (List N)) (last : ℕ) : Type 0 where
    pub journals : new ≡ e.seen
    pub whose : (k n : ℕ) → count n (e.number ∷ e.joined) ≡ 0 → of number n (at_slot e.seen k) ≡ of number n (at_slot e.origin k)
    pub first : e.table.first ≤ last
    pub drawn : (x : ℕ) → Among x e.drawn → x < last
    pub times : (k x : ℕ) → Among x (times time (at_slot e.seen k)) → x < last
    pub most : last ≤ 2 ^ 40 + max e.table.first (2 ^ 63)

  -- the table t began with the journals old. Its first seat, that may have lifted the clock, has become s where the seats `starts` were split off from it, and each of these took steps and has become one of `ends`
  pub record Went (number : N → ℕ) (time : N → Option ℕ) (t : Table B) (old : List (List N)) (s : SeatView N B) (starts ends : List (SeatView N B)) : Type 0 where
    pub least : ℕ
    pub out : Parted (record (first_seat t old) { least = least }) starts s
    pub many : length ends ≡ length starts
    pub walks : (i : ℕ) (a p : SeatView N B) → IsAt starts i a → IsAt ends i p → (xs : List (Step N)) × Walks number time a xs p

  -- what the seat p, which began as a, has done by these steps, as it stands in the journals new, which were old at the start
  pub record Stands (number : N → ℕ) (time : N → Option ℕ) (first last : ℕ) (old new : List (List N)) (a : SeatView N B) (xs : List (Step N)) (p : SeatView N B) : Type 0 where
    pub begins : (a.seen ≡ old) × (a.drawn ≡ []) × (a.table.first ≡ first) × (a.number ≡ p.number)
    pub seen : (k : ℕ) → StartsWith (at_slot new k) (at_slot p.seen k)
    pub turns : (i : ℕ) (t : Turned N) → IsAt xs i (Took t) → StartsWith (at_slot new t.slot) (t.before ++ t.notes)
    pub own : (k : ℕ) → of number p.number (at_slot new k) ≡ of number p.number (at_slot old k) ++ all_notes k xs
    pub drawn : p.drawn ≡ all_drawn xs
    pub within : (x : ℕ) → Among x p.drawn → (first ≤ x) × (x < last)

  -- a table that began with the journals old and the clock first, and ended with new and last, seen from the seats that took its turns
  pub record Closed (number : N → ℕ) (time : N → Option ℕ) (first last : ℕ) (old new : List (List N)) (starts ends : List (SeatView N B)) : Type 0 where
    pub each : (i : ℕ) (a p : SeatView N B) (xs : List (Step N)) → IsAt starts i a → IsAt ends i p → Walks number time a xs p → Stands number time first last old new a xs p
    -- the journals go on, by notes of these seats alone
    pub long : length new ≡ length old
    pub grown : (k : ℕ) → StartsWith (at_slot new k) (at_slot old k)
    pub noted : (k : ℕ) → All (λ (x : N). Among (number x) (map number_in ends)) (grown k).rest
    -- no two seats have one number, and no number was drawn twice
    pub differ : NoneTwice (map number_in ends)
    pub once : (x : ℕ) → total (λ (p : SeatView N B). count x p.drawn) ends ≤ 1
    -- the clock
    pub later : first ≤ last
    pub times : (k x : ℕ) → Among x (times time (at_slot new k)) → x < last
    pub most : last ≤ 2 ^ 40 + max first (2 ^ 63)
