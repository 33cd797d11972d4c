-- What a seat knows, as functions of its parts.
use Rattle.std.specs.Prelude.{ℕ, ◌+◌, ◌-◌, ◌^◌, true, false, cond, List, [], ◌∷◌, ◌++◌, length, drop, slice_index_or, slice_set, max}
use Rattle.turn_facts.specs.Prefixes.{longer}
use Rattle.turn_table.specs.declared.knows.Know.{Know}
use Rattle.turn_table.specs.declared.knows.Part.{Part}

-- the journal of the slot k, in a list of one journal a slot
abbrev pub at_slot : {N : Type 0} → List (List N) → ℕ → List N
at_slot seen k = slice_index_or seen k []

-- slot by slot the longer of two
unfoldable pub longer_each : {N : Type 0} → List (List N) → List (List N) → List (List N)
longer_each [] ms = []
longer_each (l ∷ ls) [] = l ∷ ls
longer_each (l ∷ ls) (m ∷ ms) = longer l m ∷ longer_each ls ms

module _ {N B : Type 0} where
  -- its own number, while it is a seat
  abbrev pub own : Know N B → List ℕ
  own v = cond v.live (v.number ∷ []) []

  -- its own number, those that it may give away, and those of the seats that were joined to it
  abbrev pub numbers : Know N B → List ℕ
  numbers v = own v ++ (v.spare ++ v.joined)

  -- the whole table has always the same of these together
  abbrev pub weight : Know N B → ℕ
  weight v = cond v.live 1 0 + (v.allowance + (length v.drawn + (length v.joined + length v.spare)))

  abbrev pub allowance : Know N B → ℕ
  allowance v = v.allowance

  -- a seat as it was when it was joined
  abbrev pub part : Know N B → Part N
  part v = record { numbers = numbers v; seen = v.seen }

  abbrev pub entered : Know N B → ℕ → List N → Know N B
  entered v k l = record v { seen = slice_set v.seen k l; inside = k ∷ v.inside; mark = length v.drawn; parts = [] }

  abbrev pub counted : Know N B → ℕ → List N → Know N B
  counted v k l = record v { seen = slice_set v.seen k l; parts = [] }

  abbrev pub left : Know N B → Know N B
  left v = record v { inside = drop 1 v.inside }

  abbrev pub drew : Know N B → ℕ → Know N B
  drew v x = record v { drawn = v.drawn ++ x ∷ []; allowance = v.allowance - 1 }

  abbrev pub lifted : Know N B → ℕ → Know N B
  lifted v x = record v { least = max v.least x }

  abbrev pub numbered : Know N B → ℕ → Know N B
  numbered v x = record v { spare = x ∷ v.spare; allowance = v.allowance - 1 }

  abbrev pub offered : Know N B → ℕ → Know N B
  offered v x = record v { gift = x }

  -- what stays of a seat from which another is split off, and what the other gets
  abbrev pub stayed : Know N B → Know N B
  stayed v = record v { allowance = v.allowance - v.gift; spare = drop 1 v.spare; gift = 0 }

  abbrev pub given : Know N B → Know N B
  given v = record v { number = slice_index_or v.spare 0 0; spare = []; joined = []; allowance = v.gift; gift = 0; drawn = []; mark = 0; inside = []; parts = [] }

  abbrev pub joined : Know N B → Know N B → Know N B
  joined v w = record v {
    spare = v.spare ++ w.spare;
    joined = v.joined ++ (own w ++ w.joined);
    allowance = v.allowance + w.allowance;
    drawn = v.drawn ++ w.drawn;
    least = max v.least w.least;
    seen = longer_each v.seen w.seen;
    parts = part v ∷ part w ∷ [];
  }

  abbrev pub settled : Know N B → Know N B
  settled v = record v { parts = [] }

  -- a seat that was joined to another
  abbrev pub spent : Know N B
  spent = record { live = false; number = 0; spare = []; joined = []; allowance = 0; gift = 0; drawn = []; mark = 0; first = 0; least = 0; seen = []; bases = []; origin = []; inside = []; parts = [] }

  -- the first seat
  abbrev pub opening : List (List N) → List B → ℕ → Know N B
  opening js bs first = record { live = true; number = 0; spare = []; joined = []; allowance = 2 ^ 40; gift = 0; drawn = []; mark = 0; first = first; least = first; seen = js; bases = bs; origin = js; inside = []; parts = [] }
