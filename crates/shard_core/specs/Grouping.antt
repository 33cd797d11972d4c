-- Groups of segments, by how many rows of each a floor leaves. Only proofs need it.
use Rattle.std.specs.Prelude.{ℕ, ◌+◌, ◌*◌, nat_le, nat_lt, Bool, if◌then◌else◌, List, [], ◌∷◌, ◌++◌, length}
use Rattle.std.specs.List.{sum_by}
use Rattle.channel_pieces.specs.declared.keeping.KeptRows.{KeptRows}

-- groups that are made one segment after another: of how many segments each is at least, how many rows it keeps at
-- most, those that are done, the members of the one that is open, and how many rows these keep
pub record GroupsSoFar : Type 0 where
  pub least : ℕ
  pub most : ℕ
  pub done : List (List ℕ)
  pub open_members : List ℕ
  pub sum : ℕ

-- groups, and one more if it has enough members
abbrev pub with_group : ℕ → List (List ℕ) → List ℕ → List (List ℕ)
with_group least groups group = if nat_le least (length group) then groups ++ group ∷ [] else groups

abbrev pub after_close : GroupsSoFar → GroupsSoFar
after_close g = record g { done = with_group g.least g.done g.open_members; open_members = [] }

-- a segment joins the open group, if it keeps at most so many rows then; else that group is done, and another begins
abbrev pub with_next : KeptRows → GroupsSoFar → GroupsSoFar
with_next s g =
    if nat_le (g.sum + s.kept) g.most then record g { open_members = g.open_members ++ s.number ∷ []; sum = g.sum + s.kept }
    else record g { done = with_group g.least g.done g.open_members; open_members = s.number ∷ []; sum = s.kept }

abbrev pub with_all : GroupsSoFar → List KeptRows → GroupsSoFar
with_all g [] = g
with_all g (s ∷ segments) = with_all (with_next s g) segments

abbrev pub no_groups : ℕ → ℕ → GroupsSoFar
no_groups least most = record { least = least; most = most; done = []; open_members = []; sum = 0 }

-- the groups of at least so many segments
abbrev pub groups_of : ℕ → ℕ → List KeptRows → List (List ℕ)
groups_of least most segments = (after_close (with_all (no_groups least most) segments)).done

-- at most half of so many rows are left
abbrev pub is_small : ℕ → KeptRows → Bool
is_small most s = nat_le (2 * s.kept) most

-- less than half of the rows are left
abbrev pub are_mostly_dead : List KeptRows → Bool
are_mostly_dead segments = nat_lt (2 * sum_by (λ s. s.kept) segments) (sum_by (λ s. s.rows) segments)
