-- What the fields of a table keep; only proofs need it.
use Rattle.std.specs.Prelude.{◌≡◌, ℕ, zero, suc, ◌^◌, ◌<◌, ◌≤◌, List, length, slice_index, refl}
use Rattle.std.specs.Option.{IfSome}
use Rattle.std.specs.List.{sum_by}
use Rattle.std.specs.Ordering.{nat_cmp}
use Rattle.std.specs.FinMap as fin
use Rattle.std.specs.Coded.{Coded, code_by, coded×, coded_ℕ, coded_list}
use Rattle.journal_model.specs.declared.notes.Home.{Home}
use Rattle.journal_model.specs.declared.notes.Home.TheVariants.{Leader, Node}
use Rattle.place_table.specs.Tables.{Placement, Table, rows_on}

-- ---- codes

abbrev pub number_of : Home → ℕ
number_of Leader = 0
number_of (Node node) = suc node

abbrev pub home_of : ℕ → Home
home_of zero = Leader
home_of (suc node) = Node node

pub home_back : (home : Home) → home_of (number_of home) ≡ home
home_back Leader = refl
home_back (Node node) = refl

abbrev pub home_code : Coded Home
home_code = code_by ℕ coded_ℕ number_of home_of home_back

abbrev pub placement_code : Coded Placement
placement_code = code_by (ℕ × List Home) (coded× coded_ℕ (coded_list home_code)) (λ p. (p.rows, p.homes)) (λ x. record { rows = x.0; homes = x.1 }) (λ _. refl)

abbrev pub segments_code : Coded (fin.FinMap nat_cmp Placement)
segments_code = fin.code coded_ℕ placement_code

abbrev pub table_code : Coded Table
table_code = code_by (ℕ × fin.FinMap nat_cmp Placement) (coded× coded_ℕ segments_code) (λ t. (t.nodes, t.segments)) (λ x. record { nodes = x.0; segments = x.1 }) (λ _. refl)

-- ---- the fields

abbrev pub rows_in : fin.FinMap nat_cmp Placement → ℕ
rows_in segments = sum_by (λ p. p.rows) (fin.values segments)

abbrev pub IsPlaced : Placement → Type 0
IsPlaced p = 0 < length p.homes

-- for each node its rows, the rows of all segments, and no segment without a place
pub record IsKept (loads : List ℕ) (total : ℕ) (segments : fin.FinMap nat_cmp Placement) : Type 0 where
  pub some : 1 ≤ length loads
  pub few : length loads ≤ 16
  pub counted : (node : ℕ) → node < length loads → slice_index loads node ≡ rows_on node segments
  pub total_is : total ≡ rows_in segments
  pub fits : total < 2 ^ 64
  pub placed : (segment : ℕ) → IfSome (fin.get segments segment) IsPlaced
