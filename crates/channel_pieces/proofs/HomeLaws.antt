-- The homes of pieces in the table of places.
use Rattle.std.proofs.Common.{◌≡◌, ◌≢◌, ℕ, ◌<◌, Bool, true, false, not, cond, List, [], ◌∷◌, length, map, Option, Some, None, refl, sym, ap, ap₂, subst, ◌∙◌, ⊎_elim, eq-eqb, ne_eqb, arith}
use Rattle.std.specs.List.{AllByRecursion, list_any}
use Rattle.std.specs.Option.{option_map}
use Rattle.std.specs.Ordering.{nat_cmp, eq_by_cmp}
use Rattle.std.specs.Cmp.{nat_cmp_total, eq_by_cmp_equiv, Equal-is}
use Rattle.std.specs.FinMap as fin
use Rattle.std.proofs.lemmas.Bool.{cases_eq}
use Rattle.row_types.specs.declared.rows.Kind.{Kind}
use Rattle.journal_model.specs.declared.notes.Home.{Home}
use Rattle.journal_model.specs.declared.notes.Home.TheVariants.{Node}
use Rattle.journal_model.specs.Layouts.{is_home}
use Rattle.place_table.specs.declared.refusals.PlaceError.TheVariants.{NotThere, LastPlace}
use Rattle.place_table.specs.Tables.{Placement, Table, with_homes, with_segments, rehomed_at, release_refused, last_refused}
use Rattle.place_table.specs.Tables.{rehomed as rehomed_table}
use Rattle.channel_pieces.specs.Pieces.{MarkedSegment, MarkedLayout, segment_in, rehomed, table_of}
use Rattle.channel_pieces.specs.Pieces.{with_homes as change_homes}
use Rattle.channel_pieces.specs.Fields.{Climb, Piece, MarkedTail, homes_of, homed, seen, rows_at, numbers_of, KeepsPieces}
use Rattle.channel_pieces.proofs.PieceLaws.{Places, get_same, get_other}

some_none : {A : Type 0} (x : A) → Some x ≡ None → ⊥
some_none x e = cc

some_same : {A : Type 0} (x y : A) → Some x ≡ Some y → x ≡ y
some_same x y e = cc

-- ---- a segment is found with the homes of the table

-- what the table says of the piece with a number
pub placement_homes : (places : Places) (pieces : List Piece) (number : ℕ) → option_map (λ p. p.rows) (fin.get places number) ≡ rows_at pieces number → option_map (λ s. s.homes) (segment_in (map (homed places) pieces) number) ≡ option_map (λ p. p.homes) (fin.get places number)
placement_homes places [] number e = go (fin.get places number) e
  where
    go : (o : Option Placement) → option_map (λ p. p.rows) o ≡ None → None ≡ option_map (λ p. p.homes) o
    go None h = refl
    go (Some p) h = absurd (some_none p.rows h)
placement_homes places (s ∷ pieces) number e =
    ⊎_elim
    (λ (same : s.number ≡ number).
    ap (λ b. option_map (λ (m : MarkedSegment). m.homes) (cond b (Some (homed places s)) (segment_in (map (homed places) pieces) number))) (eq-eqb s.number number same)
    ∙ ap (λ n. Some (homes_of (fin.get places n))) same
    ∙ go (fin.get places number) (e ∙ ap (λ b. cond b (Some (length s.rows)) (rows_at pieces number)) (eq-eqb s.number number same)))
    (λ (ne : s.number ≢ number).
    ap (λ b. option_map (λ (m : MarkedSegment). m.homes) (cond b (Some (homed places s)) (segment_in (map (homed places) pieces) number))) (ne_eqb s.number number ne)
    ∙ placement_homes places pieces number (e ∙ ap (λ b. cond b (Some (length s.rows)) (rows_at pieces number)) (ne_eqb s.number number ne)))
    (cases_eq s.number number)
  where
    go : (o : Option Placement) → option_map (λ p. p.rows) o ≡ Some (length s.rows) → Some (homes_of o) ≡ option_map (λ p. p.homes) o
    go None h = absurd (some_none (length s.rows) (sym h))
    go (Some p) h = refl

-- ---- the table of the segments is the table

abbrev entry_of : MarkedSegment → ℕ × Placement
entry_of s = (s.number, record { rows = length s.rows; homes = s.homes })

pub cmp_same : (n q : ℕ) → q ≡ n → eq_by_cmp nat_cmp q n ≡ true
cmp_same n q e = subst (λ k. eq_by_cmp nat_cmp k n ≡ true) (sym e) ((eq_by_cmp_equiv nat_cmp_total).refl n)

pub cmp_other : (n q : ℕ) → q ≢ n → eq_by_cmp nat_cmp q n ≡ false
cmp_other n q ne = go (eq_by_cmp nat_cmp q n) refl
  where
    go : (b : Bool) → eq_by_cmp nat_cmp q n ≡ b → b ≡ false
    go true e = absurd (ne (fin.nat_cmp-IsAntisymmetric q n ((Equal-is (nat_cmp q n)).0 e)))
    go false e = refl

entry_found : (places : Places) (pieces : List Piece) (number : ℕ) → option_map (λ p. p.rows) (fin.get places number) ≡ rows_at pieces number → fin.find nat_cmp number (map entry_of (map (homed places) pieces)) ≡ fin.get places number
entry_found places [] number e = go (fin.get places number) e
  where
    go : (o : Option Placement) → option_map (λ p. p.rows) o ≡ None → None ≡ o
    go None h = refl
    go (Some p) h = absurd (some_none p.rows h)
entry_found places (s ∷ pieces) number e =
    ⊎_elim
    (λ (same : s.number ≡ number).
    ap (λ b. cond b (Some (entry_of (homed places s)).1) (fin.find nat_cmp number (map entry_of (map (homed places) pieces)))) (cmp_same s.number number (sym same))
    ∙ ap (λ n. Some (record { rows = length s.rows; homes = homes_of (fin.get places n) })) same
    ∙ go (fin.get places number) (e ∙ ap (λ b. cond b (Some (length s.rows)) (rows_at pieces number)) (eq-eqb s.number number same)))
    (λ (ne : s.number ≢ number).
    ap (λ b. cond b (Some (entry_of (homed places s)).1) (fin.find nat_cmp number (map entry_of (map (homed places) pieces)))) (cmp_other s.number number (λ h. ne (sym h)))
    ∙ entry_found places pieces number (e ∙ ap (λ b. cond b (Some (length s.rows)) (rows_at pieces number)) (ne_eqb s.number number ne)))
    (cases_eq s.number number)
  where
    go : (o : Option Placement) → option_map (λ p. p.rows) o ≡ Some (length s.rows) → Some (record { rows = length s.rows; homes = homes_of o }) ≡ o
    go None h = absurd (some_none (length s.rows) (sym h))
    go (Some p) h = ap (λ (n : ℕ). Some (record { rows = n; homes = p.homes })) (sym (some_same p.rows (length s.rows) h))

pub table_is : (kinds : List Kind) (tail : MarkedTail) (pieces : List Piece) (places : Table) → KeepsPieces kinds tail pieces places → table_of (seen kinds tail pieces places) ≡ places
table_is kinds tail pieces places kept =
    ap (λ (m : Places). with_segments places m) (fin.same_map nat_cmp_total fin.nat_cmp-IsAntisymmetric (fin.from_entries (map entry_of (map (homed places.segments) pieces))) places.segments (λ q. fin.get-from_entries nat_cmp_total (map entry_of (map (homed places.segments) pieces)) q ∙ entry_found places.segments pieces q (kept.placed q)))

-- ---- other homes

homed_apart : (places : Places) (number : ℕ) (p : Placement) (pieces : List Piece) → AllByRecursion (λ n. number < n) (numbers_of pieces) → map (homed (fin.insert places number p)) pieces ≡ map (homed places) pieces
homed_apart places number p [] all = refl
homed_apart places number p (s ∷ pieces) all =
    ap₂ (λ (hs : List Home) (l : List MarkedSegment). record { number = s.number; homes = hs; rows = s.rows } ∷ l) (ap homes_of (get_other places number p s.number (λ e. let h = all.0 in absurd (omega arith)))) (homed_apart places number p pieces all.1)

homed_changed : (places : Places) (number : ℕ) (change : List Home → List Home) (p : Placement) (pieces : List Piece) → fin.get places number ≡ Some p → Climb (numbers_of pieces)
    → map (homed (fin.insert places number (with_homes change p))) pieces ≡ rehomed number change (map (homed places) pieces)
homed_changed places number change p [] is c = refl
homed_changed places number change p (s ∷ pieces) is c =
    ⊎_elim
    (λ (same : s.number ≡ number).
    ap₂ (λ (hs : List Home) (l : List MarkedSegment). record { number = s.number; homes = hs; rows = s.rows } ∷ l)
    (ap (λ n. homes_of (fin.get (fin.insert places number (with_homes change p)) n)) same ∙ ap homes_of (get_same places number (with_homes change p)) ∙ ap (λ o. change (homes_of o)) (sym is) ∙ ap (λ n. change (homes_of (fin.get places n))) (sym same))
    (homed_apart places number (with_homes change p) pieces (subst (λ n. AllByRecursion (λ m. n < m) (numbers_of pieces)) same c.0))
    ∙ sym (ap (λ b. cond b (record { number = s.number; homes = change (homes_of (fin.get places s.number)); rows = s.rows } ∷ map (homed places) pieces) (homed places s ∷ rehomed number change (map (homed places) pieces))) (eq-eqb s.number number same)))
    (λ (ne : s.number ≢ number).
    ap₂ (λ (hs : List Home) (l : List MarkedSegment). record { number = s.number; homes = hs; rows = s.rows } ∷ l)
    (ap homes_of (get_other places number (with_homes change p) s.number ne)) (homed_changed places number change p pieces is c.1)
    ∙ sym (ap (λ b. cond b (record { number = s.number; homes = change (homes_of (fin.get places s.number)); rows = s.rows } ∷ map (homed places) pieces) (homed places s ∷ rehomed number change (map (homed places) pieces))) (ne_eqb s.number number ne)))
    (cases_eq s.number number)

-- the table after a change of the homes of a segment that is there
pub table_changed : (places : Places) (number : ℕ) (change : List Home → List Home) (p : Placement) → fin.get places number ≡ Some p → rehomed_table number change places ≡ fin.insert places number (with_homes change p)
table_changed places number change p is = ap (rehomed_at number change places) is

-- what changes are seen, and kept
pub record IsRehomed (kinds : List Kind) (tail : MarkedTail) (pieces : List Piece) (places : Table) (number : ℕ) (change : List Home → List Home) : Type 0 where
  pub seen_is : map (homed (rehomed_table number change places.segments)) pieces ≡ rehomed number change (map (homed places.segments) pieces)
  pub keeps : KeepsPieces kinds tail pieces (with_segments places (rehomed_table number change places.segments))

pub rehomes : (kinds : List Kind) (tail : MarkedTail) (pieces : List Piece) (places : Table) (number : ℕ) (change : List Home → List Home) (p : Placement) → KeepsPieces kinds tail pieces places → fin.get places.segments number ≡ Some p → IsRehomed kinds tail pieces places number change
rehomes kinds tail pieces places number change p kept is =
    let e = table_changed places.segments number change p is in
    record {
      seen_is = ap (λ (m : Places). map (homed m) pieces) e ∙ homed_changed places.segments number change p pieces is kept.rise;
      keeps = record {
        dim = kept.dim;
        width = kept.width;
        tail_fits = kept.tail_fits;
        pieces_fit = kept.pieces_fit;
        rise = kept.rise;
        placed = λ k. ap (λ (m : Places). option_map (λ p. p.rows) (fin.get m k)) e ∙ same k ∙ kept.placed k;
      };
    }
  where
    same : (k : ℕ) → option_map (λ p. p.rows) (fin.get (fin.insert places.segments number (with_homes change p)) k) ≡ option_map (λ p. p.rows) (fin.get places.segments k)
    same k = ⊎_elim
        (λ (h : k ≡ number). ap (λ n. option_map (λ p. p.rows) (fin.get (fin.insert places.segments number (with_homes change p)) n)) h ∙ ap (option_map (λ p. p.rows)) (get_same places.segments number (with_homes change p)) ∙ sym (ap (λ n. option_map (λ p. p.rows) (fin.get places.segments n)) h ∙ ap (option_map (λ p. p.rows)) is))
        (λ (ne : k ≢ number). ap (option_map (λ p. p.rows)) (get_other places.segments number (with_homes change p) k ne))
        (cases_eq k number)

-- ---- a segment that is there

-- what is known of the placement of a segment of which a test of its homes is known
pub record IsPlacedSo (places : Places) (number : ℕ) (test : List Home → Bool) (b : Bool) : Type 0 where
  pub placement : Placement
  pub is : fin.get places number ≡ Some placement
  pub so : test placement.homes ≡ b

pub placed_so : (places : Places) (pieces : List Piece) (number : ℕ) (test : List Home → Bool) (b : Bool) → option_map (λ p. p.rows) (fin.get places number) ≡ rows_at pieces number → option_map (λ s. test s.homes) (segment_in (map (homed places) pieces) number) ≡ Some b → IsPlacedSo places number test b
placed_so places pieces number test b e h = go (fin.get places number) refl (twice (segment_in (map (homed places) pieces) number) ∙ h)
  where
    twice : (o : Option MarkedSegment) → option_map test (option_map (λ s. s.homes) o) ≡ option_map (λ s. test s.homes) o
    twice None = refl
    twice (Some s) = refl

    go : (o : Option Placement) → fin.get places number ≡ o → option_map test (option_map (λ (s : MarkedSegment). s.homes) (segment_in (map (homed places) pieces) number)) ≡ Some b → IsPlacedSo places number test b
    go None f g = absurd (some_none b (sym g ∙ ap (option_map test) (placement_homes places pieces number e ∙ ap (option_map (λ p. p.homes)) f)))
    go (Some p) f g = record { placement = p; is = f; so = some_same (test p.homes) b (sym (ap (option_map test) (placement_homes places pieces number e ∙ ap (option_map (λ p. p.homes)) f)) ∙ g) }

pub release_free : (places : Places) (number node : ℕ) → IsPlacedSo places number (list_any (is_home (Node node))) true → IsPlacedSo places number (list_any (λ other. not (is_home (Node node) other))) true → release_refused number node (fin.get places number) ≡ None
release_free places number node on more =
    let p = on.placement in
    let same : more.placement ≡ p = some_same more.placement p (sym more.is ∙ on.is) in
    let elsewhere : list_any (λ (other : Home). not (is_home (Node node) other)) p.homes ≡ true = ap (λ (q : Placement). list_any (λ (other : Home). not (is_home (Node node) other)) q.homes) (sym same) ∙ more.so in
    ap (release_refused number node) on.is
    ∙ ap (λ b. cond b (last_refused number node p) (Some (NotThere number node))) on.so
    ∙ ap (λ b. cond b None (Some (LastPlace number))) elsewhere

-- ---- a change of homes as a whole

abbrev seen_with : List Kind → MarkedTail → ℕ → List MarkedSegment → MarkedLayout
seen_with kinds tail nodes segments = record { dim = tail.dim; kinds = kinds; nodes = nodes; tail = tail.rows; segments = segments }

pub change_keeps : (kinds : List Kind) (tail : MarkedTail) (pieces : List Piece) (places after : Table) (number : ℕ) (change : List Home → List Home) (test : List Home → Bool) (b : Bool) → KeepsPieces kinds tail pieces places → IsPlacedSo places.segments number test b
    → after ≡ with_segments places (rehomed_table number change places.segments) → KeepsPieces kinds tail pieces after
change_keeps kinds tail pieces places after number change test b kept h e = subst (KeepsPieces kinds tail pieces) (sym e) (rehomes kinds tail pieces places number change h.placement kept h.is).keeps

pub change_seen : (kinds : List Kind) (tail : MarkedTail) (pieces : List Piece) (places after : Table) (number : ℕ) (change : List Home → List Home) (test : List Home → Bool) (b : Bool) → KeepsPieces kinds tail pieces places → IsPlacedSo places.segments number test b
    → after ≡ with_segments places (rehomed_table number change places.segments) → seen kinds tail pieces after ≡ change_homes number change (seen kinds tail pieces places)
change_seen kinds tail pieces places after number change test b kept h e = ap (seen kinds tail pieces) e ∙ ap (seen_with kinds tail places.nodes) (rehomes kinds tail pieces places number change h.placement kept h.is).seen_is
