-- Homes after a load and after a release.
use Rattle.std.proofs.Common.{◌≡◌, ◌≢◌, ℕ, ◌<◌, nat_eq, Bool, true, false, not, cond, ◌||◌, List, [], ◌∷◌, length, refl, sym, ap, ◌∙◌, arith}
use Rattle.std.specs.List.{list_any}
use Rattle.journal_model.specs.declared.notes.Home.{Home}
use Rattle.journal_model.specs.declared.notes.Home.TheVariants.{Leader, Node}
use Rattle.journal_model.specs.Layouts.{is_home, homes_after_load, homes_after_release}

-- whether a list of homes has a node
abbrev pub has : ℕ → List Home → Bool
has node homes = list_any (is_home (Node node)) homes

or_assoc : (a b c : Bool) → (a || b) || c ≡ a || (b || c)
or_assoc true b c = refl
or_assoc false b c = refl

or_false : (a : Bool) → a || false ≡ a
or_false true = refl
or_false false = refl

-- a load adds its node, and no other
pub has-loaded : (other node : ℕ) (homes : List Home) → has other (homes_after_load node homes) ≡ has other homes || nat_eq other node
has-loaded other node [] = or_false (nat_eq other node)
has-loaded other node (Leader ∷ homes) = has-loaded other node homes
has-loaded other node (Node n ∷ homes) = ap (λ b. nat_eq other n || b) (has-loaded other node homes) ∙ sym (or_assoc (nat_eq other n) (has other homes) (nat_eq other node))

pub some-loaded : (node : ℕ) (homes : List Home) → 0 < length (homes_after_load node homes)
some-loaded node [] = omega arith
some-loaded node (Leader ∷ homes) = some-loaded node homes
some-loaded node (Node n ∷ homes) = omega arith

pub differ : (a b : ℕ) → a ≢ b → nat_eq a b ≡ false
differ a b ne = grind arith

pub same : (a : ℕ) → nat_eq a a ≡ true
same a = grind arith

gone_if : (node n : ℕ) (rest : List Home) (b : Bool) → nat_eq node n ≡ b → has node rest ≡ false → has node (cond (not b) (Node n ∷ rest) rest) ≡ false
gone_if node n rest true e h = h
gone_if node n rest false e h = ap (λ b. b || has node rest) e ∙ h

-- a release takes its node away
pub has-released : (node : ℕ) (homes : List Home) → has node (homes_after_release node homes) ≡ false
has-released node [] = refl
has-released node (Leader ∷ homes) = has-released node homes
has-released node (Node n ∷ homes) = gone_if node n (homes_after_release node homes) (nat_eq node n) refl (has-released node homes)

is_true : (a b : ℕ) → nat_eq a b ≡ true → a ≡ b
is_true a b e = grind arith

other_if : (other node n : ℕ) (rest homes : List Home) (b : Bool) → nat_eq node n ≡ b → other ≢ node → has other rest ≡ has other homes → has other (cond (not b) (Node n ∷ rest) rest) ≡ nat_eq other n || has other homes
other_if other node n rest homes true e ne h =
    let is : node ≡ n = is_true node n e in
    h ∙ ap (λ b. b || has other homes) (sym (differ other n (λ o. ne (o ∙ sym is))))
other_if other node n rest homes false e ne h = ap (λ b. nat_eq other n || b) h

-- and no other
pub others-released : (other node : ℕ) (homes : List Home) → other ≢ node → has other (homes_after_release node homes) ≡ has other homes
others-released other node [] ne = refl
others-released other node (Leader ∷ homes) ne = others-released other node homes ne
others-released other node (Node n ∷ homes) ne = other_if other node n (homes_after_release node homes) homes (nat_eq node n) refl ne (others-released other node homes ne)

some_if : (n : ℕ) (rest : List Home) (b c : Bool) → (c ≡ true → 0 < length rest) → not b || c ≡ true → 0 < length (cond (not b) (Node n ∷ rest) rest)
some_if n rest true c h e = h e
some_if n rest false c h e = omega arith

false_true : false ≡ true → ⊥
false_true e = cc

pub some-released : (node : ℕ) (homes : List Home) → list_any (λ home. not (is_home (Node node) home)) homes ≡ true → 0 < length (homes_after_release node homes)
some-released node [] e = absurd (false_true e)
some-released node (Leader ∷ homes) e = omega arith
some-released node (Node n ∷ homes) e = some_if n (homes_after_release node homes) (nat_eq node n) (list_any (λ home. not (is_home (Node node) home)) homes) (some-released node homes) e
