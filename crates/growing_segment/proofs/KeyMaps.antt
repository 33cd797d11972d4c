-- What the map of a list of entries becomes.
use Rattle.std.proofs.Common.{◌≡◌, ℕ, ℤ, cond, List, Some, None, sym, ap, ◌∙◌}
use Rattle.std.specs.Ordering.{int_cmp, int_eq}
use Rattle.std.specs.Cmp.{int_cmp_total}
use Rattle.std.specs.FinMap as fin
use Rattle.std.specs.FinMap.{find}
use Rattle.growing_segment.specs.Trees.{Entry}

-- entries in which a key was set, or taken out, or that are only arranged anew
pub map_set : (k : ℤ) (p : ℕ) (es fs : List Entry) → ((q : ℤ) → find int_cmp q fs ≡ cond (int_eq q k) (Some p) (find int_cmp q es)) → fin.from_entries {R = int_cmp} fs ≡ fin.insert (fin.from_entries es) k p
map_set k p es fs is =
    fin.same_map int_cmp_total fin.int_cmp-IsAntisymmetric _ _ (λ q.
    fin.get-from_entries int_cmp_total fs q ∙ is q
    ∙ sym (fin.get-insert int_cmp_total (fin.from_entries es) k p q ∙ ap (cond (int_eq q k) (Some p)) (fin.get-from_entries int_cmp_total es q)))

pub map_cleared : (k : ℤ) (es fs : List Entry) → ((q : ℤ) → find int_cmp q fs ≡ cond (int_eq q k) None (find int_cmp q es)) → fin.from_entries {R = int_cmp} fs ≡ fin.remove (fin.from_entries es) k
map_cleared k es fs is =
    fin.same_map int_cmp_total fin.int_cmp-IsAntisymmetric _ _ (λ q.
    fin.get-from_entries int_cmp_total fs q ∙ is q
    ∙ sym (fin.get-remove int_cmp_total (fin.from_entries es) k q ∙ ap (cond (int_eq q k) None) (fin.get-from_entries int_cmp_total es q)))

pub map_same : (m n : fin.FinMap int_cmp ℕ) → ((q : ℤ) → fin.get m q ≡ fin.get n q) → m ≡ n
map_same m n is = fin.same_map int_cmp_total fin.int_cmp-IsAntisymmetric m n is
