-- What moves inside a buffer do to the items behind its free places.
use Rattle.std.proofs.Common.{◌≡◌, ℕ, zero, suc, ◌+◌, ◌≤◌, List, [], ◌∷◌, ◌++◌, length, take, drop, refl, sym, ap, ◌∙◌, append_assoc, arith}
use Rattle.std.proofs.lemmas.List.{length-take, take_at, drop_at, drop-append-le, drop-take, drop-drop}
use Rattle.std.specs.List.{insert}
use borrow.Rule.Slice.PartMut.{mid_of, put_mid, same_len_mid}

module _ {X : Type 0} where
  -- an item put in behind the free places, where those after it move to the back
  pub inserted_behind : (from at : ℕ) (xs : List X) (x : X) → from ≤ length xs → drop from (insert xs (from + at) x) ≡ insert (drop from xs) at x
  inserted_behind from at xs x within =
      let reach : from ≤ length (take (from + at) xs) = omega (arith, length-take (from + at) xs) in
      drop-append-le from (take (from + at) xs) (x ∷ drop (from + at) xs) reach
      ∙ ap (λ l. l ++ x ∷ drop (from + at) xs) (drop-take from at xs)
      ∙ ap (λ l. take at (drop from xs) ++ x ∷ l) (sym (drop-drop at from xs))

  -- an item put in the place of the first, where those before it move to the front
  replaced : (at : ℕ) (xs : List X) (x : X) → (drop 1 (take (suc at) xs) ++ x ∷ []) ++ drop (suc at) xs ≡ insert (drop 1 xs) at x
  replaced zero [] x = refl
  replaced (suc at) [] x = refl
  replaced at (y ∷ ys) x = append_assoc (take at ys) (x ∷ []) (drop at ys)

  -- the same where `free` places are left before the run of k items that moved
  pub inserted_in_front : (free from k at n : ℕ) (xs seen run : List X) (x : X) → free + 1 ≡ from → k ≡ suc at → free ≤ length xs → n ≡ length xs → seen ≡ xs → run ≡ drop 1 (mid_of free k seen) ++ x ∷ [] → length run ≡ length (mid_of free k seen) → drop free (take n (put_mid free k seen run ++ drop (length (put_mid free k seen run)) xs)) ≡ insert (drop from xs) at x
  inserted_in_front free from k at n xs seen run x one more within count same is kept =
      let put = put_mid free k seen run in
      let whole : length put ≡ n = same_len_mid free k seen run kept ∙ ap length same ∙ sym count in
      let front : length (take free seen) ≡ free = omega (arith, length-take free seen, ap length same) in
      let rest : drop 1 (drop free xs) ≡ drop from xs = drop-drop 1 free xs ∙ ap (λ i. drop i xs) one in
      ap (drop free) (take_at put (drop (length put) xs) n whole)
      ∙ drop_at (take free seen) (run ++ drop k (drop free seen)) free front
      ∙ ap (λ l. l ++ drop k (drop free seen)) is
      ∙ ap (λ i. (drop 1 (take i (drop free seen)) ++ x ∷ []) ++ drop i (drop free seen)) more
      ∙ replaced at (drop free seen) x
      ∙ ap (λ l. insert (drop 1 (drop free l)) at x) same
      ∙ ap (λ l. insert l at x) rest
