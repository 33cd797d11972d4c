-- What a source has left, and what a sink was given.
use Rattle.std.proofs.Common.{◌≡◌, ℕ, ◌+◌, ◌-◌, List, [], ◌++◌, length, take, drop, take_all, length-drop, ap, sym, ◌∙◌, subst, arith, Option, Some, None, append-nil, append_assoc, refl}
use Rattle.std.specs.Prelude.{IfErr, OnOk}
use Rattle.std.specs.declared.result.Result.{Result}
use Rattle.std.specs.declared.result.Result.TheVariants.{Ok, Err}
use Rattle.phase_reading.specs.declared.stops.Stop.{Stop}
use Rattle.std.specs.Io.KnownBytes.{Consumes, Keeps, Appends}
use Rattle.std.proofs.Math.Seq.{take-add}

pub none_consumed : (left : Option (List ℕ)) → Consumes left left []
none_consumed None = tt
none_consumed (Some bytes) = refl

pub consumed_kept : (a b c : Option (List ℕ)) (piece : List ℕ) → Consumes a b piece → Keeps b c → Consumes a c piece
consumed_kept None b c piece h k = tt
consumed_kept (Some xs) None c piece h k = absurd h
consumed_kept (Some xs) (Some ys) None piece h k = absurd k
consumed_kept (Some xs) (Some ys) (Some zs) piece h k = h ∙ ap (λ l. piece ++ l) (sym k)

pub consumed_more : (a b c : Option (List ℕ)) (bytes piece : List ℕ) → Consumes a b bytes → Consumes b c piece → Consumes a c (bytes ++ piece)
consumed_more None b c bytes piece h k = tt
consumed_more (Some xs) None c bytes piece h k = absurd h
consumed_more (Some xs) (Some ys) None bytes piece h k = absurd k
consumed_more (Some xs) (Some ys) (Some zs) bytes piece h k = h ∙ ap (λ l. bytes ++ l) k ∙ sym (append_assoc bytes piece zs)

-- at the end nothing more was taken
pub consumed_last : (a b c : Option (List ℕ)) (bytes piece : List ℕ) (n : ℕ) → n ≡ 0 → Consumes a b bytes → Consumes b c (take n piece) → Consumes a c bytes
consumed_last a b c bytes piece n none h k =
    let last : Consumes b c (take 0 piece) = subst (λ (m : ℕ). Consumes b c (take m piece)) none k in
    subst (λ (l : List ℕ). Consumes a c l) (append-nil bytes) (consumed_more a b c bytes [] h last)

pub appended_more : (a b c : Option (List ℕ)) (xs ys : List ℕ) → Appends a b xs → Appends b c ys → Appends a c (xs ++ ys)
appended_more None b c xs ys h k = tt
appended_more (Some old) None c xs ys h k = absurd h
appended_more (Some old) (Some mid) None xs ys h k = absurd k
appended_more (Some old) (Some mid) (Some new) xs ys h k = k ∙ ap (λ l. l ++ ys) h ∙ append_assoc old xs ys

pub written_more : (a b c : Option (List ℕ)) (bytes : List ℕ) (at n : ℕ) → Appends a b (take at bytes) → Appends b c (take n (take (length bytes - at) (drop at bytes))) → Appends a c (take (at + n) bytes)
written_more a b c bytes at n h k =
    let all : take (length bytes - at) (drop at bytes) ≡ drop at bytes = take_all _ _ (omega (arith, length-drop at bytes)) in
    let piece : Appends b c (take n (drop at bytes)) = subst (λ (l : List ℕ). Appends b c (take n l)) all k in
    subst (λ (l : List ℕ). Appends a c l) (sym (take-add at n bytes)) (appended_more a b c (take at bytes) (take n (drop at bytes)) h piece)

pub none_appended : (written : Option (List ℕ)) → Appends written written []
none_appended None = tt
none_appended (Some bytes) = sym (append-nil bytes)

-- ---- what follows from what a call tells

pub on_ok : (P Q : Type 0) (result : Result (Unit {0}) Stop) → (P → Q) → OnOk result P → OnOk result Q
on_ok P Q (Ok u) f p = f p
on_ok P Q (Err e) f p = tt

pub if_err : {T : Type 0} (P Q : Stop → Type 0) (result : Result T Stop) → ((stop : Stop) → P stop → Q stop) → IfErr result P → IfErr result Q
if_err P Q (Ok u) f p = tt
if_err P Q (Err e) f p = f e p
