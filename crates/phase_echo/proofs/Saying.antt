-- What is said, and what waits.
use Rattle.std.proofs.Common.{◌≡◌, ℕ, List, [], ◌∷◌, ◌++◌, ap, sym, ◌∙◌, append_assoc}
use Rattle.phase_reading.specs.Phases.{joined}
use Rattle.phase_reading.proofs.Splits.{joined-append}
use Rattle.phase_echo.specs.Echoes.{IsEchoing, IsWholeEcho}

pub took : (held next line : List ℕ) (done waiting : List (List ℕ)) (output : List ℕ) → next ≡ held ++ joined (line ∷ []) → IsEchoing held done waiting output → IsEchoing next done (waiting ++ line ∷ []) output
took held next line done waiting output e s = record {
  said = s.said;
  waits = e ∙ ap (λ l. l ++ joined (line ∷ [])) s.waits ∙ sym (joined-append waiting (line ∷ []));
}

said_all : (held : List ℕ) (done waiting : List (List ℕ)) (output : List ℕ) → IsEchoing held done waiting output → output ++ held ≡ joined (done ++ waiting)
said_all held done waiting output s = ap (λ l. l ++ held) s.said ∙ ap (λ l. joined done ++ l) s.waits ∙ sym (joined-append done waiting)

pub ran : (held next : List ℕ) (done waiting : List (List ℕ)) (output : List ℕ) → next ≡ [] → IsEchoing held done waiting output → IsEchoing next (done ++ waiting) [] (output ++ held)
ran held next done waiting output e s = record { said = said_all held done waiting output s; waits = e }

pub ended : (held text : List ℕ) (done waiting : List (List ℕ)) (output : List ℕ) → text ≡ held ++ 46 ∷ [] → IsEchoing held done waiting output → IsWholeEcho (done ++ waiting) (output ++ text)
ended held text done waiting output e s = ap (λ l. output ++ l) e ∙ sym (append_assoc output held (46 ∷ [])) ∙ ap (λ l. l ++ 46 ∷ []) (said_all held done waiting output s)
