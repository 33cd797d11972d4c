-- The bytes of a line as text, and the members of an object by their keys.
use Rattle.std.proofs.Common.{◌≡◌, ℕ, Bool, true, false, List, [], ◌∷◌, map, refl, sym, ap, ◌∙◌, Bor}
use Rattle.std.specs.Prelude.{◌||◌, ◌&&◌, cond, String}
use Rattle.std.specs.declared.option.Option.TheVariants.{None, Some}
use Rattle.std.specs.declared.alloc.Global.{Global}
use Rattle.std.specs.List.{list_any, list_all}
use Rattle.std.specs.Map.{keys_of}
use Rattle.std.specs.Str.{is_utf8, IsUtf8, bytes_eq}
use Rattle.std.specs.String.{string_bytes}
use Rattle.std.proofs.lemmas.Str.{is_utf8-from_IsUtf8, IsUtf8-from_is_utf8}
use Rattle.serde_json.specs.Data.{Data}
use Rattle.serde_json.specs.Read.{read}
use Rattle.serde_json.specs.View.{members_view}
use Rattle.serde_json.specs.declared.value.Value.{Value}
use Rattle.request_lines.specs.Json.{line_of, knows}

-- bytes that are no text are no value
pub not_text : (bytes : List ℕ) → ¬ (IsUtf8 bytes) → None ≡ line_of bytes
not_text bytes none =
    elim (is_utf8 bytes) as (λ b. is_utf8 bytes ≡ b → None ≡ cond b (read bytes) None) [
      | true ↦ λ e. absurd (none (IsUtf8-from_is_utf8 bytes e))
      | false ↦ λ e. refl
    ] refl

-- bytes that are text are the value that it is read as
pub text_value : (text bytes : List ℕ) (d : Data) → text ≡ bytes → IsUtf8 bytes → read text ≡ Some d → Some d ≡ line_of bytes
text_value text bytes d same utf8 is =
    sym is ∙ ap read same ∙ ap (λ b. cond b (read bytes) None) (sym (is_utf8-from_IsUtf8 bytes utf8))

any_shown : (p : List ℕ → Bool) (names : List (Bor (List ℕ))) → list_any (λ n. p n.now) names ≡ list_any p (map (λ n. n.now) names)
any_shown p [] = refl
any_shown p (n ∷ names) = ap (λ b. p n.now || b) (any_shown p names)

-- the keys of a map are the names of the members that it is
pub keys_known : (names : List (Bor (List ℕ))) (entries : List (String Global × Value))
    → list_all (λ k. list_any (λ n. bytes_eq (string_bytes k) n.now) names) (keys_of entries) ≡ knows (map (λ n. n.now) names) (members_view entries)
keys_known names [] = refl
keys_known names (e ∷ entries) =
    ap (λ b. b && list_all (λ k. list_any (λ n. bytes_eq (string_bytes k) n.now) names) (keys_of entries)) (any_shown (bytes_eq (string_bytes e.0)) names)
    ∙ ap (λ b. list_any (bytes_eq (string_bytes e.0)) (map (λ n. n.now) names) && b) (keys_known names entries)
