-- Bytes that are a text, or are none.
use Rattle.std.proofs.Common.{◌≡◌, List, ℕ, true, false, None, Some, refl, ap, ◌∙◌}
use Rattle.std.specs.Prelude.{if◌then◌else◌}
use Rattle.std.specs.Str.{IsUtf8, chars, is_utf8}
use Rattle.std.proofs.lemmas.Str.{IsUtf8-from_is_utf8, is_utf8-from_IsUtf8}
use Rattle.case_scripts.specs.Shelf.{text_in}

pub text_of_utf8 : (bytes text : List ℕ) → IsUtf8 bytes → chars bytes ≡ text → text_in bytes ≡ Some text
text_of_utf8 bytes text is same = ap (λ b. if b then Some (chars bytes) else None) (is_utf8-from_IsUtf8 bytes is) ∙ ap Some same

pub text_of_none : (bytes : List ℕ) → (IsUtf8 bytes → ⊥) → text_in bytes ≡ None
text_of_none bytes none =
    elim (is_utf8 bytes) as (λ b. is_utf8 bytes ≡ b → (if b then Some (chars bytes) else None) ≡ None) [
      | true ↦ λ is. absurd (none (IsUtf8-from_is_utf8 bytes is))
      | false ↦ λ is. refl
    ] refl
