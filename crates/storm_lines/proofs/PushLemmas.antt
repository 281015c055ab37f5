-- Six lines that are put one behind the other.
use Rattle.std.proofs.Common.{◌≡◌, ℕ, List, [], ◌∷◌, ◌++◌, ap, sym, ◌∙◌, append-nil}
use Rattle.std.specs.List.{concat}
use Rattle.std.proofs.lemmas.List.Folds.{concat-append}

concat-snoc : (lines : List (List ℕ)) (line : List ℕ) → concat lines ++ line ≡ concat (lines ++ line ∷ [])
concat-snoc lines line = ap (λ l. concat lines ++ l) (sym (append-nil line)) ∙ sym (concat-append lines (line ∷ []))

pub six_pushed : (none one two three four five six a b c d e f : List ℕ) → none ≡ [] → one ≡ none ++ a → two ≡ one ++ b → three ≡ two ++ c →
    four ≡ three ++ d → five ≡ four ++ e → six ≡ five ++ f → six ≡ concat (a ∷ b ∷ c ∷ d ∷ e ∷ f ∷ [])
six_pushed none one two three four five six a b c d e f is_none is_one is_two is_three is_four is_five is_six =
    let to_one : one ≡ concat (a ∷ []) = is_one ∙ ap (λ t. t ++ a) is_none ∙ sym (append-nil a) in
    let to_two : two ≡ concat (a ∷ b ∷ []) = is_two ∙ ap (λ t. t ++ b) to_one ∙ concat-snoc (a ∷ []) b in
    let to_three : three ≡ concat (a ∷ b ∷ c ∷ []) = is_three ∙ ap (λ t. t ++ c) to_two ∙ concat-snoc (a ∷ b ∷ []) c in
    let to_four : four ≡ concat (a ∷ b ∷ c ∷ d ∷ []) = is_four ∙ ap (λ t. t ++ d) to_three ∙ concat-snoc (a ∷ b ∷ c ∷ []) d in
    let to_five : five ≡ concat (a ∷ b ∷ c ∷ d ∷ e ∷ []) = is_five ∙ ap (λ t. t ++ e) to_four ∙ concat-snoc (a ∷ b ∷ c ∷ d ∷ []) e in
    is_six ∙ ap (λ t. t ++ f) to_five ∙ concat-snoc (a ∷ b ∷ c ∷ d ∷ e ∷ []) f
