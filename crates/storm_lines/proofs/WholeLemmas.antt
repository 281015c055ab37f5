-- Lines that LF ends come apart again.
use Rattle.std.proofs.Common.{◌≡◌, ℕ, true, false, List, [], ◌∷◌, ◌++◌, refl, ap, ◌∙◌, append-nil, append_assoc}
use Rattle.std.specs.Prelude.{Bool, if◌then◌else◌, ◌==◌, ◌||◌}
use Rattle.std.specs.List.{AllByRecursion, concat, list_any}
use Rattle.plain_text.specs.InputLines.{ended_lines, unended, last_line, lines_of}
use Rattle.plain_text.proofs.callers.InputLemmas.{ended_lines-append, unended-append}

-- a line has one LF, which stands at its end
pub record IsWhole (line : List ℕ) : Type 0 where
  pub ended : ended_lines [] line ≡ line ∷ []
  pub last : unended [] line ≡ []

pub ended_all : (lines : List (List ℕ)) → AllByRecursion IsWhole lines → ended_lines [] (concat lines) ≡ lines
ended_all [] each = refl
ended_all (line ∷ lines) each =
    ended_lines-append [] line (concat lines) ∙
    ap (λ first. first ++ ended_lines (unended [] line) (concat lines)) each.0.ended ∙
    ap (λ begun. line ∷ ended_lines begun (concat lines)) each.0.last ∙
    ap (λ others. line ∷ others) (ended_all lines each.1)

pub unended_all : (lines : List (List ℕ)) → AllByRecursion IsWhole lines → unended [] (concat lines) ≡ []
unended_all [] each = refl
unended_all (line ∷ lines) each =
    unended-append [] line (concat lines) ∙ ap (λ begun. unended begun (concat lines)) each.0.last ∙ unended_all lines each.1

pub lines_of-whole : (lines : List (List ℕ)) → AllByRecursion IsWhole lines → lines_of (concat lines) ≡ lines
lines_of-whole lines each =
    ap (λ last. ended_lines [] (concat lines) ++ last_line last) (unended_all lines each) ∙ append-nil (ended_lines [] (concat lines)) ∙
    ended_all lines each

-- a byte that is no LF ends no line
pub passes : (begun back : List ℕ) (b : ℕ) → (b == 10) ≡ false → ended_lines begun (b ∷ back) ≡ ended_lines (begun ++ b ∷ []) back
passes begun back b is = ap (λ ends. if ends then (begun ++ b ∷ []) ∷ ended_lines [] back else ended_lines (begun ++ b ∷ []) back) is

pub stays_open : (begun back : List ℕ) (b : ℕ) → (b == 10) ≡ false → unended begun (b ∷ back) ≡ unended (begun ++ b ∷ []) back
stays_open begun back b is = ap (λ ends. if ends then unended [] back else unended (begun ++ b ∷ []) back) is

-- bytes without LF
abbrev pub HasNoEnd : List ℕ → Type 0
HasNoEnd bytes = list_any (λ b. b == 10) bytes ≡ false

pub neither : (a b : Bool) → a || b ≡ false → (a ≡ false) × (b ≡ false)
neither true b none = absurd cc
neither false b none = (refl, none)

ended_text : (begun text : List ℕ) → HasNoEnd text → ended_lines begun (text ++ 10 ∷ []) ≡ (begun ++ (text ++ 10 ∷ [])) ∷ []
ended_text begun [] none = refl
ended_text begun (b ∷ text) none =
    let parts = neither (b == 10) (list_any (λ c. c == 10) text) none in
    passes begun (text ++ 10 ∷ []) b parts.0 ∙ ended_text (begun ++ b ∷ []) text parts.1 ∙
    ap (λ line. line ∷ []) (append_assoc begun (b ∷ []) (text ++ 10 ∷ []))

unended_text : (begun text : List ℕ) → HasNoEnd text → unended begun (text ++ 10 ∷ []) ≡ []
unended_text begun [] none = refl
unended_text begun (b ∷ text) none =
    let parts = neither (b == 10) (list_any (λ c. c == 10) text) none in
    stays_open begun (text ++ 10 ∷ []) b parts.0 ∙ unended_text (begun ++ b ∷ []) text parts.1

pub IsWhole-text : (text : List ℕ) → HasNoEnd text → IsWhole (text ++ 10 ∷ [])
IsWhole-text text none = record { ended = ended_text [] text none; last = unended_text [] text none }
