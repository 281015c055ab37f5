-- Lemmas on the first line of bytes.
use Rattle.std.proofs.Common.{◌≡◌, ℕ, ◌<◌, true, false, List, [], ◌∷◌, ◌++◌, length, refl, ap, ap₂, sym, ◌∙◌, append_assoc, arith}
use Rattle.std.specs.Prelude.{◌==◌, if◌then◌else◌}
use Rattle.std.proofs.lemmas.List.{take-append-drop}
use Rattle.case_lines.specs.Lines.{first_line, after_line}
use Rattle.case_lines.proofs.ForCallers.{first_line-end, after_line-end, first_line-on, after_line-on}
use Rattle.plain_text.specs.InputLines.{ended_lines, unended, last_line, lines_of}

-- the first line of the bytes and what stands after it; both are empty at the end
abbrev pub IsCut : List ℕ → List ℕ → List ℕ → Type 0
IsCut [] line rest = (line ≡ []) × (rest ≡ [])
IsCut (b ∷ bytes) line rest = (0 < length line) × (b ∷ bytes ≡ line ++ rest) × (lines_of (b ∷ bytes) ≡ line ∷ lines_of rest)

-- the lines of bytes before which `begun` stands
lines_from : List ℕ → List ℕ → List (List ℕ)
lines_from begun bytes = ended_lines begun bytes ++ last_line (unended begun bytes)

one_line : (begun : List ℕ) (b : ℕ) → last_line (begun ++ b ∷ []) ≡ (begun ++ b ∷ []) ∷ []
one_line [] b = refl
one_line (c ∷ begun) b = refl

-- a byte that is no LF goes to what is begun
lines_from-on : (begun : List ℕ) (b : ℕ) (bytes : List ℕ) → (b == 10) ≡ false → lines_from begun (b ∷ bytes) ≡ lines_from (begun ++ b ∷ []) bytes
unfolding lines_from
lines_from-on begun b bytes is =
    ap₂ (λ ended rest. ended ++ last_line rest)
    (ap (λ test. if test then (begun ++ b ∷ []) ∷ ended_lines [] bytes else ended_lines (begun ++ b ∷ []) bytes) is)
    (ap (λ test. if test then unended [] bytes else unended (begun ++ b ∷ []) bytes) is)

-- LF ends the line that is begun
lines_from-end : (begun : List ℕ) (b : ℕ) (bytes : List ℕ) → (b == 10) ≡ true →
    lines_from begun (b ∷ bytes) ≡ (begun ++ b ∷ []) ∷ lines_of bytes
unfolding lines_from
lines_from-end begun b bytes is =
    ap₂ (λ ended rest. ended ++ last_line rest)
    (ap (λ test. if test then (begun ++ b ∷ []) ∷ ended_lines [] bytes else ended_lines (begun ++ b ∷ []) bytes) is)
    (ap (λ test. if test then unended [] bytes else unended (begun ++ b ∷ []) bytes) is)

-- the first line goes before the others
first_step : (begun : List ℕ) (b : ℕ) (bytes : List ℕ) →
    lines_from (begun ++ b ∷ []) bytes ≡ (begun ++ b ∷ first_line bytes) ∷ lines_of (after_line bytes) →
    lines_from begun (b ∷ bytes) ≡ (begun ++ first_line (b ∷ bytes)) ∷ lines_of (after_line (b ∷ bytes))
first_step begun b bytes later =
    elim (b == 10) as (λ test. (b == 10) ≡ test → lines_from begun (b ∷ bytes) ≡ (begun ++ first_line (b ∷ bytes)) ∷ lines_of (after_line (b ∷ bytes))) [
      | true ↦ λ is. lines_from-end begun b bytes is ∙
          ap₂ (λ line rest. (begun ++ line) ∷ lines_of rest) (sym (first_line-end b bytes is)) (sym (after_line-end b bytes is))
      | false ↦ λ is. lines_from-on begun b bytes is ∙ later ∙
          ap₂ (λ line rest. (begun ++ line) ∷ lines_of rest) (sym (first_line-on b bytes is)) (sym (after_line-on b bytes is))
    ] refl

first_before : (begun : List ℕ) (b : ℕ) (bytes : List ℕ) →
    lines_from begun (b ∷ bytes) ≡ (begun ++ first_line (b ∷ bytes)) ∷ lines_of (after_line (b ∷ bytes))
unfolding lines_from
first_before begun b [] = first_step begun b [] (one_line begun b)
first_before begun b (c ∷ bytes) =
    first_step begun b (c ∷ bytes) (first_before (begun ++ b ∷ []) c bytes ∙
    ap (λ line. line ∷ lines_of (after_line (c ∷ bytes))) (append_assoc begun (b ∷ []) (first_line (c ∷ bytes))))

first_length : (b : ℕ) (bytes : List ℕ) → 0 < length (first_line (b ∷ bytes))
first_length b bytes =
    elim (b == 10) as (λ test. (b == 10) ≡ test → 0 < length (first_line (b ∷ bytes))) [
      | true ↦ λ is. omega (arith, ap length (first_line-end b bytes is))
      | false ↦ λ is. omega (arith, ap length (first_line-on b bytes is))
    ] refl

-- what `first_line` of lines gives is a cut
pub is_cut : (bytes line rest : List ℕ) → line ≡ first_line bytes → rest ≡ after_line bytes → IsCut bytes line rest
unfolding lines_from
is_cut [] line rest is left = (is, left)
is_cut (b ∷ bytes) line rest is left = (
  omega (arith, first_length b bytes, ap length is),
  sym (take-append-drop _ (b ∷ bytes)) ∙ ap₂ (λ front back. front ++ back) (sym is) (sym left),
  first_before [] b bytes ∙ ap₂ (λ first later. first ∷ lines_of later) (sym is) (sym left),
)
