-- Lemmas on the lines of an input.
use Rattle.std.proofs.Common.{◌≡◌, ℕ, true, false, List, [], ◌∷◌, ◌++◌, refl, ap, sym, ◌∙◌, append_assoc, append-nil}
use Rattle.std.specs.Prelude.{if◌then◌else◌, ◌==◌}
use Rattle.std.specs.List.{concat}
use Rattle.std.proofs.lemmas.List.Folds.{concat-append}
use Rattle.plain_text.specs.InputLines.{ended_lines, unended, last_line, lines_of}

-- the lines of an input in two pieces
pub ended_lines-append : (begun front back : List ℕ) →
    ended_lines begun (front ++ back) ≡ ended_lines begun front ++ ended_lines (unended begun front) back
ended_lines-append begun [] back = refl
ended_lines-append begun (b ∷ front) back =
    elim (b == 10) as (λ ends.
    (if ends then (begun ++ b ∷ []) ∷ ended_lines [] (front ++ back) else ended_lines (begun ++ b ∷ []) (front ++ back)) ≡
    (if ends then (begun ++ b ∷ []) ∷ ended_lines [] front else ended_lines (begun ++ b ∷ []) front) ++
    ended_lines (if ends then unended [] front else unended (begun ++ b ∷ []) front) back) [
      | true ↦ ap (λ lines. (begun ++ b ∷ []) ∷ lines) (ended_lines-append [] front back)
      | false ↦ ended_lines-append (begun ++ b ∷ []) front back
    ]

pub unended-append : (begun front back : List ℕ) → unended begun (front ++ back) ≡ unended (unended begun front) back
unended-append begun [] back = refl
unended-append begun (b ∷ front) back =
    elim (b == 10) as (λ ends.
    (if ends then unended [] (front ++ back) else unended (begun ++ b ∷ []) (front ++ back)) ≡
    unended (if ends then unended [] front else unended (begun ++ b ∷ []) front) back)
    [ true ↦ unended-append [] front back | false ↦ unended-append (begun ++ b ∷ []) front back ]

-- the lines and what stands after them are the input
pub concat-ended_lines : (begun bytes : List ℕ) → concat (ended_lines begun bytes) ++ unended begun bytes ≡ begun ++ bytes
concat-ended_lines begun [] = sym (append-nil begun)
concat-ended_lines begun (b ∷ bytes) =
    elim (b == 10) as (λ ends.
    concat (if ends then (begun ++ b ∷ []) ∷ ended_lines [] bytes else ended_lines (begun ++ b ∷ []) bytes) ++
    (if ends then unended [] bytes else unended (begun ++ b ∷ []) bytes) ≡ begun ++ (b ∷ bytes)) [
      | true ↦
          append_assoc (begun ++ b ∷ []) (concat (ended_lines [] bytes)) (unended [] bytes) ∙
          ap (λ rest. (begun ++ b ∷ []) ++ rest) (concat-ended_lines [] bytes) ∙ append_assoc begun (b ∷ []) bytes
      | false ↦ concat-ended_lines (begun ++ b ∷ []) bytes ∙ append_assoc begun (b ∷ []) bytes
    ]

pub concat-last_line : (piece : List ℕ) → concat (last_line piece) ≡ piece
concat-last_line [] = refl
concat-last_line (b ∷ piece) = append-nil (b ∷ piece)

pub concat-lines_of : (bytes : List ℕ) → concat (lines_of bytes) ≡ bytes
concat-lines_of bytes =
    concat-append (ended_lines [] bytes) (last_line (unended [] bytes)) ∙
    ap (λ rest. concat (ended_lines [] bytes) ++ rest) (concat-last_line (unended [] bytes)) ∙ concat-ended_lines [] bytes
