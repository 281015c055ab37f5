-- The logical line of a gap counts the LFs left of it.
use Rattle.std.proofs.Common.{◌≡◌, ℕ, ◌+◌, ◌≤◌, Bool, true, false, cond, List, [], ◌∷◌, ◌++◌, length, take, drop, refl, ap, ap₂, sym, ◌∙◌, arith, zero-add}
use Rattle.std.specs.Prelude.{if◌then◌else◌, nat_lt, ◌==◌}
use Rattle.std.specs.List.{onto_first}
use Rattle.std.proofs.lemmas.Bool.{le-ltb, lt-ltb}
use Rattle.std.proofs.lemmas.List.{length-take-le, take-append-drop}
use Rattle.std.proofs.lemmas.List.Sums.{sum_by-append}
use Rattle.plain_text.specs.Lines.{logical_lines}
use Rattle.plain_screen.specs.View.{logical_line_from, logical_line_of}
use Rattle.plain_screen.proofs.callers.ViewLemmas.{logical_lines-some}
use Rattle.rope_node.specs.Lengths.{lf_count}

lf_count-both : (c : ℕ) (text : List ℕ) → lf_count (c ∷ text) ≡ lf_count (c ∷ []) + lf_count text
lf_count-both c text = sum_by-append (λ d. cond (d == 10) 1 0) (c ∷ []) text

-- a line of which another follows begins with a character
line-at : (index start : ℕ) (c : ℕ) (first : List ℕ) (lines : List (List ℕ)) →
    (logical_line_from index start start ((c ∷ first) ∷ lines)).index ≡ index
line-at index start c first [] = refl
line-at index start c first (next ∷ lines) =
    ap (λ b. (if b then record { index = index; start = start; text = c ∷ first } else
    logical_line_from (index + 1) (start + length (c ∷ first)) start (next ∷ lines)).index)
    (lt-ltb start (start + length (c ∷ first)) (omega arith))

-- one more character at the front of a line moves its start
line-longer : (index start gap c : ℕ) (first : List ℕ) (lines : List (List ℕ)) →
    (logical_line_from index start gap ((c ∷ first) ∷ lines)).index ≡ (logical_line_from index (start + 1) gap (first ∷ lines)).index
line-longer index start gap c first [] = refl
line-longer index start gap c first (next ∷ lines) =
    let same : start + length (c ∷ first) ≡ start + 1 + length first = omega arith in
    ap (λ n. (if nat_lt gap n then record { index = index; start = start; text = c ∷ first } else
    logical_line_from (index + 1) n gap (next ∷ lines)).index) same ∙ by (nat_lt gap (start + 1 + length first))
  where
    by : (b : Bool) → (if b then record { index = index; start = start; text = c ∷ first } else
        logical_line_from (index + 1) (start + 1 + length first) gap (next ∷ lines)).index ≡
        (if b then record { index = index; start = start + 1; text = first } else
        logical_line_from (index + 1) (start + 1 + length first) gap (next ∷ lines)).index
    by true = refl
    by false = refl

line-front : (index start : ℕ) (text : List ℕ) → (logical_line_from index start start (logical_lines text)).index ≡ index
line-front index start [] = refl
line-front index start (c ∷ text) = by (c == 10) (logical_lines text)
  where
    by : (b : Bool) (lines : List (List ℕ)) →
        (logical_line_from index start start (if b then (c ∷ []) ∷ lines else onto_first c lines)).index ≡ index
    by true lines = line-at index start c [] lines
    by false [] = refl
    by false (first ∷ lines) = line-at index start c first lines

line-index : (index start : ℕ) (front back : List ℕ) →
    (logical_line_from index start (start + length front) (logical_lines (front ++ back))).index ≡ index + lf_count front
line-index index start [] back =
    let none : start + 0 ≡ start = omega arith in
    let zero_lfs : index ≡ index + 0 = omega arith in
    ap (λ n. (logical_line_from index start n (logical_lines back)).index) none ∙ line-front index start back ∙ zero_lfs
line-index index start (c ∷ front) back =
    ap (λ n. (logical_line_from index start n (if c == 10 then (c ∷ []) ∷ logical_lines (front ++ back) else onto_first c (logical_lines (front ++ back)))).index) gap ∙
    by (λ i s. line-index i s front back) (c == 10) refl (logical_lines (front ++ back)) refl ∙ ap (λ n. index + n) (sym (lf_count-both c front))
  where
    gap : start + length (c ∷ front) ≡ start + 1 + length front
    gap = omega arith

    by : ((i s : ℕ) → (logical_line_from i s (s + length front) (logical_lines (front ++ back))).index ≡ i + lf_count front) →
        (b : Bool) → (c == 10) ≡ b → (lines : List (List ℕ)) → logical_lines (front ++ back) ≡ lines →
        (logical_line_from index start (start + 1 + length front) (if b then (c ∷ []) ∷ lines else onto_first c lines)).index ≡
        index + (lf_count (c ∷ []) + lf_count front)
    by later b is [] are = absurd (logical_lines-some (front ++ back) are)
    by later true is (first ∷ lines) are =
        let one : lf_count (c ∷ []) ≡ 1 = ap (λ b. 0 + cond b 1 0) is in
        let rest = later (index + 1) (start + 1) in
        ap (λ b. (if b then record { index = index; start = start; text = c ∷ [] } else
        logical_line_from (index + 1) (start + 1) (start + 1 + length front) (first ∷ lines)).index)
        (le-ltb (start + 1 + length front) (start + 1) (omega arith)) ∙
        ap (λ ls. (logical_line_from (index + 1) (start + 1) (start + 1 + length front) ls).index) (sym are) ∙ rest ∙
        omega (arith, one)
    by later false is (first ∷ lines) are =
        let none : lf_count (c ∷ []) ≡ 0 = ap (λ b. 0 + cond b 1 0) is in
        let rest = later index (start + 1) in
        line-longer index start (start + 1 + length front) c first lines ∙
        ap (λ ls. (logical_line_from index (start + 1) (start + 1 + length front) ls).index) (sym are) ∙ rest ∙ omega (arith, none)

-- THE LOGICAL LINE OF A GAP counts the LFs left of it
pub line-counts : (text : List ℕ) (gap : ℕ) → gap ≤ length text → (logical_line_of text gap).index ≡ lf_count (take gap text)
line-counts text gap inside =
    let long : length (take gap text) ≡ gap = length-take-le gap text inside in
    let at : gap ≡ 0 + length (take gap text) = omega (arith, long) in
    ap₂ (λ n t. (logical_line_from 0 0 n (logical_lines t)).index) at (sym (take-append-drop gap text)) ∙
    line-index 0 0 (take gap text) (drop gap text) ∙ zero-add (lf_count (take gap text))
