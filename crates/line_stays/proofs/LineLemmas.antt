-- The logical lines of texts that are one but between a front and a back.
use Rattle.std.proofs.Common.{◌≡◌, ℕ, zero, suc, ◌+◌, ◌-◌, ◌<◌, ◌≤◌, Bool, true, false, List, [], ◌∷◌, ◌++◌, length, refl, ap, sym, ◌∙◌, arith, append_assoc}
use Rattle.std.specs.Prelude.{if◌then◌else◌, ◌==◌, slice_get}
use Rattle.std.specs.List.{onto_first}
use Rattle.std.specs.Option.{option_map}
use Rattle.plain_text.specs.Lines.{logical_lines}
use Rattle.plain_text.proofs.callers.ListLemmas.{count_by-yes, count_by-no}
use Rattle.plain_screen.proofs.callers.ViewLemmas.{logical_lines-some}
use Rattle.rope_node.specs.Lengths.{count_by-append, lf_count}

-- a character in front of lines, of which there is one at least
first-onto : (c : ℕ) (lines : List (List ℕ)) → (lines ≡ [] → ⊥) → slice_get (onto_first c lines) 0 ≡ option_map (λ line. c ∷ line) (slice_get lines 0)
first-onto c [] some = absurd (some refl)
first-onto c (line ∷ lines) some = refl

later-onto : (c : ℕ) (lines : List (List ℕ)) (index : ℕ) → (lines ≡ [] → ⊥) → slice_get (onto_first c lines) (suc index) ≡ slice_get lines (suc index)
later-onto c [] index some = absurd (some refl)
later-onto c (line ∷ lines) index some = refl

length-onto : (c : ℕ) (lines : List (List ℕ)) → (lines ≡ [] → ⊥) → length (onto_first c lines) ≡ length lines
length-onto c [] some = absurd (some refl)
length-onto c (line ∷ lines) some = refl

lf-yes : (c : ℕ) (text : List ℕ) → (c == 10) ≡ true → lf_count (c ∷ text) ≡ lf_count text + 1
lf-yes c text is = count_by-yes (λ d. d == 10) c text is

lf-no : (c : ℕ) (text : List ℕ) → (c == 10) ≡ false → lf_count (c ∷ text) ≡ lf_count text
lf-no c text is = count_by-no (λ d. d == 10) c text is

abbrev with_character : ℕ → Bool → List (List ℕ) → List (List ℕ)
with_character c feed lines = if feed then (c ∷ []) ∷ lines else onto_first c lines

-- A TEXT HAS ONE LOGICAL LINE MORE than LFs
pub lines-counted : (text : List ℕ) → length (logical_lines text) ≡ lf_count text + 1
lines-counted [] = refl
lines-counted (c ∷ text) = by (lines-counted text) (c == 10) refl
  where
    by : length (logical_lines text) ≡ lf_count text + 1 → (b : Bool) → (c == 10) ≡ b → length (with_character c b (logical_lines text)) ≡ lf_count (c ∷ text) + 1
    by rest true is = omega (arith, rest, lf-yes c text is)
    by rest false is = length-onto c (logical_lines text) (logical_lines-some text) ∙ omega (arith, rest, lf-no c text is)

-- lines that a front ends are the same whatever stands behind it
pub lines-left : (front back other : List ℕ) (index : ℕ) → index < lf_count front →
    slice_get (logical_lines (front ++ back)) index ≡ slice_get (logical_lines (front ++ other)) index
lines-left [] back other index less = absurd (omega (arith, less))
lines-left (c ∷ front) back other index less = by (lines-left front back other) (c == 10) refl index less
  where
    by : ((i : ℕ) → i < lf_count front → slice_get (logical_lines (front ++ back)) i ≡ slice_get (logical_lines (front ++ other)) i) → (b : Bool) → (c == 10) ≡ b → (i : ℕ) → i < lf_count (c ∷ front) →
        slice_get (with_character c b (logical_lines (front ++ back))) i ≡ slice_get (with_character c b (logical_lines (front ++ other))) i
    by rest true is zero few = refl
    by rest true is (suc i) few = rest i (omega (arith, few, lf-yes c front is))
    by rest false is zero few =
        first-onto c (logical_lines (front ++ back)) (logical_lines-some (front ++ back)) ∙
        ap (option_map (λ line. c ∷ line)) (rest 0 (omega (arith, few, lf-no c front is))) ∙
        sym (first-onto c (logical_lines (front ++ other)) (logical_lines-some (front ++ other)))
    by rest false is (suc i) few =
        later-onto c (logical_lines (front ++ back)) i (logical_lines-some (front ++ back)) ∙
        rest (suc i) (omega (arith, few, lf-no c front is)) ∙
        sym (later-onto c (logical_lines (front ++ other)) i (logical_lines-some (front ++ other)))

-- the lines of a back, but for its first, are the same whatever stands before it
pub lines-right : (front back : List ℕ) (k : ℕ) → slice_get (logical_lines (front ++ back)) (lf_count front + suc k) ≡ slice_get (logical_lines back) (suc k)
lines-right [] back k = let none : lf_count [] + suc k ≡ suc k = omega arith in ap (slice_get (logical_lines back)) none
lines-right (c ∷ front) back k = by (lines-right front back k) (c == 10) refl
  where
    by : slice_get (logical_lines (front ++ back)) (lf_count front + suc k) ≡ slice_get (logical_lines back) (suc k) → (b : Bool) → (c == 10) ≡ b →
        slice_get (with_character c b (logical_lines (front ++ back))) (lf_count (c ∷ front) + suc k) ≡ slice_get (logical_lines back) (suc k)
    by rest true is =
        let at : lf_count (c ∷ front) + suc k ≡ suc (lf_count front + suc k) = omega (arith, lf-yes c front is) in
        ap (slice_get ((c ∷ []) ∷ logical_lines (front ++ back))) at ∙ rest
    by rest false is =
        let at : lf_count (c ∷ front) + suc k ≡ suc (lf_count front + k) = omega (arith, lf-no c front is) in
        let back_to : suc (lf_count front + k) ≡ lf_count front + suc k = omega arith in
        ap (slice_get (onto_first c (logical_lines (front ++ back)))) at ∙
        later-onto c (logical_lines (front ++ back)) (lf_count front + k) (logical_lines-some (front ++ back)) ∙
        ap (slice_get (logical_lines (front ++ back))) back_to ∙ rest

-- ---- an edit

module _ (front gone come back : List ℕ) where
  abbrev pub was : List ℕ
  was = front ++ (gone ++ back)

  abbrev pub made : List ℕ
  made = front ++ (come ++ back)

  pub lf-was : lf_count was ≡ lf_count front + (lf_count gone + lf_count back)
  lf-was = omega (arith, count_by-append (λ d. d == 10) front (gone ++ back), count_by-append (λ d. d == 10) gone back)

  pub lf-made : lf_count made ≡ lf_count front + (lf_count come + lf_count back)
  lf-made = omega (arith, count_by-append (λ d. d == 10) front (come ++ back), count_by-append (λ d. d == 10) come back)

  -- there is room: right of the touched lines stand no more than there were
  pub edit-room : lf_count front + length (logical_lines made) ≤ length (logical_lines was) + (lf_count (front ++ come) + 1)
  edit-room =
      omega (arith, lines-counted made, lines-counted was, lf-was, lf-made, count_by-append (λ d. d == 10) front come)

  -- a line right of the touched lines is the one that counts equally from the end
  pub edit-right : (index : ℕ) → lf_count (front ++ come) + 1 ≤ index → index < length (logical_lines made) →
      slice_get (logical_lines made) index ≡ slice_get (logical_lines was) (length (logical_lines was) - (length (logical_lines made) - index))
  edit-right index past inside =
      let k : ℕ = index - (lf_count (front ++ come) + 1) in
      let here : index ≡ lf_count (front ++ come) + suc k = omega (arith, past) in
      let there : lf_count (front ++ gone) + suc k ≡ length (logical_lines was) - (length (logical_lines made) - index) =
      omega (
        arith,
        past,
        inside,
        lines-counted made,
        lines-counted was,
        lf-was,
        lf-made,
        count_by-append (λ d. d == 10) front come,
        count_by-append (λ d. d == 10) front gone,
      ) in
      ap (slice_get (logical_lines made)) here ∙ ap (λ t. slice_get (logical_lines t) (lf_count (front ++ come) + suc k)) (sym (append_assoc front come back)) ∙
      lines-right (front ++ come) back k ∙ sym (lines-right (front ++ gone) back k) ∙
      ap (λ t. slice_get (logical_lines t) (lf_count (front ++ gone) + suc k)) (append_assoc front gone back) ∙ ap (slice_get (logical_lines was)) there
