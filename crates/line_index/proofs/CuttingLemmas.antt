-- A logical line of a text as a slice of it, and the cuts of one line more.
use Rattle.std.proofs.Common.{◌≡◌, inl, inr, ℕ, zero, suc, ◌+◌, ◌-◌, ◌^◌, ◌<◌, ◌≤◌, true, IsTrue, List, [], ◌∷◌, ◌++◌, length, take, drop, Option, Some, refl, ap, ap₂, sym, subst, ◌∙◌, arith, append-nil, length-append}
use Rattle.std.specs.Prelude.{unwrap_or, get_or, slice_get, slice_range}
use Rattle.std.specs.List.{concat}
use Rattle.std.specs.Str.{all_scalars}
use Rattle.std.proofs.lemmas.Option.{slice_get_cases}
use Rattle.plain_text.specs.Lines.{logical_lines}
use Rattle.plain_screen.proofs.callers.ViewLemmas.{concat-logical_lines}
use Rattle.line_break.specs.Breaks.{breaks_of}
use Rattle.line_index.specs.declared.cut.Cut.{Cut}
use Rattle.line_index.specs.Cuts.{cuts_from, cuts_of, cuts_of_line, cuts_of_lines, span}
use Rattle.line_index.specs.Inner.{RiseFrom}
use Rattle.line_index.specs.Sizes.{cut_of, cuts_in, is_countable, sizes_of}
use Rattle.line_index.specs.Whole.{line_start}
use Rattle.line_index.proofs.LineLemmas.{AreCut-text, cuts_of_lines-append}
use Rattle.line_index.proofs.TouchedLemmas.{in_three}
use Rattle.line_index.proofs.CutLemmas.{AreCut-get, RiseFrom-ends, part-fits, sizes-fit, slice-line, slice-more}

-- ---- where lines start

pub starts-rise : (i j : ℕ) (lines : List (List ℕ)) → i ≤ j → length (concat (take i lines)) ≤ length (concat (take j lines))
starts-rise zero j lines le = omega arith
starts-rise (suc i) zero lines le = absurd (omega arith)
starts-rise (suc i) (suc j) [] le = omega arith
starts-rise (suc i) (suc j) (line ∷ lines) le =
    omega (arith, starts-rise i j lines (omega arith), length-append line (concat (take i lines)), length-append line (concat (take j lines)))

starts-inside : (i : ℕ) (lines : List (List ℕ)) → length (concat (take i lines)) ≤ length (concat lines)
starts-inside zero lines = omega arith
starts-inside (suc i) [] = omega arith
starts-inside (suc i) (line ∷ lines) = omega (arith, starts-inside i lines, length-append line (concat (take i lines)), length-append line (concat lines))

pub line_start-inside : (text : List ℕ) (i : ℕ) → line_start text i ≤ length text
line_start-inside text i = omega (arith, starts-inside i (logical_lines text), ap length (concat-logical_lines text))

pub line_start-rise : (text : List ℕ) (i j : ℕ) → i ≤ j → line_start text i ≤ line_start text j
line_start-rise text i j le = starts-rise i j (logical_lines text) le

-- A LINE IS WHAT STANDS BETWEEN ITS START AND THAT OF THE NEXT
pub line-slice : (text : List ℕ) (i start end : ℕ) (part : List ℕ) → i < length (logical_lines text) → start ≡ line_start text i → end ≡ line_start text (i + 1) →
    part ≡ slice_range text start end → slice_get (logical_lines text) i ≡ Some part
line-slice text i start end part inside starts ends is = elim (slice_get_cases (logical_lines text) i).1 [
  | inl found ↦
      let next : i + 1 ≡ suc i = omega arith in
      let shown = slice-line [] (logical_lines text) i found.0 found.2 in
      let from : 0 + length (concat (take i (logical_lines text))) ≡ start = omega (arith, starts) in
      let to : 0 + length (concat (take (suc i) (logical_lines text))) ≡ end = omega (arith, ends, ap (line_start text) next) in
      let same : found.0 ≡ part =
      sym shown ∙ ap₂ (λ (a b : ℕ). slice_range (concat (logical_lines text)) a b) from to ∙
      ap (λ (t : List ℕ). slice_range t start end) (concat-logical_lines text) ∙ sym is in
      found.2 ∙ ap (λ (l : List ℕ). Some l) same
  | inr outside ↦ absurd (let past = outside.0 in omega arith)
]

line-short : (lines : List (List ℕ)) (i : ℕ) (line : List ℕ) → slice_get lines i ≡ Some line → length line ≤ length (concat lines)
line-short [] i line is = absurd cc
line-short (own ∷ lines) zero line is =
    let same : own ≡ line = ap (λ (o : Option (List ℕ)). unwrap_or o own) is in omega (arith, ap length same, length-append own (concat lines))
line-short (own ∷ lines) (suc i) line is = omega (arith, line-short lines i line is, length-append own (concat lines))

-- ---- the cuts of one line more

module _ (width tab : ℕ) where
  pub ends-rise : (text : List ℕ) (at : ℕ) (line ends : List ℕ) → all_scalars text ≡ true → length text < 2 ^ 63 →
      slice_get (logical_lines text) at ≡ Some line → ends ≡ breaks_of width tab line → RiseFrom 0 ends
  ends-rise text at line ends scalars small is are =
      subst (RiseFrom 0) (sym are)
      (RiseFrom-ends (length line) (breaks_of width tab line)
      (AreCut-get (breaks_of width tab) (logical_lines text) at line (AreCut-text width tab text scalars) is)
      (omega (arith, line-short (logical_lines text) at line is, ap length (concat-logical_lines text))))

  pub line-made : (text : List ℕ) (from at : ℕ) (line ends : List ℕ) (made after : List Cut) → from ≤ at → slice_get (logical_lines text) at ≡ Some line →
      ends ≡ breaks_of width tab line → made ≡ cuts_of_lines width tab (slice_range (logical_lines text) from at) → after ≡ made ++ cuts_from true 0 ends →
      after ≡ cuts_of_lines width tab (slice_range (logical_lines text) from (at + 1))
  line-made text from at line ends made after ordered is are before put =
      let next : suc at ≡ at + 1 = omega arith in
      put ∙ ap₂ (λ (cuts : List Cut) (es : List ℕ). cuts ++ cuts_from true 0 es) before are ∙
      ap (λ (cuts : List Cut). cuts_of_lines width tab (slice_range (logical_lines text) from at) ++ cuts) (sym (append-nil (cuts_of_line width tab line))) ∙
      sym (cuts_of_lines-append width tab (slice_range (logical_lines text) from at) (line ∷ [])) ∙
      ap (cuts_of_lines width tab) (sym (slice-more from (logical_lines text) at line ordered is)) ∙
      ap (λ (n : ℕ). cuts_of_lines width tab (slice_range (logical_lines text) from n)) next

  pub lines-fit : (text : List ℕ) (from to : ℕ) → all_scalars text ≡ true → length text < 2 ^ 63 → from ≤ to →
      IsTrue (is_countable (sizes_of (cuts_of_lines width tab (slice_range (logical_lines text) from to))))
  lines-fit text from to scalars small ordered =
      let lines : List (List ℕ) = logical_lines text in
      let parts : cuts_of width tab text ≡
      cuts_of_lines width tab (take from lines) ++ (cuts_of_lines width tab (slice_range lines from to) ++ cuts_of_lines width tab (drop to lines)) =
      ap (cuts_of_lines width tab) (in_three from to lines ordered) ∙
      cuts_of_lines-append width tab (take from lines) (slice_range lines from to ++ drop to lines) ∙
      ap (λ (cuts : List Cut). cuts_of_lines width tab (take from lines) ++ cuts) (cuts_of_lines-append width tab (slice_range lines from to) (drop to lines)) in
      part-fits (cuts_of_lines width tab (take from lines)) (cuts_of_lines width tab (slice_range lines from to)) (cuts_of_lines width tab (drop to lines))
      (subst (λ (cuts : List Cut). IsTrue (is_countable (sizes_of cuts))) parts (sizes-fit width tab text scalars small))

  pub line-fits : (text : List ℕ) (from at : ℕ) (line ends : List ℕ) (made : List Cut) → all_scalars text ≡ true → length text < 2 ^ 63 → from ≤ at →
      slice_get (logical_lines text) at ≡ Some line → ends ≡ breaks_of width tab line → made ≡ cuts_of_lines width tab (slice_range (logical_lines text) from at) →
      IsTrue (is_countable (sizes_of (made ++ cuts_from true 0 ends)))
  line-fits text from at line ends made scalars small ordered is are before =
      subst (λ (cuts : List Cut). IsTrue (is_countable (sizes_of cuts)))
      (sym (line-made text from at line ends made (made ++ cuts_from true 0 ends) ordered is are before refl))
      (lines-fit text from (at + 1) scalars small (omega arith))

-- ---- one number more

span-next : (words : List ℕ) (i : ℕ) → i < length words → span (cuts_in (drop i words)) ≡ (cut_of (get_or words i 0)).len + span (cuts_in (drop (suc i) words))
span-next [] i inside = absurd (omega arith)
span-next (word ∷ words) zero inside = refl
span-next (word ∷ words) (suc i) inside = span-next words i (omega arith)

pub span-step : (words : List ℕ) (i count : ℕ) (cut : Cut) → i < length words → cut ≡ cut_of (get_or words i 0) →
    count + span (cuts_in (drop i words)) ≡ span (cuts_in words) → count + cut.len + span (cuts_in (drop (i + 1) words)) ≡ span (cuts_in words)
span-step words i count cut inside is rest =
    let next : i + 1 ≡ suc i = omega arith in
    omega (arith, rest, span-next words i inside, ap (λ (c : Cut). c.len) is, ap (λ (n : ℕ). span (cuts_in (drop n words))) next)
