-- How many logical lines a text has.
use Rattle.std.proofs.Common.{◌≡◌, ℕ, ◌+◌, Bool, true, false, List, [], ◌∷◌, length, refl, arith}
use Rattle.std.specs.Prelude.{if◌then◌else◌, ◌==◌}
use Rattle.std.specs.List.{onto_first}
use Rattle.plain_text.specs.Lines.{logical_lines}
use Rattle.plain_text.proofs.callers.ListLemmas.{count_by-no, count_by-yes}
use Rattle.rope_node.specs.Lengths.{lf_count}

-- one more than LFs
pub length-logical_lines : (text : List ℕ) → length (logical_lines text) ≡ lf_count text + 1
length-logical_lines [] = refl
length-logical_lines (c ∷ text) = by (c == 10) refl (logical_lines text) (length-logical_lines text)
  where
    by : (feed : Bool) → (c == 10) ≡ feed → (lines : List (List ℕ)) → length lines ≡ lf_count text + 1 →
        length (if feed then (c ∷ []) ∷ lines else onto_first c lines) ≡ lf_count (c ∷ text) + 1
    by true is lines same = omega (arith, same, count_by-yes (λ k. k == 10) c text is)
    by false is [] same = absurd (omega (arith, same))
    by false is (line ∷ lines) same = omega (arith, same, count_by-no (λ k. k == 10) c text is)
