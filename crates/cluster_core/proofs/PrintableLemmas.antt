-- A printable character takes one column.
use Rattle.std.proofs.Common.{subst, ◌≡◌, ℕ, ◌+◌, ◌≤◌, true, false, List, [], ◌∷◌, refl, sym, ap, ◌∙◌, arith}
use Rattle.std.proofs.lemmas.Grind.{common_steps}
use Rattle.std.specs.List.{list_all}
use Rattle.std.specs.Int.{is_in_range}
use Rattle.std.specs.Str.{chars, IsUtf8}
use Rattle.unicode_width.specs.Width.{str_width}
use Rattle.unicode_width.proofs.WidthLemmas.{read_before-printable}
use Rattle.cluster_core.specs.Columns.{column_after, column_past}
use Rattle.cluster_core.specs.Plain.{is_printable_character, IsPrintable}
use Rattle.cluster_core.proofs.FirstLemmas.{chars-past_plain}

width_one : (c : ℕ) → 32 ≤ c → c ≤ 126 → str_width false (c ∷ []) ≡ 1
unfolding str_width
width_one c low high =
    let passes : list_all (is_in_range 0x20 0x7E) (c ∷ []) ≡ true = grind arith in
    sym (ap (λ t. t.0) (read_before-printable false (c ∷ []) [] 0 passes refl))

pub column_after-one : (tab column c : ℕ) → is_printable_character c ≡ true → column_after tab column (c ∷ []) ≡ column + 1
column_after-one tab column c printable = by (str_width false (c ∷ [])) (width_one c (low c printable) (high c printable))
  where
    low : (c : ℕ) → is_printable_character c ≡ true → 32 ≤ c
    low c printable = grind arith

    high : (c : ℕ) → is_printable_character c ≡ true → c ≤ 126
    high c printable = grind arith

    by : (width : ℕ) → width ≡ 1 → column_past tab column (c ∷ []) width ≡ column + 1
    by width same = let above = low c printable in let below = high c printable in grind (arith, common_steps)

pub column_after-printable : (tab column : ℕ) (bytes : List ℕ) → IsUtf8 bytes → IsPrintable bytes → column_after tab column (chars bytes) ≡ column + 1
unfolding chars
column_after-printable tab column bytes u (c, is, low, high) =
    let one : chars bytes ≡ c ∷ [] = ap chars is ∙ chars-past_plain c [] (subst (λ (bs : List ℕ). IsUtf8 bs) is u) (omega arith) in
    ap (column_after tab column) one ∙ by (str_width false (c ∷ [])) (width_one c low high)
  where
    by : (width : ℕ) → width ≡ 1 → column_past tab column (c ∷ []) width ≡ column + 1
    by width same = grind (arith, common_steps)
