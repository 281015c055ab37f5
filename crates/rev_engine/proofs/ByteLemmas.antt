-- How many bytes the characters of a union take.
use Rattle.std.proofs.Common.{◌≡◌, ℕ, ◌+◌, ◌*◌, ◌≤◌, Bool, true, false, List, [], ◌∷◌, length, refl, arith}
use Rattle.std.proofs.lemmas.Str.{len_utf8_bounds}
use Rattle.plain_text.specs.Text.{byte_len}
use Rattle.subset_runs.specs.Subset.{count, items_outside}
use Rattle.subset_runs.proofs.ForCallers.{count_le_length}
use Rattle.rev_rebase.specs.Rebase.{put_in}

pub byte_len-most : (text : List ℕ) → byte_len text ≤ 4 * length text
byte_len-most [] = omega arith
byte_len-most (c ∷ text) = omega (arith, (len_utf8_bounds c).1, byte_len-most text)

pub byte_len-least : (text : List ℕ) → length text ≤ byte_len text
byte_len-least [] = omega arith
byte_len-least (c ∷ text) = omega (arith, (len_utf8_bounds c).0, byte_len-least text)

pub byte_len-outside : (flags : List Bool) (xs : List ℕ) → byte_len (items_outside flags xs) ≤ byte_len xs
byte_len-outside [] xs = omega arith
byte_len-outside (true ∷ flags) [] = omega arith
byte_len-outside (false ∷ flags) [] = omega arith
byte_len-outside (true ∷ flags) (c ∷ xs) = omega (arith, byte_len-outside flags xs)
byte_len-outside (false ∷ flags) (c ∷ xs) = omega (arith, byte_len-outside flags xs)

pub byte_len-put_in : (at : List Bool) (text xs : List ℕ) → length at ≡ length xs + count at → count at ≡ length text →
    byte_len (put_in at text xs) ≡ byte_len text + byte_len xs
byte_len-put_in [] [] [] longer members = refl
byte_len-put_in [] (c ∷ text) xs longer members = absurd (omega (arith, members))
byte_len-put_in [] [] (c ∷ xs) longer members = absurd (omega (arith, longer))
byte_len-put_in (true ∷ at) [] xs longer members = absurd (omega (arith, members))
byte_len-put_in (true ∷ at) (c ∷ text) xs longer members =
    omega (arith, byte_len-put_in at text xs (omega (arith, longer)) (omega (arith, members)))
byte_len-put_in (false ∷ at) text [] longer members = absurd (omega (arith, longer, count_le_length at))
byte_len-put_in (false ∷ at) text (c ∷ xs) longer members =
    omega (arith, byte_len-put_in at text xs (omega (arith, longer)) (omega (arith, members)))
