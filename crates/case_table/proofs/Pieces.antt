-- The pieces of a text, one at a time.
use Rattle.std.proofs.Common.{◌≡◌, ℕ, ◌+◌, ◌<◌, eqb, List, [], ◌∷◌, length, drop, get_or, Option, Some, None, Bor, sym, ◌∙◌, ap, arith, add-one}
use Rattle.std.specs.Prelude.{IfNone, IfSome}
use Rattle.std.specs.List.{position_or_len, before_first, after_first}
use Rattle.std.proofs.lemmas.List.{length-drop, drop_more}
use Rattle.std.proofs.lemmas.List.Sums.{fails_before_first}
use Rattle.std.proofs.lemmas.List.Splits.{slice_split_none, slice_split_first, length-slice_split}
use Rattle.std.proofs.lemmas.Str.Pattern.{IsSplitOnceResult, split_once_first}
use Rattle.case_table.specs.Table.{pieces}

-- a text without a space is one piece
pub pieces-last : (text : List ℕ) → position_or_len (λ b. eqb b 32) text ≡ length text → pieces text ≡ text ∷ []
pieces-last text e = slice_split_none (λ b. eqb b 32) text (λ k d within. fails_before_first (λ b. eqb b 32) text k d (omega (arith, e, within)))

-- else its first piece ends at the first space
pub pieces-first : (text : List ℕ) → position_or_len (λ b. eqb b 32) text < length text → pieces text ≡ before_first (λ b. eqb b 32) text ∷ pieces (after_first (λ b. eqb b 32) text)
pieces-first text h = slice_split_first (λ b. eqb b 32) text 0 h

-- there is always a piece
pub pieces-some : (text : List ℕ) → 0 < length (pieces text)
pieces-some text = omega (arith, length-slice_split (λ b. eqb b 32) text)

-- what a list has from an index on
pub drop-at : {X : Type 0} (xs ys : List X) (x d : X) (n : ℕ) → drop n xs ≡ x ∷ ys → (length xs ≡ n + 1 + length ys) × (get_or xs n d ≡ x) × (drop (n + 1) xs ≡ ys)
drop-at {X} xs ys x d n e =
    let counted : length (drop n xs) ≡ length ys + 1 = ap length e ∙ sym (add-one (length ys)) in
    let within : n < length xs = omega (arith, length-drop n xs) in
    let more = drop_more xs n d within in
    (omega (arith, length-drop n xs), cc, cc)

-- what `split_once` says of them
pub pieces-cut_none : (text : List ℕ) (r : Option (Bor (List ℕ) × Bor (List ℕ))) → IsSplitOnceResult 32 text r → IfNone r (pieces text ≡ text ∷ [])
pieces-cut_none text None h = pieces-last text (split_once_first 32 text None h (omega arith))
pieces-cut_none text (Some parts) h = tt

pub pieces-cut_some : (text : List ℕ) (r : Option (Bor (List ℕ) × Bor (List ℕ))) → IsSplitOnceResult 32 text r → IfSome r (λ parts. pieces text ≡ parts.0.now ∷ pieces parts.1.now)
pieces-cut_some text None h = tt
pieces-cut_some text (Some parts) h =
    let cut = split_once_first 32 text (Some parts) h (omega arith) in
    rw (cut.1, cut.2) (pieces-first text cut.0)
