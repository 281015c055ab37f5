-- What a text is that is a table, in words that speak of no index.
use Rattle.std.proofs.Common.{◌≡◌, ℕ, ◌+◌, ◌-◌, ◌<◌, true, List, [], ◌∷◌, ◌++◌, length, take, drop, None, refl, sym, ◌∙◌, ap, arith, eqb, false, below_more}
use Rattle.std.specs.Ordering.{nat_cmp}
use Rattle.std.specs.Cmp.Lexicographic.{slice_cmp}
use Rattle.std.specs.declared.cmp.Ordering.TheVariants.{Less}
use Rattle.std.specs.List.{All, AllByRecursion, join_with_byte}
use Rattle.std.proofs.lemmas.List.{append_assoc, append-nil, length-append, get_or_append_left, length-take-le, get_or-take, take-append-drop, drop_more, drop_all, nil_from_length}
use Rattle.std.proofs.lemmas.List.Splits.{join_with_byte-slice_split, slice_split_at}
use Rattle.std.proofs.Math.Seq.{take-append_seam, drop-append_seam}
use Rattle.std.proofs.lemmas.Bool.Decides.{nat_tests}
use Rattle.case_table.specs.Table.{pieces, names_of, text_of_names, piece_at, NamesRise, is_good, bad_case}
use Rattle.case_table.proofs.Wrong.{bad_case-right, bad_case-none, is_good-true, is_good-says, is_right-below, is_right-end, is_over-none}

-- a name has no space
abbrev pub IsClean : List ℕ → Type 0
IsClean name = All (λ byte. eqb byte 32 ≡ false) name

-- a table of n names has n pieces before its end, which is empty
over : (n : ℕ) (text : List ℕ) → bad_case n text ≡ None → (length (pieces text) ≡ n + 1) × (length (piece_at (pieces text) n) ≡ 0)
over n text none =
    let end = bad_case-right n text none n (omega arith) in
    (grind (arith, nat_tests), grind (arith, nat_tests))

-- it has n names
pub names_of-count : (n : ℕ) (text : List ℕ) → bad_case n text ≡ None → length (names_of text) ≡ n
names_of-count n text none =
    let end = (over n text none).0 in
    let len : length (pieces text) - 1 ≡ n = omega arith in
    rw len (length-take-le n (pieces text) (omega arith))

-- they rise
pub names_of-rising : (n : ℕ) (text : List ℕ) → bad_case n text ≡ None → NamesRise (names_of text)
names_of-rising n text none row within =
    let all = pieces text in
    let count = names_of-count n text none in
    let end = (over n text none).0 in
    let last : length all - 1 ≡ n = omega arith in
    let right_there = bad_case-right n text none (row + 1) (omega arith) in
    let good : is_good all (row + 1) ≡ true = grind (arith, nat_tests) in
    let above = (is_good-says all (row + 1) good).1 (omega arith) in
    let back : row + 1 - 1 ≡ row = omega arith in
    let one = get_or-take (length all - 1) all row [] (omega arith) in
    let two = get_or-take (length all - 1) all (row + 1) [] (omega arith) in
    rw (one, two) (rw back at above)

-- names joined by spaces, with nothing after the last
join-end : (names : List (List ℕ)) → join_with_byte 32 (names ++ [] ∷ []) ≡ text_of_names names
join-end [] = refl
join-end (x ∷ []) = sym (append-nil (x ++ 32 ∷ []))
join-end (x ∷ y ∷ ys) = ap (λ rest. x ++ (32 ∷ rest)) (join-end (y ∷ ys)) ∙ sym (append_assoc x (32 ∷ []) (text_of_names (y ∷ ys)))

-- the text is its names, each followed by one space
pub text_of_names-names_of : (n : ℕ) (text : List ℕ) → bad_case n text ≡ None → text_of_names (names_of text) ≡ text
text_of_names-names_of n text none =
    let all = pieces text in
    let end = over n text none in
    let last : length all - 1 ≡ n = omega (arith, end.0) in
    let empty = nil_from_length (piece_at all n) end.1 in
    let one = drop_more all n [] (omega (arith, end.0)) in
    let gone = drop_all (n + 1) all (omega (arith, end.0)) in
    let rest : drop n all ≡ [] ∷ [] = cc in
    let whole : take n all ++ [] ∷ [] ≡ all = ap (λ back. take n all ++ back) (sym rest) ∙ take-append-drop n all in
    rw last (sym (join-end (take n all)) ∙ ap (join_with_byte 32) whole ∙ join_with_byte-slice_split 32 text)

-- names without a space are the pieces of their text
pub pieces-text_of_names : (names : List (List ℕ)) → AllByRecursion IsClean names → pieces (text_of_names names) ≡ names ++ [] ∷ []
pieces-text_of_names [] clean = refl
pieces-text_of_names (x ∷ xs) clean =
    let cut = append_assoc x (32 ∷ []) (text_of_names xs) in
    let first = slice_split_at (λ byte. eqb byte 32) x 32 (text_of_names xs) clean.0 refl in
    ap pieces cut ∙ first ∙ ap (λ rest. x ∷ rest) (pieces-text_of_names xs clean.1)

-- so their text gives them back
pub names_of-text_of_names : (names : List (List ℕ)) → AllByRecursion IsClean names → names_of (text_of_names names) ≡ names
names_of-text_of_names names clean =
    let all = pieces-text_of_names names clean in
    let len = length-append names ([] ∷ []) in
    let count : length (pieces (text_of_names names)) - 1 ≡ length names = omega (arith, ap length all, len) in
    rw (count, all) (take-append_seam names ([] ∷ []))

-- and is a table, where they rise
pub bad_case-text_of_names : (names : List (List ℕ)) → AllByRecursion IsClean names → NamesRise names → bad_case (length names) (text_of_names names) ≡ None
bad_case-text_of_names names clean rising =
    let text = text_of_names names in
    let n = length names in
    let all = pieces-text_of_names names clean in
    let end : drop n (pieces text) ≡ [] ∷ [] = ap (drop n) all ∙ drop-append_seam names ([] ∷ []) in
    let len : length (pieces text) ≡ n + 1 = ap length all ∙ length-append names ([] ∷ []) in
    let rises : (k : ℕ) → k < n → 0 < k → slice_cmp nat_cmp (piece_at (pieces text) (k - 1)) (piece_at (pieces text) k) ≡ Less = λ k h later.
    let back : k - 1 + 1 ≡ k = omega arith in
    let below = rising (k - 1) (omega arith) in
    let one = get_or_append_left names ([] ∷ []) [] (k - 1) (omega arith) in
    let two = get_or_append_left names ([] ∷ []) [] k h in
    rw (all, one, two) (rw back at below) in
    bad_case-none n text (below_more _ _
    (λ k h. is_right-below n (pieces text) k true h (is_good-true (pieces text) k (omega arith) (λ later. rises k h later)))
    (is_right-end n (pieces text) ∙ is_over-none n (pieces text) end))
