-- The first index at which a text is no table.
use Rattle.std.proofs.Common.{drop, [], ◌∷◌, ◌≡◌, ℕ, ◌+◌, ◌-◌, ◌<◌, ◌≤◌, Bool, true, false, not, List, length, Some, None, ap, arith, zero-add}
use Rattle.std.specs.Prelude.{position}
use Rattle.std.specs.List.{range_with_len, position_or_len, join_with_byte}
use Rattle.std.specs.Ordering.{nat_cmp, is_lt}
use Rattle.std.specs.Cmp.Lexicographic.{slice_cmp}
use Rattle.std.specs.declared.cmp.Ordering.TheVariants.{Less}
use Rattle.std.proofs.lemmas.List.Sums.{position_or_len_is, fails_before_first}
use Rattle.std.proofs.lemmas.List.FromFn.{length-range_with_len, get_or-range_with_len}
use Rattle.std.proofs.lemmas.Bool.{not-false}
use Rattle.std.proofs.lemmas.Bool.Decides.{nat_tests}
use Rattle.case_table.proofs.Pieces.{drop-at}
use Rattle.case_table.specs.Table.{pieces, piece_at, is_good, is_over, is_right, bad_case}

position-at : (test : ℕ → Bool) (n i : ℕ) → i ≤ n → ((k : ℕ) → k < i → test k ≡ true) → (i < n → test i ≡ false) → position_or_len (λ k. not (test k)) (range_with_len 0 n) ≡ i
position-at test n i within before here =
    let len = length-range_with_len 0 n in
    position_or_len_is (λ k. not (test k)) (range_with_len 0 n) i 0 (omega arith)
    (λ k less. rw (get_or-range_with_len 0 n k 0 (omega arith), zero-add k) (ap not (before k less)))
    (λ less. rw (get_or-range_with_len 0 n i 0 (omega arith), zero-add i) (ap not (here (omega arith))))

-- a table goes wrong first where it goes well before
pub bad_case-at : (n i : ℕ) (text : List ℕ) → i ≤ n → ((k : ℕ) → k < i → is_right n (pieces text) k ≡ true) → is_right n (pieces text) i ≡ false → bad_case n text ≡ Some i
bad_case-at n i text within before here =
    let at = position-at (is_right n (pieces text)) (n + 1) i (omega arith) before (λ _. here) in
    let len = length-range_with_len 0 (n + 1) in
    grind (arith, nat_tests, at, len)

-- and nowhere where it goes well up to its end
pub bad_case-none : (n : ℕ) (text : List ℕ) → ((k : ℕ) → k < n + 1 → is_right n (pieces text) k ≡ true) → bad_case n text ≡ None
bad_case-none n text before =
    let at = position-at (is_right n (pieces text)) (n + 1) (n + 1) (omega arith) before (λ h. absurd (omega arith)) in
    let len = length-range_with_len 0 (n + 1) in
    grind (arith, nat_tests, at, len)

position-none : (test : ℕ → Bool) (n k : ℕ) → position (λ i. not (test i)) (range_with_len 0 n) ≡ None → k < n → test k ≡ true
position-none test n k none within =
    let wrong : ℕ → Bool = λ i. not (test i) in
    let len = length-range_with_len 0 n in
    let past : length (range_with_len 0 n) ≤ position_or_len wrong (range_with_len 0 n) = grind (arith, nat_tests) in
    let fails = fails_before_first wrong (range_with_len 0 n) k 0 (omega arith) in
    not-false (test k) (rw (get_or-range_with_len 0 n k 0 within, zero-add k) at fails)

-- a table goes well up to its end
pub bad_case-right : (n : ℕ) (text : List ℕ) → bad_case n text ≡ None → (k : ℕ) → k < n + 1 → is_right n (pieces text) k ≡ true
bad_case-right n text none k within = position-none (is_right n (pieces text)) (n + 1) k none within

-- a good name stands where there is one and it is above the one before it
pub is_good-true : (all : List (List ℕ)) (i : ℕ) → i + 1 < length all → (0 < i → slice_cmp nat_cmp (piece_at all (i - 1)) (piece_at all i) ≡ Less) → is_good all i ≡ true
is_good-true all i there above = grind (arith, nat_tests)

-- none stands where it is missing
pub is_good-missing : (all : List (List ℕ)) (i : ℕ) → length all ≤ i + 1 → is_good all i ≡ false
is_good-missing all i gone = grind (arith, nat_tests)

-- or where it is not above the one before it
pub is_good-falls : (all : List (List ℕ)) (i : ℕ) → 0 < i → is_lt (slice_cmp nat_cmp (piece_at all (i - 1)) (piece_at all i)) ≡ false → is_good all i ≡ false
is_good-falls all i later falls = grind (arith, nat_tests)

-- what a good name says
pub is_good-says : (all : List (List ℕ)) (i : ℕ) → is_good all i ≡ true → (i + 1 < length all) × (0 < i → slice_cmp nat_cmp (piece_at all (i - 1)) (piece_at all i) ≡ Less)
is_good-says all i good = (grind (arith, nat_tests), λ later. grind (arith, nat_tests))

-- a good index below n is right
pub is_right-below : (n : ℕ) (all : List (List ℕ)) (k : ℕ) (b : Bool) → k < n → is_good all k ≡ b → is_right n all k ≡ b
is_right-below n all k b within good = grind (arith, nat_tests)

-- at its end a table is right where nothing is left
pub is_right-end : (n : ℕ) (all : List (List ℕ)) → is_right n all n ≡ is_over all n
is_right-end n all = grind (arith, nat_tests)

-- an end at which a piece is left is none
pub is_over-left : (n : ℕ) (all parts : List (List ℕ)) → drop n all ≡ parts → 0 < length (join_with_byte 32 parts) → is_over all n ≡ false
is_over-left n all [] left some = absurd (omega arith)
is_over-left n all (x ∷ []) left some =
    let at = drop-at all [] x [] n left in
    let len : length (piece_at all n) ≡ length x = ap length at.1 in
    grind (arith, nat_tests, len)
is_over-left n all (x ∷ y ∷ ys) left some =
    let at = drop-at all (y ∷ ys) x [] n left in
    let len : length all ≡ n + 1 + (length ys + 1) = omega (arith, at.0) in
    grind (arith, nat_tests, len)

pub is_over-none : (n : ℕ) (all : List (List ℕ)) → drop n all ≡ [] ∷ [] → is_over all n ≡ true
is_over-none n all left =
    let at = drop-at all [] [] [] n left in
    let len : length (piece_at all n) ≡ 0 = ap length at.1 in
    grind (arith, nat_tests, at.0, len)
