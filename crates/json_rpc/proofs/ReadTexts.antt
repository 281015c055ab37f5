-- The texts that are read out of UTF-8 are UTF-8: first the content of a string, then the tokens.
use Rattle.std.proofs.Common.{◌≡◌, ℕ, ◌+◌, ◌<◌, ◌≤◌, true, false, cond, ◌&&◌, ◌||◌, ◌==◌, nat_lt, nat_le, List, [], ◌∷◌, ◌++◌, length, drop, get_or, Option, Some, None, option_and_then, IsUtf8, inl, inr, refl, sym, ◌∙◌, subst, arith, append_assoc, append-nil, length-append}
use Rattle.std.proofs.Math.Seq.{get_or-append_seam, take-append_seam, drop-append_seam}
use Rattle.std.proofs.Math.Utf8.{low_scalar}
use Rattle.std.proofs.lemmas.Bool.{cond_both, and_parts, or_cases, eqb-true, ltb-true, ltb-false, leb-false, le-leb, lt-ltb, cases_lt, and_from, and_cases}
use Rattle.std.proofs.lemmas.Str.{IsUtf8-append, IsUtf8-take, IsUtf8-drop, IsUtf8-encode, IsCharBoundary-before_ascii, IsCharBoundary-after_ascii, encode_ascii}
use Rattle.std.specs.Char.{digit_value, is_digit, encode_utf8, IsScalar}
use Rattle.std.specs.Prelude.{⊤}
use Rattle.json.specs.Text.{code_unit, short_escape, is_high_surrogate, is_low_surrogate, surrogate_pair, plain, after_backslash, after_u, after_high, prepend, content}

-- after the bytes `before`, what is there is UTF-8
abbrev pub Fits : List ℕ → Option (List ℕ) → Type 0
Fits before None = ⊤
Fits before (Some s) = IsUtf8 (before ++ s)

Fits-prepend : (before bytes : List ℕ) (o : Option (List ℕ)) → Fits (before ++ bytes) o → Fits before (prepend bytes o)
Fits-prepend before bytes None h = tt
Fits-prepend before bytes (Some s) h = subst IsUtf8 (append_assoc before bytes s) h

Fits-after : (before : List ℕ) (o : Option (List ℕ)) → IsUtf8 before → Fits [] o → Fits before o
Fits-after before None h k = tt
Fits-after before (Some s) h k = IsUtf8-append before s h k

IsUtf8-ascii : (x : ℕ) → x < 128 → IsUtf8 (x ∷ [])
IsUtf8-ascii x small = subst IsUtf8 (encode_ascii x small) (IsUtf8-encode x (low_scalar x (omega arith)))

drop_past : (before : List ℕ) (x : ℕ) (xs : List ℕ) → drop (length before + 1) (before ++ x ∷ xs) ≡ xs
drop_past before x xs =
    let len : length (before ++ x ∷ []) ≡ length before + 1 = length-append before (x ∷ []) in
    (λ i. drop (sym len i) (sym (append_assoc before (x ∷ []) xs) i)) ∙ drop-append_seam (before ++ x ∷ []) xs

-- a text may be cut on both sides of an ASCII byte
pub around : (before : List ℕ) (x : ℕ) (xs : List ℕ) → x < 128 → IsUtf8 (before ++ x ∷ xs) → IsUtf8 before × IsUtf8 xs
around before x xs small u =
    let within : length before < length (before ++ x ∷ xs) = omega (arith, length-append before (x ∷ xs)) in
    let ascii : get_or (before ++ x ∷ xs) (length before) 0 < 128 = subst (λ n. n < 128) (sym (get_or-append_seam before x xs 0)) small in (
      subst IsUtf8 (take-append_seam before (x ∷ xs)) (IsUtf8-take _ (length before) u (IsCharBoundary-before_ascii _ (length before) within ascii)),
      subst IsUtf8 (drop_past before x xs) (IsUtf8-drop _ (length before + 1) u (IsCharBoundary-after_ascii _ (length before) u within ascii)),
    )

past : (x : ℕ) (xs : List ℕ) → x < 128 → IsUtf8 (x ∷ xs) → IsUtf8 xs
past x xs small u = (around [] x xs small u).1

-- what follows an escape, and what it stands for
abbrev EscapesTo : ℕ → Option ℕ → Type 0
EscapesTo x None = ⊤
EscapesTo x (Some c) = (x < 128) × (c < 128)

escape_at : (x k c : ℕ) → k < 128 → c < 128 → (x == k) ≡ true → (x < 128) × (c < 128)
escape_at x k c small fits e = let same = eqb-true x k e in (omega arith, fits)

itself_at : (x k : ℕ) → k < 128 → (x == k) ≡ true → (x < 128) × (x < 128)
itself_at x k small e = let same = eqb-true x k e in (omega arith, omega arith)

EscapesTo-short_escape : (x : ℕ) → EscapesTo x (short_escape x)
unfolding short_escape
EscapesTo-short_escape x =
    let quoted : ((x == 34) || (x == 92)) ≡ true → (x < 128) × (x < 128) =
    λ e. elim (or_cases (x == 34) (x == 92) e) [ inl f ↦ itself_at x 34 (omega arith) f | inr f ↦ itself_at x 92 (omega arith) f ] in
    let itself : ((x == 34) || (x == 92) || (x == 47)) ≡ true → (x < 128) × (x < 128) =
    λ e. elim (or_cases ((x == 34) || (x == 92)) (x == 47) e) [ inl f ↦ quoted f | inr f ↦ itself_at x 47 (omega arith) f ] in
    cond_both ((x == 34) || (x == 92) || (x == 47)) _ _ (EscapesTo x) itself
    (λ _. cond_both (x == 98) _ _ (EscapesTo x) (escape_at x 98 8 (omega arith) (omega arith))
    (λ _. cond_both (x == 102) _ _ (EscapesTo x) (escape_at x 102 12 (omega arith) (omega arith))
    (λ _. cond_both (x == 110) _ _ (EscapesTo x) (escape_at x 110 10 (omega arith) (omega arith))
    (λ _. cond_both (x == 114) _ _ (EscapesTo x) (escape_at x 114 13 (omega arith) (omega arith))
    (λ _. cond_both (x == 116) _ _ (EscapesTo x) (escape_at x 116 9 (omega arith) (omega arith)) (λ _. tt))))))

no_digit : (x : ℕ) → 128 ≤ x → digit_value x < 16 → ⊥
no_digit x large small = grind arith

hex_is_ascii : (x : ℕ) → is_digit x 16 ≡ true → (x < 128) × (digit_value x < 16)
hex_is_ascii x e =
    let value : digit_value x < 16 = ltb-true (digit_value x) 16 e in
    elim (cases_lt x 128) [ inl small ↦ (small, value) | inr large ↦ absurd (no_digit x large value) ]

-- four hex digits are ASCII and spell less than 2^16
abbrev Spells : ℕ → ℕ → ℕ → ℕ → Option ℕ → Type 0
Spells a b c d None = ⊤
Spells a b c d (Some u) = (a < 128) × (b < 128) × (c < 128) × (d < 128) × (u < 65536)

Spells-code_unit : (a b c d : ℕ) → Spells a b c d (code_unit a b c d)
unfolding code_unit
Spells-code_unit a b c d =
    cond_both (is_digit a 16 && is_digit b 16 && is_digit c 16 && is_digit d 16) _ _ (Spells a b c d) (λ e.
    let three = and_parts _ _ e in
    let two = and_parts _ _ three.0 in
    let one = and_parts _ _ two.0 in
    let p = hex_is_ascii a one.0 in
    let q = hex_is_ascii b one.1 in
    let r = hex_is_ascii c two.1 in
    let s = hex_is_ascii d three.1 in
    (p.0, q.0, r.0, s.0, omega arith)) (λ _. tt)

high_scalar : (u : ℕ) → 57344 ≤ u → u < 1114112 → IsScalar u
high_scalar u above below =
    cond_both (nat_lt u 55296) true (nat_le 57344 u && nat_lt u 1114112) (λ b. b ≡ true) (λ _. refl) (λ _. and_from (nat_le 57344 u) (nat_lt u 1114112) (le-leb _ _ above) (lt-ltb _ _ below))

one_scalar : (u : ℕ) → u < 65536 → is_high_surrogate u ≡ false → is_low_surrogate u ≡ false → IsScalar u
one_scalar u small high low = elim (and_cases (nat_le 0xd800 u) (nat_lt u 0xdc00) high) [
  | inl below ↦ low_scalar u (leb-false 0xd800 u below)
  | inr above ↦ elim (and_cases (nat_le 0xdc00 u) (nat_lt u 0xe000) low) [
    | inl under ↦ absurd (let p = ltb-false u 0xdc00 above in let q = leb-false 0xdc00 u under in omega arith)
    | inr over ↦ high_scalar u (ltb-false u 0xe000 over) (omega arith)
  ]
]

pair_scalar : (h l : ℕ) → is_high_surrogate h ≡ true → is_low_surrogate l ≡ true → IsScalar (surrogate_pair h l)
pair_scalar h l high low =
    let p = and_parts (nat_le 0xd800 h) (nat_lt h 0xdc00) high in
    let q = and_parts (nat_le 0xdc00 l) (nat_lt l 0xe000) low in
    let a = ltb-true h 0xdc00 p.1 in
    let b = ltb-true l 0xe000 q.1 in
    high_scalar (surrogate_pair h l) (omega arith) (omega arith)

escaped : (x : ℕ) (xs : List ℕ) (o : Option ℕ) → EscapesTo x o → IsUtf8 (x ∷ xs) → ((c : ℕ) → IsUtf8 (c ∷ xs) → Fits (c ∷ []) (content plain xs))
    → Fits [] (option_and_then (λ c. prepend (c ∷ []) (content plain xs)) o)
escaped x xs None h u more = tt
escaped x xs (Some c) h u more = Fits-prepend [] (c ∷ []) _ (more c (IsUtf8-append (c ∷ []) xs (IsUtf8-ascii c h.1) (past x xs h.0 u)))

past_four : (a b c d : ℕ) (xs : List ℕ) → a < 128 → b < 128 → c < 128 → d < 128 → IsUtf8 (a ∷ b ∷ c ∷ d ∷ xs) → IsUtf8 xs
past_four a b c d xs p q r s u = past d xs s (past c _ r (past b _ q (past a _ p u)))

spelled : (a b c d : ℕ) (xs : List ℕ) (o : Option ℕ) → Spells a b c d o → IsUtf8 (a ∷ b ∷ c ∷ d ∷ xs) → ((n : ℕ) → IsUtf8 (encode_utf8 n ++ xs) → Fits (encode_utf8 n) (content plain xs))
    → ((n : ℕ) → is_high_surrogate n ≡ true → IsUtf8 xs → Fits [] (content (after_high n) xs))
    → Fits [] (option_and_then (λ n. cond (is_high_surrogate n) (content (after_high n) xs) (cond (is_low_surrogate n) None (prepend (encode_utf8 n) (content plain xs)))) o)
spelled a b c d xs None h u one two = tt
spelled a b c d xs (Some n) h u one two =
    let rest = past_four a b c d xs h.0 h.1 h.2 h.3 u in
    cond_both (is_high_surrogate n) _ _ (Fits []) (λ high. two n high rest)
    (λ high. cond_both (is_low_surrogate n) None _ (Fits []) (λ _. tt) (λ low. Fits-prepend [] (encode_utf8 n) _ (one n (IsUtf8-append _ xs (IsUtf8-encode n (one_scalar n h.4 high low)) rest))))

paired : (a b c d : ℕ) (xs : List ℕ) (high : ℕ) → is_high_surrogate high ≡ true → (o : Option ℕ) → Spells a b c d o → IsUtf8 (a ∷ b ∷ c ∷ d ∷ xs)
    → ((n : ℕ) → IsUtf8 (encode_utf8 n ++ xs) → Fits (encode_utf8 n) (content plain xs))
    → Fits [] (option_and_then (λ l. cond (is_low_surrogate l) (prepend (encode_utf8 (surrogate_pair high l)) (content plain xs)) None) o)
paired a b c d xs high is None h u one = tt
paired a b c d xs high is (Some l) h u one =
    let rest = past_four a b c d xs h.0 h.1 h.2 h.3 u in
    let n = surrogate_pair high l in
    cond_both (is_low_surrogate l) _ None (Fits []) (λ low. Fits-prepend [] (encode_utf8 n) _ (one n (IsUtf8-append _ xs (IsUtf8-encode n (pair_scalar high l is low)) rest))) (λ _. tt)

-- the content of a string in a text, after the bytes of it that were read
mutual
  unfolding content

  pub Fits-plain : (xs before : List ℕ) → IsUtf8 (before ++ xs) → Fits before (content plain xs)
  Fits-plain [] before u = tt
  Fits-plain (x ∷ xs) before u =
      cond_both (x == 34) _ _ (Fits before) (λ e. let small = eqb-true x 34 e in subst IsUtf8 (sym (append-nil before)) (around before x xs (omega arith) u).0)
      (λ _. cond_both (x == 92) _ _ (Fits before) (λ e. let small = eqb-true x 92 e in let parts = around before x xs (omega arith) u in Fits-after before _ parts.0 (Fits-after_backslash xs parts.1))
      (λ _. cond_both (nat_lt x 32) None _ (Fits before) (λ _. tt)
      (λ _. Fits-prepend before (x ∷ []) _ (Fits-plain xs (before ++ x ∷ []) (subst IsUtf8 (sym (append_assoc before (x ∷ []) xs)) u)))))

  Fits-after_backslash : (xs : List ℕ) → IsUtf8 xs → Fits [] (content after_backslash xs)
  Fits-after_backslash [] u = tt
  Fits-after_backslash (x ∷ xs) u =
      cond_both (x == 117) _ _ (Fits []) (λ e. let small = eqb-true x 117 e in Fits-after_u xs (past x xs (omega arith) u))
      (λ _. escaped x xs (short_escape x) (EscapesTo-short_escape x) u (λ c. Fits-plain xs (c ∷ [])))

  Fits-after_u : (xs : List ℕ) → IsUtf8 xs → Fits [] (content after_u xs)
  Fits-after_u [] u = tt
  Fits-after_u (a ∷ []) u = tt
  Fits-after_u (a ∷ b ∷ []) u = tt
  Fits-after_u (a ∷ b ∷ c ∷ []) u = tt
  Fits-after_u (a ∷ b ∷ c ∷ d ∷ xs) u = spelled a b c d xs (code_unit a b c d) (Spells-code_unit a b c d) u (λ n. Fits-plain xs (encode_utf8 n)) (Fits-after_high xs)

  Fits-after_high : (xs : List ℕ) (h : ℕ) → is_high_surrogate h ≡ true → IsUtf8 xs → Fits [] (content (after_high h) xs)
  Fits-after_high [] h high u = tt
  Fits-after_high (s ∷ []) h high u = tt
  Fits-after_high (s ∷ t ∷ []) h high u = tt
  Fits-after_high (s ∷ t ∷ a ∷ []) h high u = tt
  Fits-after_high (s ∷ t ∷ a ∷ b ∷ []) h high u = tt
  Fits-after_high (s ∷ t ∷ a ∷ b ∷ c ∷ []) h high u = tt
  Fits-after_high (s ∷ t ∷ a ∷ b ∷ c ∷ d ∷ xs) h high u =
      cond_both ((s == 92) && (t == 117)) _ None (Fits []) (λ e.
      let marks = and_parts (s == 92) (t == 117) e in
      let first = eqb-true s 92 marks.0 in
      let second = eqb-true t 117 marks.1 in
      paired a b c d xs h high (code_unit a b c d) (Spells-code_unit a b c d) (past t _ (omega arith) (past s _ (omega arith) u)) (λ n. Fits-plain xs (encode_utf8 n))) (λ _. tt)
