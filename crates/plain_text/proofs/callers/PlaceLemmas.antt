-- Lemmas on the places of a text.
use Rattle.std.proofs.Common.{◌≡◌, ◌≢◌, ℕ, zero, suc, true, false, Bool, ◌+◌, ◌-◌, ◌<◌, ◌≤◌, List, Some, None, take, drop, [], ◌∷◌, ◌++◌, length, refl, ap, sym, ◌∙◌, arith, subst, take-append-drop, length-take-le, length-drop, ⊎_elim, zero-add, Option}
use Rattle.std.proofs.lemmas.Bool.{false≢true}
use Rattle.std.proofs.lemmas.Bool.{ltb-false, cases_lt}
use Rattle.std.specs.Prelude.{if◌then◌else◌, nat_lt, ◌==◌, is_some, unwrap_or, slice_range}
use Rattle.std.specs.Str.{chars, encode_utf8_all, all_scalars, IsCharBoundary, IsUtf8}
use Rattle.std.specs.Char.{len_utf8}
use Rattle.std.proofs.lemmas.Str.{len_utf8_bounds, encodes_same, encodes-append, encodes-chars, scalars-chars, IsUtf8-take, IsUtf8-drop, chars-encodes}
use Rattle.std.proofs.Math.Seq.{drop-append_seam}
use Rattle.std.proofs.lemmas.Bool.Decides.{nat_tests}
use Rattle.plain_text.specs.Text.{byte_len, gap_from, gap_of, is_place, place_of}
use Rattle.plain_text.proofs.callers.TextLemmas.{IsCharBoundary-place, length-encodes, length-encodes-take, chars-between, take-place, all_scalars-take, all_scalars-drop}

-- a gap whose place is the offset
pub record IsPlaced (text : List ℕ) (at gap : ℕ) : Type 0 where
  pub within : gap ≤ length text
  pub place : place_of text gap ≡ at
  pub of : gap_of text at ≡ gap

-- the gap of the bytes of some first characters
pub gap_from-seam : (gap : ℕ) (front back : List ℕ) → gap_from gap (front ++ back) (byte_len front) ≡ Some (gap + length front)
gap_from-seam gap [] [] = grind arith
gap_from-seam gap [] (c ∷ back) = grind arith
gap_from-seam gap (c ∷ front) back =
    let rest = gap_from-seam (gap + 1) front back in
    let wide = (len_utf8_bounds c).0 in
    let less : (len_utf8 c + byte_len front) - len_utf8 c ≡ byte_len front = omega arith in
    let next : gap + 1 + length front ≡ gap + (length front + 1) = omega arith in
    grind (arith, nat_tests)

some_else : (b : Bool) (o : Option ℕ) → is_some (if b then None else o) ≡ true → (b ≡ false) × (is_some o ≡ true)
some_else true o is = absurd (false≢true is)
some_else false o is = (refl, is)

gap_from-next : (gap c at : ℕ) (text : List ℕ) → at ≢ 0 → len_utf8 c ≤ at → gap_from gap (c ∷ text) at ≡ gap_from (gap + 1) text (at - len_utf8 c)
gap_from-next gap c at text some reaches = grind (arith, nat_tests)

pub place_from : (gap at : ℕ) (text : List ℕ) → is_some (gap_from gap text at) ≡ true →
    (n : ℕ) × (n ≤ length text) × (place_of text n ≡ at) × (gap_from gap text at ≡ Some (gap + n))
place_from gap zero [] is = (0, omega arith, refl, grind arith)
place_from gap (suc at) [] is = absurd (grind (arith, nat_tests))
place_from gap zero (c ∷ text) is = (0, omega arith, refl, grind arith)
place_from gap (suc at) (c ∷ text) is =
    let past : (suc at == 0) ≡ false = grind (arith, nat_tests) in
    let parts = some_else (nat_lt (suc at) (len_utf8 c)) (gap_from (gap + 1) text (suc at - len_utf8 c)) (rw past at is) in
    let reaches : len_utf8 c ≤ suc at = ltb-false _ _ parts.0 in
    let rest = place_from (gap + 1) (suc at - len_utf8 c) text parts.1 in
    let next : gap + 1 + rest.0 ≡ gap + suc rest.0 = omega arith in
    (suc rest.0, omega (arith, rest.1), omega (arith, rest.2), gap_from-next gap c (suc at) text (omega arith) reaches ∙ rest.3 ∙ ap Some next)

pub IsPlaced-from : (text : List ℕ) (at : ℕ) → is_place text at ≡ true → (gap : ℕ) × IsPlaced text at gap
IsPlaced-from text at is =
    let found = place_from 0 at text is in
    (found.0, record { within = found.1; place = found.2; of = ap (λ o. unwrap_or o 0) found.3 ∙ zero-add found.0 })

-- the boundaries of the bytes are the places
pub boundary-is_place : (text : List ℕ) (at : ℕ) → all_scalars text ≡ true → is_place text at ≡ true → IsCharBoundary (encode_utf8_all text) at
boundary-is_place text at each is =
    let found = IsPlaced-from text at is in
    subst (λ (k : ℕ). IsCharBoundary (encode_utf8_all text) k) found.1.place (IsCharBoundary-place text found.0 each)

pub is_place-boundary : (text : List ℕ) (at : ℕ) → all_scalars text ≡ true → IsCharBoundary (encode_utf8_all text) at → is_place text at ≡ true
is_place-boundary text at each boundary =
    let bs = encode_utf8_all text in
    let is_text : IsUtf8 bs = (text, (each, refl)) in
    let front = IsUtf8-take bs at is_text boundary in
    let back = IsUtf8-drop bs at is_text boundary in
    let joined : front.0 ++ back.0 ≡ text =
    encodes_same (front.0 ++ back.0) text (encodes-append front.0 back.0 ∙ cc (front.1.1, back.1.1, take-append-drop at bs)) in
    let long : byte_len front.0 ≡ at =
    sym (length-encodes front.0) ∙ ap length front.1.1 ∙ length-take-le at bs boundary.0 in
    subst (λ (t : List ℕ). is_place t at ≡ true) joined
    (subst (λ (k : ℕ). is_place (front.0 ++ back.0) k ≡ true) long (ap is_some (gap_from-seam 0 front.0 back.0)))

-- a test that holds exactly where another does
pub same_test : (a b : Bool) → (a ≡ true → b ≡ true) → (b ≡ true → a ≡ true) → a ≡ b
same_test true b to from = sym (to refl)
same_test false true to from = absurd (false≢true (from refl))
same_test false false to from = refl

-- the gaps of two offsets stand in the order of the offsets
pub place_of-rises_strictly : (text : List ℕ) (from to : ℕ) → from < to → to ≤ length text → place_of text from < place_of text to
place_of-rises_strictly [] from zero less within = absurd (omega arith)
place_of-rises_strictly [] from (suc to) less within = absurd (omega arith)
place_of-rises_strictly (c ∷ text) from zero less within = absurd (omega arith)
place_of-rises_strictly (c ∷ text) zero (suc to) less within = omega (arith, len_utf8_bounds c)
place_of-rises_strictly (c ∷ text) (suc from) (suc to) less within =
    omega (arith, place_of-rises_strictly text from to (omega arith) (omega arith))

pub gaps_rise : (text : List ℕ) (from to gap more : ℕ) → IsPlaced text from gap → IsPlaced text to more → from ≤ to → gap ≤ more
gaps_rise text from to gap more one other below =
    ⊎_elim (λ (less : more < gap). absurd (omega (arith, place_of-rises_strictly text more gap less one.within, one.place, other.place)))
    (λ (fine : gap ≤ more). fine) (cases_lt more gap)

-- how many characters the bytes between two places spell
pub between_places : (bs : List ℕ) (from to gap more : ℕ) → IsUtf8 bs → IsPlaced (chars bs) from gap → IsPlaced (chars bs) to more → from ≤ to →
    gap_of (chars bs) from + length (chars (slice_range bs from to)) ≡ gap_of (chars bs) to
between_places bs from to gap more is_text one other below =
    let rise = gaps_rise (chars bs) from to gap more one other below in
    let part : chars (slice_range bs from to) ≡ take (more - gap) (drop gap (chars bs)) =
    rw (← one.place, ← other.place) (chars-between bs gap more is_text rise) in
    rw (part, one.of, other.of)
    (omega (arith, other.within, length-take-le (more - gap) (drop gap (chars bs)) (omega (arith, length-drop gap (chars bs), other.within))))

-- the bytes left and right of a place spell the characters left and right of its gap
pub chars-take_place : (bs : List ℕ) (gap : ℕ) → IsUtf8 bs → chars (take (place_of (chars bs) gap) bs) ≡ take gap (chars bs)
chars-take_place bs gap is_text =
    ap chars (ap (λ b. take (place_of (chars bs) gap) b) (sym (encodes-chars bs is_text)) ∙ take-place (chars bs) gap) ∙
    chars-encodes (take gap (chars bs)) (all_scalars-take gap (chars bs) (scalars-chars bs is_text))

pub drop-place : (text : List ℕ) (gap : ℕ) → drop (place_of text gap) (encode_utf8_all text) ≡ encode_utf8_all (drop gap text)
drop-place text gap =
    rw (length-encodes-take text gap)
    (ap (λ bs. drop (length (encode_utf8_all (take gap text))) bs)
    (ap encode_utf8_all (sym (take-append-drop gap text)) ∙ encodes-append (take gap text) (drop gap text)) ∙
    drop-append_seam (encode_utf8_all (take gap text)) (encode_utf8_all (drop gap text)))

pub chars-drop_place : (bs : List ℕ) (gap : ℕ) → IsUtf8 bs → chars (drop (place_of (chars bs) gap) bs) ≡ drop gap (chars bs)
chars-drop_place bs gap is_text =
    ap chars (ap (λ b. drop (place_of (chars bs) gap) b) (sym (encodes-chars bs is_text)) ∙ drop-place (chars bs) gap) ∙
    chars-encodes (drop gap (chars bs)) (all_scalars-drop gap (chars bs) (scalars-chars bs is_text))
