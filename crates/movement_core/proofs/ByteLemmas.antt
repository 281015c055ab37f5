-- Boundaries of a line as gaps, and as offsets of bytes.
use Rattle.std.proofs.Common.{◌≡◌, ⊎_elim, ℕ, zero, suc, ◌+◌, ◌-◌, ◌<◌, ◌≤◌, true, List, [], ◌∷◌, ◌++◌, map, length, take, Some, refl, sym, ap, ap₂, subst, ◌∙◌, arith, length-append}
use Rattle.std.specs.Prelude.{encode_utf8_all, is_some, unwrap_or}
use Rattle.std.specs.List.{Contains, concat}
use Rattle.std.specs.Str.{chars, all_scalars, IsUtf8}
use Rattle.std.proofs.lemmas.Bool.{cases_lt}
use Rattle.std.proofs.lemmas.Str.{encodes-append, encodes_same, chars-encodes}
use Rattle.plain_text.specs.Text.{byte_len, gap_at, place_of}
use Rattle.plain_text.proofs.callers.TextLemmas.{gap_from-place, length-encodes, place_of-rises}
use Rattle.plain_text.proofs.callers.PlaceLemmas.{place_of-rises_strictly}
use Rattle.unicode_segmentation.specs.Grapheme.{is_grapheme_break}
use Rattle.unicode_segmentation.specs.Segments.{cut, segments}
use Rattle.unicode_segmentation.proofs.SegmentsLemmas.{concat-segments}
use Rattle.cluster_core.specs.Boundaries.{clusters_of, clusters_in, ends_from, IsBoundary, IsLeastAbove, IsGreatestBelow, HasNoneAbove, HasNoneBelow}
use Rattle.movement_core.specs.Inner.{IsGapOf, IsNextGap, IsGapUpTo}
use Rattle.movement_core.proofs.PlaceLemmas.{clusters-whole, ends_from-last, first, later, none_in, first_or_later, low-le, ends_from-rises, all_scalars-parts}

byte_len-append : (front back : List ℕ) → byte_len (front ++ back) ≡ byte_len front + byte_len back
byte_len-append [] back = omega arith
byte_len-append (c ∷ front) back = omega (arith, byte_len-append front back)

-- the place of a gap behind some first characters
byte_len-take_past : (front back : List ℕ) (n : ℕ) → length front ≤ n → byte_len (take n (front ++ back)) ≡ byte_len front + byte_len (take (n - length front) back)
byte_len-take_past [] back n le = let all : n - 0 ≡ n = omega arith in omega (arith, ap (λ m. byte_len (take m back)) all)
byte_len-take_past (c ∷ front) back zero le = absurd (omega arith)
byte_len-take_past (c ∷ front) back (suc n) le =
    let less : suc n - suc (length front) ≡ n - length front = omega arith in
    omega (arith, byte_len-take_past front back n (omega arith), ap (λ m. byte_len (take m back)) less)

byte_len-take_front : (front back : List ℕ) → byte_len (take (length front) (front ++ back)) ≡ byte_len front
byte_len-take_front [] back = refl
byte_len-take_front (c ∷ front) back = omega (arith, byte_len-take_front front back)

-- an end of pieces of characters is one of pieces of bytes
end-to_bytes : (at byte : ℕ) (pieces : List (List ℕ)) (n : ℕ) → Contains (ends_from at pieces) n →
    Contains (ends_from byte (map encode_utf8_all pieces)) (byte + byte_len (take (n - at) (concat pieces)))
end-to_bytes at byte [] n found = absurd (none_in n found)
end-to_bytes at byte (piece ∷ pieces) n found =
    let long = length-encodes piece in
    let others = ends_from (byte + length (encode_utf8_all piece)) (map encode_utf8_all pieces) in
    ⊎_elim
    (λ here.
    let count : n - at ≡ length piece = omega arith in
    let place : byte + length (encode_utf8_all piece) ≡ byte + byte_len (take (n - at) (piece ++ concat pieces)) =
    omega (arith, long, byte_len-take_front piece (concat pieces), ap (λ m. byte_len (take m (piece ++ concat pieces))) count) in
    subst (Contains ((byte + length (encode_utf8_all piece)) ∷ others)) place (first _ others))
    (λ past.
    let ge = low-le _ _ (ends_from-rises (at + length piece) pieces) n past in
    let count : n - (at + length piece) ≡ n - at - length piece = omega arith in
    let place : byte + length (encode_utf8_all piece) + byte_len (take (n - (at + length piece)) (concat pieces)) ≡ byte + byte_len (take (n - at) (piece ++ concat pieces)) =
    omega (arith, long, byte_len-take_past piece (concat pieces) (n - at) (omega arith), ap (λ m. byte_len (take m (concat pieces))) count) in
    later _ others _ (subst (Contains others) place (end-to_bytes (at + length piece) (byte + length (encode_utf8_all piece)) pieces n past)))
    (first_or_later _ _ n found)

-- and the other way round
end-from_bytes : (at byte : ℕ) (pieces : List (List ℕ)) (b : ℕ) → Contains (ends_from byte (map encode_utf8_all pieces)) b →
    (n : ℕ) × Contains (ends_from at pieces) n × (b ≡ byte + byte_len (take (n - at) (concat pieces))) × (n ≤ at + length (concat pieces))
end-from_bytes at byte [] b found = absurd (none_in b found)
end-from_bytes at byte (piece ∷ pieces) b found =
    let long = length-encodes piece in
    let whole = length-append piece (concat pieces) in
    ⊎_elim
    (λ here.
    let count : at + length piece - at ≡ length piece = omega arith in
    let place : b ≡ byte + byte_len (take (at + length piece - at) (piece ++ concat pieces)) =
    omega (arith, here, long, byte_len-take_front piece (concat pieces), ap (λ m. byte_len (take m (piece ++ concat pieces))) count) in
    (at + length piece, first _ _, place, omega (arith, whole)))
    (λ past.
    let rest = end-from_bytes (at + length piece) (byte + length (encode_utf8_all piece)) pieces b past in
    let n = rest.0 in
    let ge = low-le _ _ (ends_from-rises (at + length piece) pieces) n rest.1 in
    let count : n - (at + length piece) ≡ n - at - length piece = omega arith in
    let there = rest.2 in
    let place : b ≡ byte + byte_len (take (n - at) (piece ++ concat pieces)) =
    omega (arith, there, long, byte_len-take_past piece (concat pieces) (n - at) (omega arith), ap (λ m. byte_len (take m (concat pieces))) count) in
    let inside = rest.3 in
    (n, later _ _ n rest.1, place, omega (arith, whole)))
    (first_or_later _ _ b found)

-- ---- the clusters of a line, as characters and as bytes

encodes-concat : (pieces : List (List ℕ)) → encode_utf8_all (concat pieces) ≡ concat (map encode_utf8_all pieces)
encodes-concat [] = refl
encodes-concat (piece ∷ pieces) = encodes-append piece (concat pieces) ∙ ap (λ bs. encode_utf8_all piece ++ bs) (encodes-concat pieces)

chars-encoded : (pieces : List (List ℕ)) → all_scalars (concat pieces) ≡ true → map chars (map encode_utf8_all pieces) ≡ pieces
chars-encoded [] scalars = refl
chars-encoded (piece ∷ pieces) scalars =
    let parts = all_scalars-parts piece (concat pieces) scalars in
    ap₂ (λ p ps. p ∷ ps) (chars-encodes piece parts.0) (chars-encoded pieces parts.1)

record AreClusters (line : List ℕ) : Type 0 where
  pub pieces : List (List ℕ)
  pub bytes : clusters_of (encode_utf8_all line) ≡ map encode_utf8_all pieces
  pub characters : clusters_in line ≡ pieces
  pub whole : concat pieces ≡ line

AreClusters-line : (line : List ℕ) → all_scalars line ≡ true → AreClusters line
unfolding segments
AreClusters-line line scalars =
    let bytes = encode_utf8_all line in
    let pieces = cut (is_grapheme_break true) [] (chars bytes) [] in
    let is_text : IsUtf8 bytes = (line, (scalars, refl)) in
    let joined : concat (map encode_utf8_all pieces) ≡ bytes = concat-segments (is_grapheme_break true) bytes is_text in
    let whole : concat pieces ≡ line = encodes_same (concat pieces) line (encodes-concat pieces ∙ joined) in record {
      pieces = pieces;
      bytes = refl;
      characters = chars-encoded pieces (subst (λ t. all_scalars t ≡ true) (sym whole) scalars);
      whole = whole;
    }

-- A BOUNDARY OF A LINE, as a gap and as an offset
pub boundary-to_bytes : (line : List ℕ) (n : ℕ) → all_scalars line ≡ true → IsGapOf line n → IsBoundary (encode_utf8_all line) (place_of line n)
boundary-to_bytes line n scalars found =
    let are = AreClusters-line line scalars in
    let in_pieces : Contains (0 ∷ ends_from 0 are.pieces) n = subst (λ cs. Contains (0 ∷ ends_from 0 cs) n) are.characters found in
    let all : n - 0 ≡ n = omega arith in
    subst (λ ps. Contains (0 ∷ ends_from 0 ps) (place_of line n)) (sym are.bytes)
    (⊎_elim
    (λ here. subst (λ m. Contains (0 ∷ ends_from 0 (map encode_utf8_all are.pieces)) (place_of line m)) here (first 0 _))
    (λ past.
    let place : 0 + byte_len (take (n - 0) (concat are.pieces)) ≡ place_of line n =
    omega (arith, ap (λ m. byte_len (take m (concat are.pieces))) all, ap (λ t. place_of t n) are.whole) in
    later 0 _ _ (subst (Contains (ends_from 0 (map encode_utf8_all are.pieces))) place (end-to_bytes 0 0 are.pieces n past)))
    (first_or_later 0 _ n in_pieces))

pub boundary-from_bytes : (line : List ℕ) (b : ℕ) → all_scalars line ≡ true → IsBoundary (encode_utf8_all line) b →
    (n : ℕ) × IsGapOf line n × (b ≡ place_of line n) × (n ≤ length line)
boundary-from_bytes line b scalars found =
    let are = AreClusters-line line scalars in
    let in_pieces : Contains (0 ∷ ends_from 0 (map encode_utf8_all are.pieces)) b = subst (λ ps. Contains (0 ∷ ends_from 0 ps) b) are.bytes found in
    ⊎_elim
    (λ here. (0, first 0 _, sym here, omega arith))
    (λ past.
    let end = end-from_bytes 0 0 are.pieces b past in
    let n = end.0 in
    let all : n - 0 ≡ n = omega arith in
    let is = end.2 in
    let inside = end.3 in
    let place : b ≡ place_of line n =
    omega (arith, is, ap (λ m. byte_len (take m (concat are.pieces))) all, ap (λ t. place_of t n) are.whole) in
    (n, subst (λ cs. Contains (0 ∷ ends_from 0 cs) n) (sym are.characters) (later 0 _ n end.1), place, omega (arith, ap length are.whole)))
    (first_or_later 0 _ b in_pieces)

-- places keep the order of gaps
place-lt : (line : List ℕ) (a b : ℕ) → a ≤ length line → place_of line a < place_of line b → a < b
place-lt line a b inside less =
    ⊎_elim (λ (fine : a < b). fine) (λ (ge : b ≤ a). absurd (let le = place_of-rises line b a ge in omega arith)) (cases_lt a b)

-- the least boundary above a gap, and the greatest one not above it
pub next-gap : (line : List ℕ) (at b : ℕ) → all_scalars line ≡ true → at ≤ length line → IsLeastAbove (encode_utf8_all line) (place_of line at) b →
    (n : ℕ) × (b ≡ place_of line n) × IsNextGap line at n
next-gap line at b scalars inside is =
    let found = boundary-from_bytes line b scalars is.boundary in
    let n = found.0 in
    let place = found.2 in
    let above = is.above in (
      n,
      place,
      record {
        gap = found.1;
        inside = found.3;
        above = place-lt line at n inside (omega arith);
        least = λ other gap past in_line.
            let le = is.least (place_of line other) (boundary-to_bytes line other scalars gap) (place_of-rises_strictly line at other past in_line) in
            ⊎_elim (λ (less : other < n). absurd (let lt = place_of-rises_strictly line other n less found.3 in omega arith)) (λ (fine : n ≤ other). fine) (cases_lt other n);
      },
    )

pub gap-up_to : (line : List ℕ) (at b : ℕ) → all_scalars line ≡ true → at ≤ length line → IsGreatestBelow (encode_utf8_all line) (place_of line at + 1) b →
    (n : ℕ) × (b ≡ place_of line n) × IsGapUpTo line at n
gap-up_to line at b scalars inside is =
    let found = boundary-from_bytes line b scalars is.boundary in
    let n = found.0 in
    let place = found.2 in
    let below = is.below in (
      n,
      place,
      record {
        gap = found.1;
        inside = found.3;
        by_then = ⊎_elim (λ (past : at < n). absurd (let lt = place_of-rises_strictly line at n past found.3 in omega arith)) (λ (fine : n ≤ at). fine) (cases_lt at n);
        greatest = λ other gap le in_line.
            let low = place_of-rises line other at le in
            let least = is.greatest (place_of line other) (boundary-to_bytes line other scalars gap) (omega arith) in
            ⊎_elim (λ (past : n < other). absurd (let lt = place_of-rises_strictly line n other past (omega arith) in omega arith)) (λ (fine : other ≤ n). fine) (cases_lt n other);
      },
    )

-- ---- what a look at the bytes of a line finds

zero-plus : (n : ℕ) → 0 + n ≡ n
zero-plus n = omega arith

place-gap : (line : List ℕ) (n b : ℕ) → n ≤ length line → b ≡ place_of line n → gap_at line b ≡ Some n
place-gap line n b inside is = ap (gap_at line) is ∙ gap_from-place 0 line n inside ∙ ap Some (zero-plus n)

the_found : (n found : ℕ) → Some n ≡ Some found → n ≡ found
the_found n found same = ap (λ o. unwrap_or o n) same

module _ (line bytes : List ℕ) (at : ℕ) (utf8 : bytes ≡ encode_utf8_all line) (scalars : all_scalars line ≡ true) (inside : at ≤ length line) where
  pub next-place : (b : ℕ) → IsLeastAbove bytes (place_of line at) b → is_some (gap_at line b) ≡ true
  next-place b is =
      let next = next-gap line at b scalars inside (subst (λ bs. IsLeastAbove bs (place_of line at) b) utf8 is) in
      ap is_some (place-gap line next.0 b next.2.inside next.1)

  pub next-found : (b found : ℕ) → IsLeastAbove bytes (place_of line at) b → gap_at line b ≡ Some found → IsNextGap line at found
  next-found b found is gap =
      let next = next-gap line at b scalars inside (subst (λ bs. IsLeastAbove bs (place_of line at) b) utf8 is) in
      subst (IsNextGap line at) (the_found next.0 found (sym (place-gap line next.0 b next.2.inside next.1) ∙ gap)) next.2

  pub up_to-place : (b : ℕ) → IsGreatestBelow bytes (place_of line at + 1) b → is_some (gap_at line b) ≡ true
  up_to-place b is =
      let up_to = gap-up_to line at b scalars inside (subst (λ bs. IsGreatestBelow bs (place_of line at + 1) b) utf8 is) in
      ap is_some (place-gap line up_to.0 b up_to.2.inside up_to.1)

  pub up_to-found : (b found : ℕ) → IsGreatestBelow bytes (place_of line at + 1) b → gap_at line b ≡ Some found → IsGapUpTo line at found
  up_to-found b found is gap =
      let up_to = gap-up_to line at b scalars inside (subst (λ bs. IsGreatestBelow bs (place_of line at + 1) b) utf8 is) in
      subst (IsGapUpTo line at) (the_found up_to.0 found (sym (place-gap line up_to.0 b up_to.2.inside up_to.1) ∙ gap)) up_to.2

  pub up_to-end : at ≡ length line → IsGapUpTo line at at
  up_to-end all = record {
    gap = subst (IsGapOf line) (sym all) end-is_gap;
    inside = inside;
    by_then = omega arith;
    greatest = λ other gap le fits. le;
  }
    where
      end-is_gap : IsGapOf line (length line)
      end-is_gap =
          let long : 0 + length (concat (clusters_in line)) ≡ length line = omega (arith, ap length (clusters-whole line scalars)) in
          subst (Contains (0 ∷ ends_from 0 (clusters_in line))) long (ends_from-last 0 (clusters_in line))

  -- below the next character's place is not past this one's
  pub below-next : (b : ℕ) → at < length line → IsGreatestBelow bytes (place_of line (at + 1)) b → IsGreatestBelow bytes (place_of line at + 1) b
  below-next b less is =
      let found = boundary-from_bytes line b scalars (subst (λ bs. IsBoundary bs b) utf8 is.boundary) in
      let n = found.0 in
      let place = found.2 in
      let below = is.below in
      let fits = found.3 in
      let lt = place-lt line n (at + 1) fits (omega arith) in
      let le = place_of-rises line n at (omega arith) in
      let more = place_of-rises_strictly line at (at + 1) (omega arith) (omega arith) in record {
        boundary = is.boundary;
        below = omega arith;
        greatest = λ other boundary lower. is.greatest other boundary (omega arith);
      }

  pub next-some : at < length line → HasNoneAbove bytes (place_of line at) → ⊥
  next-some less none =
      let whole = clusters-whole line scalars in
      let long : 0 + length (concat (clusters_in line)) ≡ length line = omega (arith, ap length whole) in
      let end : IsGapOf line (length line) = subst (Contains (0 ∷ ends_from 0 (clusters_in line))) long (ends_from-last 0 (clusters_in line)) in
      let boundary = subst (λ bs. IsBoundary bs (place_of line (length line))) (sym utf8) (boundary-to_bytes line (length line) scalars end) in
      let le = none (place_of line (length line)) boundary in
      let lt = place_of-rises_strictly line at (length line) less (omega arith) in omega arith

  pub none-next : at < length line → HasNoneBelow bytes (place_of line (at + 1)) → ⊥
  none-next less none =
      let more = place_of-rises_strictly line at (at + 1) (omega arith) (omega arith) in
      let le = none 0 (first 0 _) in omega arith
