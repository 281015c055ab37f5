-- Lemmas on the clusters of a line as characters, and on the columns between two gaps.
use Rattle.std.proofs.Common.{◌≡◌, ◌⊎◌, ℕ, zero, suc, ◌+◌, ◌-◌, ◌<◌, ◌≤◌, true, List, [], ◌∷◌, ◌++◌, length, map, take, drop, refl, sym, ap, ap₂, subst, ◌∙◌, inl, inr, arith, length-append, take_at, min}
use Rattle.std.specs.Prelude.{encode_utf8_all, slice_range}
use Rattle.std.specs.List.{concat, fold}
use Rattle.std.specs.Str.{chars, IsUtf8}
use Rattle.std.proofs.lemmas.Bool.{cases_lt}
use Rattle.std.proofs.lemmas.List.{take_all, drop_all, length-drop}
use Rattle.std.proofs.lemmas.Str.{encodes-append, encodes-chars, encodes_same, chars_from_encodes, length-le-encodes, IsUtf8-take, IsCharBoundary-at_seam}
use Rattle.plain_text.specs.Text.{byte_len, place_of}
use Rattle.plain_text.proofs.callers.TextLemmas.{length-encodes}
use Rattle.unicode_segmentation.specs.Grapheme.{is_grapheme_break}
use Rattle.unicode_segmentation.specs.Segments.{cut, segments}
use Rattle.unicode_segmentation.proofs.SegmentsLemmas.{concat-segments}
use Rattle.cluster_core.specs.Boundaries.{clusters_of, clusters_in}
use Rattle.cluster_core.specs.Columns.{column_after, clipped, columns_between}
use Rattle.cluster_core.proofs.BoundaryLemmas.{IsUtf8-past}

-- a text has no more characters than bytes
pub chars_few : (bytes : List ℕ) → IsUtf8 bytes → length (chars bytes) ≤ length bytes
chars_few bytes u = subst (λ (bs : List ℕ). length (chars bytes) ≤ length bs) (encodes-chars bytes u) (length-le-encodes (chars bytes))

-- ---- the clusters of a line are the line

encodes-concat : (pieces : List (List ℕ)) → encode_utf8_all (concat pieces) ≡ concat (map encode_utf8_all pieces)
encodes-concat [] = refl
encodes-concat (piece ∷ pieces) = encodes-append piece (concat pieces) ∙ ap (λ bs. encode_utf8_all piece ++ bs) (encodes-concat pieces)

pub chars-encoded : (pieces : List (List ℕ)) → IsUtf8 (concat (map encode_utf8_all pieces)) → map chars (map encode_utf8_all pieces) ≡ pieces
chars-encoded [] u = refl
chars-encoded (piece ∷ pieces) u =
    let front = encode_utf8_all piece in
    let back = concat (map encode_utf8_all pieces) in
    let rest : IsUtf8 back = IsUtf8-past piece back u in
    let left : IsUtf8 (take (length front) (front ++ back)) =
    IsUtf8-take (front ++ back) (length front) u (IsCharBoundary-at_seam (front ++ back) front back refl rest) in
    let own : IsUtf8 front = subst IsUtf8 (take_at front back (length front) refl) left in
    ap₂ (λ (p : List ℕ) (ps : List (List ℕ)). p ∷ ps) (sym (chars_from_encodes piece front own refl)) (chars-encoded pieces rest)

pub concat-clusters : (bytes : List ℕ) → IsUtf8 bytes → concat (map chars (clusters_of bytes)) ≡ chars bytes
unfolding segments
concat-clusters bytes u =
    let pieces = cut (is_grapheme_break true) [] (chars bytes) [] in
    let whole : concat (map encode_utf8_all pieces) ≡ bytes = concat-segments (is_grapheme_break true) bytes u in
    ap concat (chars-encoded pieces (subst IsUtf8 (sym whole) u)) ∙
    encodes_same (concat pieces) (chars bytes) (encodes-concat pieces ∙ whole ∙ sym (encodes-chars bytes u))

pub clusters_in-chars : (bytes : List ℕ) → IsUtf8 bytes → clusters_in (chars bytes) ≡ map chars (clusters_of bytes)
clusters_in-chars bytes u = ap (λ bs. map chars (clusters_of bs)) (encodes-chars bytes u)

-- ---- what stands between two gaps

pub slice_range-min : (text : List ℕ) (from to low high : ℕ) → low ≡ min from (length text) → high ≡ min to (length text) →
    take (high - low) (drop low text) ≡ slice_range text from to
slice_range-min text from to low high at_low at_high = elim (cases_lt (length text) from) [
  | inl past ↦
      let end : low ≡ length text = omega arith in
      ap (take (high - low)) (drop_all low text (omega arith)) ∙ take-nil (high - low) ∙ sym (take-nil (to - from)) ∙
      ap (take (to - from)) (sym (drop_all from text (omega arith)))
  | inr inside ↦
      let same : low ≡ from = omega arith in
      ap₂ (λ n k. take n (drop k text)) (λ i. high - same i) same ∙ enough (cases_lt (length text) to)
]
  where
    take-nil : (n : ℕ) → take {A = ℕ} n [] ≡ []
    take-nil zero = refl
    take-nil (suc n) = refl

    enough : (length text < to) ⊎ (to ≤ length text) → take (high - from) (drop from text) ≡ take (to - from) (drop from text)
    enough (inl past) =
        take_all (high - from) (drop from text) (omega (arith, length-drop from text)) ∙
        sym (take_all (to - from) (drop from text) (omega (arith, length-drop from text)))
    enough (inr within) = let same : high ≡ to = omega arith in ap (λ n. take (n - from) (drop from text)) same

-- a part of a text takes no more bytes than the text
byte_len-take : (n : ℕ) (text : List ℕ) → byte_len (take n text) ≤ byte_len text
byte_len-take zero text = omega arith
byte_len-take (suc n) [] = omega arith
byte_len-take (suc n) (c ∷ text) = let le = byte_len-take n text in omega arith

byte_len-drop : (n : ℕ) (text : List ℕ) → byte_len (drop n text) ≤ byte_len text
byte_len-drop zero text = omega arith
byte_len-drop (suc n) [] = omega arith
byte_len-drop (suc n) (c ∷ text) = let le = byte_len-drop n text in omega arith

pub part_few : (bytes part rest : List ℕ) (low count : ℕ) → IsUtf8 bytes → chars rest ≡ drop low (chars bytes) →
    length part ≡ place_of (chars rest) count → length part ≤ length bytes
part_few bytes part rest low count u back long =
    let whole : byte_len (chars bytes) ≡ length bytes = sym (length-encodes (chars bytes)) ∙ ap length (encodes-chars bytes u) in
    let first = byte_len-take count (chars rest) in
    let second = byte_len-drop low (chars bytes) in
    let same = ap byte_len back in omega arith

-- past the second gap there is nothing more
pub clipped-past : (tab column from to at : ℕ) (clusters : List (List ℕ)) → to ≤ at → fold (column_after tab) column (clipped from to at clusters) ≡ column
clipped-past tab column from to at [] past = refl
clipped-past tab column from to at (cluster ∷ clusters) past =
    let none : to - at - (from - at) ≡ 0 = omega arith in
    ap (λ n. fold (column_after tab) (column_after tab column (take n (drop (from - at) cluster))) (clipped from to (at + length cluster) clusters)) none ∙
    clipped-past tab column from to (at + length cluster) clusters (omega arith)

-- clusters between the gaps stand there whole
pub clipped-inside : (from to at : ℕ) (clusters : List (List ℕ)) → from ≤ at → at + length (concat clusters) ≤ to → clipped from to at clusters ≡ clusters
clipped-inside from to at [] after within = refl
clipped-inside from to at (cluster ∷ clusters) after within =
    let long = length-append cluster (concat clusters) in
    let start : from - at ≡ 0 = omega arith in
    ap₂ (λ (c : List ℕ) (cs : List (List ℕ)). c ∷ cs)
    (ap (λ n. take (to - at - n) (drop n cluster)) start ∙ take_all (to - at - 0) cluster (omega arith))
    (clipped-inside from to (at + length cluster) clusters (omega arith) (omega arith))

pub columns_between-whole : (tab : ℕ) (bytes : List ℕ) → IsUtf8 bytes →
    columns_between tab (chars bytes) 0 (length (chars bytes)) ≡ fold (column_after tab) 0 (clusters_in (chars bytes))
columns_between-whole tab bytes u =
    let all : concat (clusters_in (chars bytes)) ≡ chars bytes = ap concat (clusters_in-chars bytes u) ∙ concat-clusters bytes u in
    let long = ap length all in
    ap (fold (column_after tab) 0) (clipped-inside 0 (length (chars bytes)) 0 (clusters_in (chars bytes)) (omega arith) (omega arith))
