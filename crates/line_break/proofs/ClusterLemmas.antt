-- Lemmas on the clusters of a line: they are the line, and none is empty.
use Rattle.std.proofs.Common.{◌≡◌, ℕ, ◌<◌, true, List, [], ◌∷◌, ◌++◌, length, map, refl, sym, ap, subst, ◌∙◌, arith, append_assoc}
use Rattle.std.specs.Prelude.{encode_utf8, encode_utf8_all}
use Rattle.std.specs.List.{concat}
use Rattle.std.specs.Str.{all_scalars, chars, IsUtf8}
use Rattle.std.proofs.lemmas.List.Folds.{concat-append}
use Rattle.std.proofs.lemmas.Str.{chars_from_encodes, encodes-chars, IsUtf8-past_char}
use Rattle.unicode_segmentation.specs.Grapheme.{is_grapheme_break}
use Rattle.unicode_segmentation.specs.Segments.{cut, segments}
use Rattle.unicode_segmentation.proofs.SegmentsLemmas.{AllPieces, segments_nonempty, concat-segments}
use Rattle.unicode_segmentation.proofs.TextLemmas.{IsUtf8-before}
use Rattle.cluster_core.specs.Boundaries.{clusters_in}
use Rattle.cluster_core.proofs.ForCallers.{concat-clusters, clusters-parted}
use Rattle.line_break.proofs.EndLemmas.{NoneEmpty}
use Rattle.line_break.proofs.TailLemmas.{StandsApart}

utf8-of : (line : List ℕ) → all_scalars line ≡ true → IsUtf8 (encode_utf8_all line)
utf8-of line scalars = (line, (scalars, refl))

chars-of : (line : List ℕ) → all_scalars line ≡ true → chars (encode_utf8_all line) ≡ line
chars-of line scalars = sym (chars_from_encodes line (encode_utf8_all line) (utf8-of line scalars) refl)

pub clusters-whole : (line : List ℕ) → all_scalars line ≡ true → concat (clusters_in line) ≡ line
clusters-whole line scalars = concat-clusters (encode_utf8_all line) (utf8-of line scalars) ∙ chars-of line scalars

IsUtf8-past : (cs rest : List ℕ) → IsUtf8 (encode_utf8_all cs ++ rest) → IsUtf8 rest
IsUtf8-past [] rest u = u
IsUtf8-past (c ∷ cs) rest u = IsUtf8-past cs rest (IsUtf8-past_char _ _ c u (append_assoc (encode_utf8 c) (encode_utf8_all cs) rest))

some_characters : (cs bytes : List ℕ) → encode_utf8_all cs ≡ bytes → 0 < length bytes → 0 < length cs
some_characters [] bytes same some = let none = ap length same in absurd (omega arith)
some_characters (c ∷ cs) bytes same some = omega arith

none_empty : (pieces : List (List ℕ)) → IsUtf8 (concat (map encode_utf8_all pieces)) →
    AllPieces (λ p. 0 < length p) (map encode_utf8_all pieces) → NoneEmpty (map chars (map encode_utf8_all pieces))
none_empty [] u some = tt
none_empty (piece ∷ pieces) u some =
    let front = encode_utf8_all piece in
    let back = concat (map encode_utf8_all pieces) in
    let rest : IsUtf8 back = IsUtf8-past piece back u in
    let own : IsUtf8 front = IsUtf8-before (front ++ back) front back u rest refl in
    (some_characters (chars front) front (encodes-chars front own) some.0, none_empty pieces rest some.1)

pub clusters-some : (line : List ℕ) → all_scalars line ≡ true → NoneEmpty (clusters_in line)
unfolding segments
clusters-some line scalars =
    let bytes = encode_utf8_all line in
    none_empty (cut (is_grapheme_break true) [] (chars bytes) [])
    (subst IsUtf8 (sym (concat-segments (is_grapheme_break true) bytes (utf8-of line scalars))) (utf8-of line scalars))
    (segments_nonempty (is_grapheme_break true) bytes)

-- a cluster is no lone LF behind a CR
pub clusters-apart : (line : List ℕ) → all_scalars line ≡ true → (front these : List (List ℕ)) (cluster : List ℕ) (back : List (List ℕ)) →
    clusters_in line ≡ front ++ (these ++ cluster ∷ back) → StandsApart (concat these) cluster
clusters-apart line scalars front these cluster back parts before return feed =
    clusters-parted line scalars (front ++ these) (cluster ∷ back) (parts ∙ sym (append_assoc front these (cluster ∷ back)))
    (concat front ++ before) (concat back)
    (concat-append front these ∙ ap (λ t. concat front ++ t) return ∙ sym (append_assoc (concat front) before (13 ∷ [])))
    (ap (λ c. c ++ concat back) feed)
