-- The first cluster of a line, and what stands behind it.
use Rattle.std.proofs.Common.{◌≡◌, ℕ, zero, suc, ◌-◌, ◌<◌, ◌≤◌, ◌&&◌, ◌||◌, ◌==◌, Bool, true, false, List, [], ◌∷◌, ◌++◌, length, map, take, drop, refl, sym, ap, ap₂, subst, ◌∙◌, arith, append-nil, take_at}
use Rattle.std.specs.Prelude.{encode_utf8}
use Rattle.std.specs.List.{concat, list_all}
use Rattle.std.specs.Str.{all_scalars, chars, IsUtf8, IsCharBoundary}
use Rattle.std.proofs.lemmas.List.{length-take-le, take-append-drop}
use Rattle.std.proofs.lemmas.Str.{chars-append, chars_past_char, scalars-chars, encode_ascii, IsUtf8-past_char, IsUtf8-take, IsUtf8-drop, IsCharBoundary-at_seam}
use Rattle.unicode_segmentation.specs.Grapheme.{is_grapheme_break}
use Rattle.unicode_segmentation.specs.Segments.{cut, segments}
use Rattle.unicode_segmentation.proofs.SegmentsLemmas.{concat-segments}
use Rattle.cluster_core.specs.Boundaries.{clusters_in, clusters_of, IsBoundary}
use Rattle.cluster_core.specs.Plain.{is_plain_character, is_printable_character, is_apart, StandsAlone, BeginsAlone, BeginsByClusters, ComesApart, IsFirstCluster}
use Rattle.cluster_core.proofs.BoundaryLemmas.{IsBreakOf-from_boundary}
use Rattle.cluster_core.proofs.ColumnLemmas.{clusters_in-chars, concat-clusters}
use Rattle.cluster_core.proofs.PlainLemmas.{below, plain-alone, tail_scalars}
use Rattle.cluster_core.proofs.RestartLemmas.{clusters-anew}

-- ---- a plain character

module _ (c : ℕ) (line : List ℕ) (u : IsUtf8 (c ∷ line)) (low : c < 127) where
  one_byte : c ∷ line ≡ encode_utf8 c ++ line
  one_byte = ap (λ (bs : List ℕ). bs ++ line) (sym (encode_ascii c (omega arith)))

  pub chars-past_plain : chars (c ∷ line) ≡ c ∷ chars line
  chars-past_plain = chars_past_char (c ∷ line) line c u one_byte

  pub IsUtf8-past_plain : IsUtf8 line
  IsUtf8-past_plain = IsUtf8-past_char (c ∷ line) line c u one_byte

StandsAlone-chars : (c : ℕ) (line : List ℕ) → IsUtf8 (c ∷ line) → StandsAlone (c ∷ line) → StandsAlone (c ∷ chars line)
unfolding chars
StandsAlone-chars c [] u alone = alone
StandsAlone-chars c (d ∷ line) u alone =
    let low : c < 127 = below c (ap (λ b. b || (c == 10) || (c == 13)) alone.0) in
    let next : chars (d ∷ line) ≡ d ∷ chars line = chars-past_plain d line (IsUtf8-past_plain c (d ∷ line) u low) (below d alone.1) in
    subst (λ (cs : List ℕ). StandsAlone (c ∷ cs)) (sym next) alone

plain_of : (c : ℕ) (line : List ℕ) → StandsAlone (c ∷ line) → is_plain_character c ≡ true
plain_of c [] alone = alone
plain_of c (d ∷ line) alone = alone.0

pub IsFirstCluster-alone : (line : List ℕ) → IsUtf8 line → StandsAlone line → IsFirstCluster line (take 1 line) (drop 1 line)
unfolding chars
IsFirstCluster-alone [] u alone = absurd alone
IsFirstCluster-alone (c ∷ line) u alone =
    let low : c < 127 = below c (ap (λ b. b || (c == 10) || (c == 13)) (plain_of c line alone)) in
    let past : chars (c ∷ line) ≡ c ∷ chars line = chars-past_plain c line u low in
    let single : chars (c ∷ []) ≡ c ∷ [] = chars_past_char (c ∷ []) [] c (IsUtf8-single c low (ap all_scalars (sym past) ∙ scalars-chars (c ∷ line) u)) (ap (λ (bs : List ℕ). bs ++ []) (sym (encode_ascii c (omega arith)))) in
    record {
      bytes = refl;
      clusters = ap clusters_in past ∙
          plain-alone (chars line) c (ap all_scalars (sym past) ∙ scalars-chars (c ∷ line) u) (StandsAlone-chars c line u alone) ∙
          ap (λ (first : List ℕ). first ∷ clusters_in (chars line)) (sym single);
    }
  where
    IsUtf8-single : (c : ℕ) → c < 127 → all_scalars (c ∷ chars line) ≡ true → IsUtf8 (c ∷ [])
    IsUtf8-single c low scalars =
        (c ∷ [], ((tail_scalars (c ∷ []) (chars line) scalars).0, append-nil (encode_utf8 c) ∙ encode_ascii c (omega arith)))

-- ---- printable characters that come first

-- the rest of a line that begins with these
pub record IsPast (line run : List ℕ) : Type 0 where
  pub utf8 : IsUtf8 (drop (length run) line)
  pub few : length run ≤ length line
  pub clusters : BeginsByClusters line run

printable-plain : (c : ℕ) → is_printable_character c ≡ true → is_plain_character c ≡ true
printable-plain c printable = ap (λ b. (c == 9) || b) printable ∙ or_true (c == 9)
  where
    or_true : (x : Bool) → (x || true) ≡ true
    or_true true = refl
    or_true false = refl

pub IsPast-alone : (line run : List ℕ) → IsUtf8 line → BeginsAlone line run → IsPast line run
IsPast-alone line [] u begins = record { utf8 = u; few = omega arith; clusters = refl }
IsPast-alone [] (c ∷ run) u begins = absurd begins
IsPast-alone (d ∷ line) (c ∷ run) u begins =
    let low : d < 127 = below d (ap (λ b. b || (d == 10) || (d == 13)) (plain_of d line begins.2)) in
    let past : chars (d ∷ line) ≡ d ∷ chars line = chars-past_plain d line u low in
    let rest = IsPast-alone line run (IsUtf8-past_plain d line u low) begins.3 in
    let le = rest.few in
    record {
      utf8 = rest.utf8;
      few = omega arith;
      clusters = ap clusters_in past ∙
          plain-alone (chars line) d (ap all_scalars (sym past) ∙ scalars-chars (d ∷ line) u) (StandsAlone-chars d line u begins.2) ∙
          ap₂ (λ (e : ℕ) (others : List (List ℕ)). (e ∷ []) ∷ others) begins.0 rest.clusters;
    }

pub boundary-past : (line run : List ℕ) → IsUtf8 line → BeginsAlone line run → IsCharBoundary line (length run)
boundary-past line run u begins =
    let past = IsPast-alone line run u begins in
    let count : length (take (length run) line) ≡ length run = length-take-le (length run) line past.few in
    subst (λ n. IsCharBoundary line n) count
    (IsCharBoundary-at_seam line (take (length run) line) (drop (length run) line) (sym (take-append-drop (length run) line)) past.utf8)

-- a part of them comes first too
pub BeginsAlone-take : (line run : List ℕ) (k : ℕ) → BeginsAlone line run → BeginsAlone line (take k run)
BeginsAlone-take line run zero begins = tt
BeginsAlone-take line [] (suc k) begins = tt
BeginsAlone-take [] (c ∷ run) (suc k) begins = absurd begins
BeginsAlone-take (d ∷ line) (c ∷ run) (suc k) begins = (begins.0, begins.1, begins.2, BeginsAlone-take line run k begins.3)

printable-apart : (c : ℕ) → is_printable_character c ≡ true → is_apart c ≡ true
printable-apart c printable = ap (λ b. b || (c == 10) || (c == 13)) (printable-plain c printable)

both : (a b : Bool) → (a && b) ≡ true → (a ≡ true) × (b ≡ true)
both true b is = (refl, is)
both false b is = let broken = is in cc

-- bytes that are printable are clusters, where what comes behind them is apart or nothing
pub BeginsAlone-take_printable : (bytes : List ℕ) (n : ℕ) → n ≤ length bytes → list_all is_printable_character (take n bytes) ≡ true →
    ComesApart (drop n bytes) → BeginsAlone bytes (take n bytes)
BeginsAlone-take_printable bytes zero le all apart = tt
BeginsAlone-take_printable [] (suc n) le all apart = absurd (omega arith)
BeginsAlone-take_printable (c ∷ bytes) (suc n) le all apart =
    let parts = both (is_printable_character c) (list_all is_printable_character (take n bytes)) all in
    (refl, parts.0, alone bytes n parts.1 apart, BeginsAlone-take_printable bytes n (omega arith) parts.1 apart)
  where
    plain_here : is_plain_character c ≡ true
    plain_here = printable-plain c (both (is_printable_character c) (list_all is_printable_character (take n bytes)) all).0

    alone : (line : List ℕ) (n : ℕ) → list_all is_printable_character (take n line) ≡ true → ComesApart (drop n line) → StandsAlone (c ∷ line)
    alone [] zero all apart = plain_here
    alone [] (suc n) all apart = plain_here
    alone (d ∷ line) zero all apart = (plain_here, apart)
    alone (d ∷ line) (suc n) all apart = (plain_here, printable-apart d (both (is_printable_character d) _ all).0)

-- the last of them but one comes before one that is printable
pub BeginsAlone-but_last : (bytes : List ℕ) (n less : ℕ) → n ≤ length bytes → list_all is_printable_character (take n bytes) ≡ true → less ≡ n - 1 →
    BeginsAlone bytes (take less bytes)
BeginsAlone-but_last bytes zero less le all is = subst (λ k. BeginsAlone bytes (take k bytes)) (sym is) tt
BeginsAlone-but_last [] (suc n) less le all is = absurd (omega arith)
BeginsAlone-but_last (c ∷ bytes) (suc n) less le all is =
    let same : less ≡ n = omega arith in
    subst (λ k. BeginsAlone (c ∷ bytes) (take k (c ∷ bytes))) (sym same) (by n (omega arith) all)
  where
    front : (n : ℕ) (line : List ℕ) → list_all is_printable_character (take (suc n) line) ≡ true → list_all is_printable_character (take n line) ≡ true
    front zero line all = refl
    front (suc n) [] all = refl
    front (suc n) (d ∷ line) all =
        let parts = both (is_printable_character d) (list_all is_printable_character (take (suc n) line)) all in
        ap₂ (λ a b. a && b) parts.0 (front n line parts.1)

    next : (n : ℕ) (line : List ℕ) → list_all is_printable_character (take (suc n) line) ≡ true → ComesApart (drop n line)
    next zero [] all = tt
    next zero (d ∷ line) all = printable-apart d (both (is_printable_character d) _ all).0
    next (suc n) [] all = tt
    next (suc n) (d ∷ line) all = next n line (both (is_printable_character d) (list_all is_printable_character (take (suc n) line)) all).1

    by : (n : ℕ) → n ≤ length (c ∷ bytes) → list_all is_printable_character (take (suc n) (c ∷ bytes)) ≡ true → BeginsAlone (c ∷ bytes) (take n (c ∷ bytes))
    by n le all = BeginsAlone-take_printable (c ∷ bytes) n le (front n (c ∷ bytes) all) (next n (c ∷ bytes) all)

-- ---- any first cluster

first_boundary : (line : List ℕ) (first : List ℕ) (others : List (List ℕ)) → clusters_of line ≡ first ∷ others → IsBoundary line (length first)
first_boundary line first others is = grind arith

pub boundary-of_first : (line : List ℕ) → IsUtf8 line → (first : List ℕ) (others : List (List ℕ)) → clusters_of line ≡ first ∷ others →
    IsCharBoundary line (length first)
boundary-of_first line u first others is = (IsBreakOf-from_boundary line u (length first) (first_boundary line first others is)).place

pub IsFirstCluster-cut : (line : List ℕ) → IsUtf8 line → (first : List ℕ) (others : List (List ℕ)) → clusters_of line ≡ first ∷ others →
    IsFirstCluster line (take (length first) line) (drop (length first) line)
IsFirstCluster-cut line u first others is =
    let place = boundary-of_first line u first others is in
    let whole : first ++ concat others ≡ line = sym (ap concat is) ∙ concat-segments (is_grapheme_break true) line u in
    let front : take (length first) line ≡ first = ap (take (length first)) (sym whole) ∙ take_at first (concat others) (length first) refl in
    let left = IsUtf8-take line (length first) u place in
    let right = IsUtf8-drop line (length first) u place in
    let own : clusters_in (chars line) ≡ chars first ∷ map chars others = clusters_in-chars line u ∙ ap (map chars) is in
    let parts : chars line ≡ chars first ++ chars (drop (length first) line) =
    ap chars (sym (take-append-drop (length first) line)) ∙ chars-append (take (length first) line) (drop (length first) line) left ∙
    ap (λ (bs : List ℕ). chars bs ++ chars (drop (length first) line)) front in
    let all : chars first ++ concat (map chars others) ≡ chars line = sym (ap concat (ap (map chars) is)) ∙ concat-clusters line u in
    let rest : concat (map chars others) ≡ chars (drop (length first) line) = same_rest (chars first) _ _ (all ∙ parts) in
    record {
      bytes = sym (take-append-drop (length first) line);
      clusters = own ∙
          ap₂ (λ (p : List ℕ) (ps : List (List ℕ)). p ∷ ps) (ap chars (sym front))
          (clusters-anew (chars line) (scalars-chars line u) (chars first) (map chars others) own ∙ ap clusters_in rest);
    }
  where
    same_rest : (front these those : List ℕ) → front ++ these ≡ front ++ those → these ≡ those
    same_rest [] these those same = same
    same_rest (c ∷ front) these those same = same_rest front these those (ap (drop 1) same)

pub IsFirstCluster-parts : (line cluster rest first others : List ℕ) → IsFirstCluster line cluster rest → first ≡ cluster → others ≡ rest →
    IsFirstCluster line first others
IsFirstCluster-parts line cluster rest first others is own behind =
    subst (λ (p : List ℕ). IsFirstCluster line p others) (sym own) (subst (λ (r : List ℕ). IsFirstCluster line cluster r) (sym behind) is)

pub no_clusters : (line : List ℕ) → IsUtf8 line → clusters_of line ≡ [] → line ≡ []
no_clusters line u none = sym (concat-segments (is_grapheme_break true) line u) ∙ ap concat none

-- a text of no bytes has no clusters
pub clusters_in-empty : clusters_in (chars []) ≡ []
unfolding chars cut segments
clusters_in-empty = refl
