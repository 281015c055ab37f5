-- Lemmas on the clusters at the end of a line: none begins between CR and LF, and one begins before them.
use Rattle.std.proofs.Common.{◌≡◌, ℕ, ◌&&◌, ◌||◌, nat_le, Bool, true, false, ◌⊎◌, inl, inr, Some, None, List, [], ◌∷◌, ◌++◌, length, map, reverse, refl, sym, ap, ap₂, subst, ◌∙◌, arith, append-nil, length-append}
use Rattle.std.specs.Prelude.{Option, encode_utf8_all, unwrap_or}
use Rattle.std.specs.List.{concat}
use Rattle.std.specs.Str.{all_scalars, chars, IsUtf8}
use Rattle.std.proofs.lemmas.Bool.{cases_Bool, leb-true}
use Rattle.std.proofs.lemmas.List.{reverse-append, reverse-reverse}
use Rattle.std.proofs.lemmas.List.Folds.{list_all-append}
use Rattle.std.proofs.lemmas.Str.{chars_from_encodes}
use Rattle.ucd_table.specs.Rows.{in_ranges}
use Rattle.ucd_table.proofs.Facts.{Stepped-everywhere}
use Rattle.ucd_table.proofs.Stepped.{of_ranges, zip_stepped}
use Rattle.ucd_breaks.specs.GraphemeClusterBreak.{grapheme_cluster_break}
use Rattle.ucd_breaks.specs.declared.GraphemeClusterBreak.{GraphemeClusterBreak}
use Rattle.ucd_breaks.specs.declared.GraphemeClusterBreak.TheVariants.{Control, Cr, Extend, L, Lf, Lv, Lvt, Prepend, RegionalIndicator, SpacingMark, T, V, Other, Zwj}
use Rattle.ucd_breaks.proofs.GraphemeClusterBreakLemmas.{grapheme_cluster_break_stepped}
use Rattle.unicode_segmentation.specs.Grapheme.{break_by_pair, is_grapheme_break}
use Rattle.unicode_segmentation.specs.Segments.{Rule, cut, segments}
use Rattle.unicode_segmentation.proofs.Computing.{unicode_segmentation}
use Rattle.unicode_segmentation.proofs.SegmentsLemmas.{attach, concat-segments}
use Rattle.cluster_core.specs.Boundaries.{clusters_in}
use Rattle.cluster_core.proofs.BoundaryLemmas.{onto, onto-reverse, cut_nonempty, cluster_rule, cluster_rule-stops}
use Rattle.cluster_core.proofs.ColumnLemmas.{chars-encoded}

-- ---- what the rule cuts

pub concat-cut : (rule : Rule) (before cs : List ℕ) → concat (cut rule before cs []) ≡ cs
unfolding cut
concat-cut rule before [] = refl
concat-cut rule before (c ∷ cs) = by (rule (c ∷ before) (cs ++ [])) (cut rule (c ∷ before) cs []) (concat-cut rule (c ∷ before) cs)
  where
    by : (breaks : Bool) (rest : List (List ℕ)) → concat rest ≡ cs → concat (attach breaks (c ∷ []) rest) ≡ c ∷ cs
    by true rest is = ap (λ t. c ∷ t) is
    by false [] is = ap (λ t. c ∷ t) is
    by false (piece ∷ rest) is = ap (λ t. c ∷ t) is

module _ (rule : Rule) (stops : (before : List ℕ) → rule before [] ≡ true) where
  -- where the pieces are parted the rule breaks
  pub cut-parted : (before cs first : List ℕ) (front back : List (List ℕ)) → cut rule before cs [] ≡ first ∷ (front ++ back) →
      rule (onto (concat (first ∷ front)) before) (concat back) ≡ true
  unfolding cut
  cut-parted before [] first front back is = let broken = is in cc
  cut-parted before (c ∷ cs) first front back is =
      by (λ piece those same. cut-parted (c ∷ before) cs piece those back same) (rule (c ∷ before) (cs ++ [])) (cut rule (c ∷ before) cs []) front refl refl is
    where
      Later : Type 0
      Later = (piece : List ℕ) (those : List (List ℕ)) → cut rule (c ∷ before) cs [] ≡ piece ∷ (those ++ back) →
          rule (onto (concat (piece ∷ those)) (c ∷ before)) (concat back) ≡ true

      Parted : List (List ℕ) → Type 0
      Parted those = rule (onto (concat (first ∷ those)) before) (concat back) ≡ true

      ends : (rest : List ℕ) → cut rule (c ∷ before) rest [] ≡ [] → rule (c ∷ before) (rest ++ []) ≡ true
      ends [] none = stops (c ∷ before)
      ends (d ∷ rest) none = absurd (cut_nonempty rule (c ∷ before) rest d none)

      by : Later → (breaks : Bool) (rest those : List (List ℕ)) → rule (c ∷ before) (cs ++ []) ≡ breaks → cut rule (c ∷ before) cs [] ≡ rest →
          attach breaks (c ∷ []) rest ≡ first ∷ (those ++ back) → Parted those
      by later true rest [] breaks pieces same =
          let own : first ≡ c ∷ [] = cc in
          let others : rest ≡ back = cc in
          ap₂ rule (ap (λ p. onto (p ++ []) before) own)
          (ap concat (sym others ∙ sym pieces) ∙ concat-cut rule (c ∷ before) cs ∙ sym (append-nil cs)) ∙ breaks
      by later true rest (next ∷ those) breaks pieces same =
          let own : first ≡ c ∷ [] = cc in
          let others : rest ≡ next ∷ (those ++ back) = cc in
          ap (λ p. rule (onto (p ++ concat (next ∷ those)) before) (concat back)) own ∙
          later next those (pieces ∙ others)
      by later false [] those breaks pieces same = let broken : true ≡ false = sym (ends cs pieces) ∙ breaks in cc
      by later false (piece ∷ rest) those breaks pieces same =
          let own : first ≡ c ∷ piece = cc in
          let others : rest ≡ those ++ back = cc in
          ap (λ p. rule (onto (p ++ concat those) before) (concat back)) own ∙
          later piece those (pieces ∙ ap (λ ps. piece ∷ ps) others)

  -- where the rule breaks, the characters before and after are cut apart, if it reads of those after a place the first alone
  module _ (near : (before cs ds : List ℕ) (c : ℕ) → rule before (c ∷ cs) ≡ rule before (c ∷ ds)) where
    pub cut-append : (before front back : List ℕ) → rule (onto front before) back ≡ true →
        cut rule before (front ++ back) [] ≡ cut rule before front [] ++ cut rule (onto front before) back []
    unfolding cut
    cut-append before [] back breaks = refl
    cut-append before (c ∷ []) back breaks =
        let here : rule (c ∷ before) (back ++ []) ≡ true = ap (rule (c ∷ before)) (append-nil back) ∙ breaks in
        ap (λ b. attach b (c ∷ []) (cut rule (c ∷ before) back [])) here ∙
        ap (λ b. attach b (c ∷ []) [] ++ cut rule (c ∷ before) back []) (sym (stops (c ∷ before)))
    cut-append before (c ∷ d ∷ front) back breaks =
        by (rule (c ∷ before) (d ∷ front ++ [])) (cut rule (c ∷ before) (d ∷ front) []) (cut rule (c ∷ before) ((d ∷ front) ++ back) [])
        (near (c ∷ before) ((front ++ back) ++ []) (front ++ []) d) refl (cut-append (c ∷ before) (d ∷ front) back breaks)
      where
        after : List (List ℕ)
        after = cut rule (onto (d ∷ front) (c ∷ before)) back []

        by : (b : Bool) (left all : List (List ℕ)) → rule (c ∷ before) ((d ∷ front ++ back) ++ []) ≡ b →
            cut rule (c ∷ before) (d ∷ front) [] ≡ left → all ≡ left ++ after →
            attach (rule (c ∷ before) ((d ∷ front ++ back) ++ [])) (c ∷ []) all ≡ attach b (c ∷ []) left ++ after
        by true left all same pieces is = ap₂ (λ x ps. attach x (c ∷ []) ps) same is
        by false [] all same pieces is = absurd (cut_nonempty rule (c ∷ before) front d pieces)
        by false (piece ∷ left) all same pieces is = ap₂ (λ x ps. attach x (c ∷ []) ps) same is

-- ---- the clusters of a line

pub clusters_in-cut : (line : List ℕ) → all_scalars line ≡ true → clusters_in line ≡ cut cluster_rule [] line []
unfolding segments
clusters_in-cut line scalars =
    let bytes = encode_utf8_all line in
    let u : IsUtf8 bytes = (line, (scalars, refl)) in
    let whole : concat (map encode_utf8_all (cut cluster_rule [] (chars bytes) [])) ≡ bytes = concat-segments cluster_rule bytes u in
    chars-encoded (cut cluster_rule [] (chars bytes) []) (subst IsUtf8 (sym whole) u) ∙
    ap (λ cs. cut cluster_rule [] cs []) (sym (chars_from_encodes line bytes u refl))

return_feed-joined : (before after : List ℕ) → cluster_rule (13 ∷ before) (10 ∷ after) ≡ false
unfolding unicode_segmentation
return_feed-joined before after = refl

pub onto-push : (cs before : List ℕ) (c : ℕ) → onto (cs ++ c ∷ []) before ≡ c ∷ onto cs before
onto-push [] before c = refl
onto-push (d ∷ cs) before c = onto-push cs (d ∷ before) c

-- NO CLUSTER BEGINS BETWEEN CR AND LF
pub clusters-parted : (line : List ℕ) → all_scalars line ≡ true → (front back : List (List ℕ)) → clusters_in line ≡ front ++ back →
    (before after : List ℕ) → concat front ≡ before ++ 13 ∷ [] → concat back ≡ 10 ∷ after → ⊥
clusters-parted line scalars [] back parts before after left right =
    let none = ap length left in absurd (omega (arith, length-append before (13 ∷ [])))
clusters-parted line scalars (first ∷ front) back parts before after left right =
    let breaks = cut-parted cluster_rule cluster_rule-stops [] line first front back (sym (clusters_in-cut line scalars) ∙ parts) in
    let joined : cluster_rule (onto (concat (first ∷ front)) []) (concat back) ≡ false =
    ap₂ cluster_rule (ap (λ cs. onto cs []) left ∙ onto-push before [] 13) right ∙ return_feed-joined (onto before []) after in
    let broken : true ≡ false = sym breaks ∙ joined in cc

-- ---- a line with a line end

abbrev is_return : ℕ → Bool
is_return c = in_ranges ((13, 13) ∷ []) c

abbrev breaks_feed : GraphemeClusterBreak → Bool
breaks_feed class = unwrap_or (break_by_pair true class Lf) false

breaks_before_feed : (c : ℕ) → (is_return c || breaks_feed (grapheme_cluster_break c)) ≡ true
unfolding unicode_segmentation
breaks_before_feed c =
    Stepped-everywhere (λ x. is_return x || breaks_feed (grapheme_cluster_break x))
    (zip_stepped (λ a g. a || breaks_feed g) is_return grapheme_cluster_break (of_ranges ((13, 13) ∷ []) refl) grapheme_cluster_break_stepped) refl c

return_is : (c : ℕ) → is_return c ≡ true → c ≡ 13
unfolding in_ranges
return_is c passes = by (nat_le 13 c) (nat_le c 13) refl refl passes
  where
    by : (low high : Bool) → nat_le 13 c ≡ low → nat_le c 13 ≡ high → ((low && high) || false) ≡ true → c ≡ 13
    by true true low high all = let first = leb-true 13 c low in let second = leb-true c 13 high in omega arith
    by true false low high all = let broken = all in cc
    by false high low second all = let broken = all in cc

feed_class : grapheme_cluster_break 10 ≡ Lf
unfolding unicode_segmentation
feed_class = refl

return_class : grapheme_cluster_break 13 ≡ Cr
unfolding unicode_segmentation
return_class = refl

-- where the rule on the pair breaks
broken-by_pair : (before after : List ℕ) (c d : ℕ) → unwrap_or (break_by_pair true (grapheme_cluster_break c) (grapheme_cluster_break d)) false ≡ true →
    cluster_rule (c ∷ before) (d ∷ after) ≡ true
unfolding is_grapheme_break
broken-by_pair before after c d breaks = some (break_by_pair true (grapheme_cluster_break c) (grapheme_cluster_break d)) _ breaks
  where
    some : (o : Option Bool) (other : Bool) → unwrap_or o false ≡ true → unwrap_or o other ≡ true
    some (Some b) other is = is
    some None other is = let broken = is in cc

-- before CR it always breaks
before_return : (class : GraphemeClusterBreak) → unwrap_or (break_by_pair true class Cr) false ≡ true
before_return Control = refl
before_return Cr = refl
before_return Extend = refl
before_return L = refl
before_return Lf = refl
before_return Lv = refl
before_return Lvt = refl
before_return Prepend = refl
before_return RegionalIndicator = refl
before_return SpacingMark = refl
before_return T = refl
before_return V = refl
before_return Other = refl
before_return Zwj = refl

pub near : (before cs ds : List ℕ) (c : ℕ) → cluster_rule before (c ∷ cs) ≡ cluster_rule before (c ∷ ds)
unfolding is_grapheme_break
near [] cs ds c = refl
near (last ∷ before) cs ds c = refl

-- behind what is no CR it breaks before LF
feed-apart : (line : List ℕ) → ((before : List ℕ) → line ≡ before ++ 13 ∷ [] → ⊥) → cluster_rule (onto line []) (10 ∷ []) ≡ true
unfolding is_grapheme_break
feed-apart line other = ap (λ cs. cluster_rule cs (10 ∷ [])) (onto-reverse line []) ∙ by (reverse line) (reverse-reverse line)
  where
    pair : (before : List ℕ) (c : ℕ) → reverse (c ∷ before) ≡ line → (is_return c ≡ true) ⊎ (is_return c ≡ false) → breaks_feed (grapheme_cluster_break c) ≡ true
    pair before c is (inl return) =
        absurd (other (reverse before) (sym is ∙ reverse-append (c ∷ []) before ∙ ap (λ d. reverse before ++ d ∷ []) (return_is c return)))
    pair before c is (inr another) = sym (ap (λ b. b || breaks_feed (grapheme_cluster_break c)) another) ∙ breaks_before_feed c

    by : (back : List ℕ) → reverse back ≡ line → cluster_rule back (10 ∷ []) ≡ true
    by [] is = refl
    by (c ∷ before) is =
        broken-by_pair before [] c 10
        (ap (λ g. unwrap_or (break_by_pair true (grapheme_cluster_break c) g) false) feed_class ∙ pair before c is (cases_Bool (is_return c)))

return-apart : (line : List ℕ) → cluster_rule (onto line []) (13 ∷ 10 ∷ []) ≡ true
unfolding is_grapheme_break
return-apart line = by (onto line [])
  where
    by : (back : List ℕ) → cluster_rule back (13 ∷ 10 ∷ []) ≡ true
    by [] = refl
    by (c ∷ before) =
        broken-by_pair before (10 ∷ []) c 13
        (ap (λ g. unwrap_or (break_by_pair true (grapheme_cluster_break c) g) false) return_class ∙ before_return (grapheme_cluster_break c))

one_cluster : (before : List ℕ) → cut cluster_rule before (10 ∷ []) [] ≡ (10 ∷ []) ∷ []
unfolding cut
one_cluster before = ap (λ b. attach b (10 ∷ []) []) (cluster_rule-stops (10 ∷ before))

one_cluster-of_both : (before : List ℕ) → cut cluster_rule before (13 ∷ 10 ∷ []) [] ≡ (13 ∷ 10 ∷ []) ∷ []
unfolding cut
one_cluster-of_both before =
    ap₂ (λ b rest. attach b (13 ∷ []) rest) (return_feed-joined before []) (one_cluster (13 ∷ before))

module _ (line : List ℕ) (scalars : all_scalars line ≡ true) where
  with_end : (end : List ℕ) → all_scalars end ≡ true → cluster_rule (onto line []) end ≡ true →
      clusters_in (line ++ end) ≡ clusters_in line ++ cut cluster_rule (onto line []) end []
  with_end end also breaks =
      clusters_in-cut (line ++ end) (list_all-append _ line end ∙ ap₂ (λ a b. a && b) scalars also) ∙
      cut-append cluster_rule cluster_rule-stops near [] line end breaks ∙
      ap (λ cs. cs ++ cut cluster_rule (onto line []) end []) (sym (clusters_in-cut line scalars))

  -- LF behind a line that does not end in CR is a cluster of its own
  pub clusters-feed : ((before : List ℕ) → line ≡ before ++ 13 ∷ [] → ⊥) → clusters_in (line ++ 10 ∷ []) ≡ clusters_in line ++ (10 ∷ []) ∷ []
  clusters-feed other = with_end (10 ∷ []) refl (feed-apart line other) ∙ ap (λ cs. clusters_in line ++ cs) (one_cluster (onto line []))

  -- CR LF behind a line is one
  pub clusters-return_feed : clusters_in (line ++ 13 ∷ 10 ∷ []) ≡ clusters_in line ++ (13 ∷ 10 ∷ []) ∷ []
  clusters-return_feed =
      with_end (13 ∷ 10 ∷ []) refl (return-apart line) ∙ ap (λ cs. clusters_in line ++ cs) (one_cluster-of_both (onto line []))
