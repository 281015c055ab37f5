-- A plain character is a cluster where what is apart from it comes next, whatever stands before it.
use Rattle.std.proofs.Common.{◌≡◌, ℕ, ◌<◌, ◌&&◌, ◌||◌, ◌==◌, not, Bool, true, false, List, [], ◌∷◌, ◌++◌, map, refl, sym, ap, ap₂, ◌∙◌, arith, append_assoc}
use Rattle.std.specs.Prelude.{unwrap_or}
use Rattle.std.specs.Str.{all_scalars}
use Rattle.std.proofs.lemmas.List.Folds.{list_all-append}
use Rattle.ucd_table.proofs.Facts.{Stepped-below}
use Rattle.ucd_breaks.specs.GraphemeClusterBreak.{grapheme_cluster_break}
use Rattle.ucd_breaks.specs.declared.GraphemeClusterBreak.{GraphemeClusterBreak}
use Rattle.ucd_breaks.specs.declared.GraphemeClusterBreak.TheVariants.{Control, Cr, Extend, L, Lf, Lv, Lvt, Prepend, RegionalIndicator, SpacingMark, T, V, Other, Zwj}
use Rattle.ucd_breaks.proofs.GraphemeClusterBreakLemmas.{grapheme_cluster_break_stepped}
use Rattle.ucd_derived.specs.IndicConjunctBreak.{indic_conjunct_break}
use Rattle.ucd_derived.proofs.IndicConjunctBreakLemmas.{indic_conjunct_break_stepped}
use Rattle.ucd_emoji.specs.Binary.{is_extended_pictographic}
use Rattle.unicode_segmentation.specs.Grapheme.{break_by_pair, ends_in_pictograph, ends_in_half_flag, is_regional, is_consonant, is_zwj}
use Rattle.unicode_segmentation.specs.Segments.{cut}
use Rattle.unicode_segmentation.proofs.Computing.{unicode_segmentation}
use Rattle.unicode_segmentation.proofs.SegmentsLemmas.{attach}
use Rattle.cluster_core.specs.Boundaries.{clusters_in}
use Rattle.cluster_core.specs.Plain.{is_plain_character, is_apart, StandsAlone}
use Rattle.cluster_core.proofs.BoundaryLemmas.{onto, cluster_rule, cluster_rule-stops}
use Rattle.cluster_core.proofs.FeedLemmas.{clusters_in-cut, cut-append, near, onto-push}
use Rattle.cluster_core.proofs.RestartLemmas.{is_linked, ends_all, looks, rule_by, linker_behind, implied, negated, boundary-looks_no_further, cut-anew}

-- ---- classes

-- the class of a plain character, and of what is apart from one
abbrev is_plain_class : GraphemeClusterBreak → Bool
is_plain_class Control = true
is_plain_class Other = true
is_plain_class _ = false

abbrev is_apart_class : GraphemeClusterBreak → Bool
is_apart_class g = is_plain_class g || ends_all g

pub below : (c : ℕ) → is_apart c ≡ true → c < 127
below c apart = grind arith

plain_class : (c : ℕ) → is_plain_character c ≡ true → is_plain_class (grapheme_cluster_break c) ≡ true
unfolding unicode_segmentation
plain_class c plain =
    implied (is_plain_character c) _
    (Stepped-below grapheme_cluster_break grapheme_cluster_break_stepped (λ x g. not (is_plain_character x) || is_plain_class g) 127 refl c
    (below c (ap (λ b. b || (c == 10) || (c == 13)) plain))) plain

apart_class : (c : ℕ) → is_apart c ≡ true → is_apart_class (grapheme_cluster_break c) ≡ true
unfolding unicode_segmentation
apart_class c apart =
    implied (is_apart c) _
    (Stepped-below grapheme_cluster_break grapheme_cluster_break_stepped (λ x g. not (is_apart x) || is_apart_class g) 127 refl c (below c apart)) apart

plain-no_linker : (c : ℕ) → is_plain_character c ≡ true → not (is_linked (indic_conjunct_break c)) ≡ true
unfolding unicode_segmentation
plain-no_linker c plain =
    implied (is_plain_character c) _
    (Stepped-below indic_conjunct_break indic_conjunct_break_stepped (λ x a. not (is_plain_character x) || not (is_linked a)) 127 refl c
    (below c (ap (λ b. b || (c == 10) || (c == 13)) plain))) plain

-- by the pair the line is broken behind a plain character, where no rule joins that looks further back
pair_breaks : (g h : GraphemeClusterBreak) (none : Bool) → is_plain_class g ≡ true → is_apart_class h ≡ true → (is_zwj g ≡ false → is_regional g ≡ false → none ≡ true) →
    unwrap_or (break_by_pair true g h) none ≡ true
pair_breaks Control h none plain apart by = refl
pair_breaks Other Control none plain apart by = refl
pair_breaks Other Cr none plain apart by = refl
pair_breaks Other Lf none plain apart by = refl
pair_breaks Other Other none plain apart by = by refl refl
pair_breaks Other Extend none plain apart by = let broken = apart in cc
pair_breaks Other L none plain apart by = let broken = apart in cc
pair_breaks Other Lv none plain apart by = let broken = apart in cc
pair_breaks Other Lvt none plain apart by = let broken = apart in cc
pair_breaks Other Prepend none plain apart by = let broken = apart in cc
pair_breaks Other RegionalIndicator none plain apart by = let broken = apart in cc
pair_breaks Other SpacingMark none plain apart by = let broken = apart in cc
pair_breaks Other T none plain apart by = let broken = apart in cc
pair_breaks Other V none plain apart by = let broken = apart in cc
pair_breaks Other Zwj none plain apart by = let broken = apart in cc
pair_breaks Cr h none plain apart by = let broken = plain in cc
pair_breaks Extend h none plain apart by = let broken = plain in cc
pair_breaks L h none plain apart by = let broken = plain in cc
pair_breaks Lf h none plain apart by = let broken = plain in cc
pair_breaks Lv h none plain apart by = let broken = plain in cc
pair_breaks Lvt h none plain apart by = let broken = plain in cc
pair_breaks Prepend h none plain apart by = let broken = plain in cc
pair_breaks RegionalIndicator h none plain apart by = let broken = plain in cc
pair_breaks SpacingMark h none plain apart by = let broken = plain in cc
pair_breaks T h none plain apart by = let broken = plain in cc
pair_breaks V h none plain apart by = let broken = plain in cc
pair_breaks Zwj h none plain apart by = let broken = plain in cc

looks-none : (before : List ℕ) (c d : ℕ) → is_plain_character c ≡ true → is_zwj (grapheme_cluster_break c) ≡ false → is_regional (grapheme_cluster_break c) ≡ false →
    not (looks (c ∷ before) d) ≡ true
unfolding looks ends_in_half_flag
looks-none before c d plain joins flag =
    let conjunct = linker_behind (indic_conjunct_break c) (map indic_conjunct_break before) (negated _ (plain-no_linker c plain)) in
    ap₂ (λ a b. not (a || b)) (ap₂ (λ a b. a || b) (ap (λ l. l && is_consonant (indic_conjunct_break d)) conjunct) (ap (λ z. z && ends_in_pictograph before && is_extended_pictographic d) joins))
    (ap (λ r. r && not (ends_in_half_flag before) && is_regional (grapheme_cluster_break d)) flag)

breaks-behind : (before after : List ℕ) (c d : ℕ) → is_plain_character c ≡ true → is_apart d ≡ true → cluster_rule (c ∷ before) (d ∷ after) ≡ true
breaks-behind before after c d plain apart =
    rule_by before c d after ∙
    pair_breaks (grapheme_cluster_break c) (grapheme_cluster_break d) _ (plain_class c plain) (apart_class d apart)
    (λ joins flag. looks-none before c d plain joins flag)

-- ---- lines

pub tail_scalars : (front back : List ℕ) → all_scalars (front ++ back) ≡ true → (all_scalars front ≡ true) × (all_scalars back ≡ true)
tail_scalars front back all = both (all_scalars front) (all_scalars back) (sym (list_all-append _ front back) ∙ all)
  where
    both : (a b : Bool) → (a && b) ≡ true → (a ≡ true) × (b ≡ true)
    both true b is = (refl, is)
    both false b is = let broken = is in cc

pub plain-parted : (front back : List ℕ) (c d : ℕ) → all_scalars (front ++ c ∷ d ∷ back) ≡ true → is_plain_character c ≡ true → is_apart d ≡ true →
    clusters_in (front ++ c ∷ d ∷ back) ≡ clusters_in (front ++ c ∷ []) ++ clusters_in (d ∷ back)
plain-parted front back c d scalars plain apart =
    let line = front ++ c ∷ [] in
    let whole : front ++ c ∷ d ∷ back ≡ line ++ d ∷ back = sym (append_assoc front (c ∷ []) (d ∷ back)) in
    let parts = tail_scalars line (d ∷ back) (ap all_scalars (sym whole) ∙ scalars) in
    let breaks : cluster_rule (onto line []) (d ∷ back) ≡ true =
    ap (λ (before : List ℕ). cluster_rule before (d ∷ back)) (onto-push front [] c) ∙ breaks-behind (onto front []) back c d plain apart in
    ap clusters_in whole ∙ clusters_in-cut (line ++ d ∷ back) (ap all_scalars (sym whole) ∙ scalars) ∙
    cut-append cluster_rule cluster_rule-stops near [] line (d ∷ back) breaks ∙
    ap₂ (λ (xs : List (List ℕ)) (ys : List (List ℕ)). xs ++ ys) (sym (clusters_in-cut line parts.0))
    (cut-anew (onto line []) d (boundary-looks_no_further (onto line []) d back breaks) back ∙ sym (clusters_in-cut (d ∷ back) parts.1))

pub plain-alone : (line : List ℕ) (c : ℕ) → all_scalars (c ∷ line) ≡ true → StandsAlone (c ∷ line) → clusters_in (c ∷ line) ≡ (c ∷ []) ∷ clusters_in line
unfolding cut
plain-alone [] c scalars alone =
    clusters_in-cut (c ∷ []) scalars ∙ ap (λ b. attach b (c ∷ []) []) (cluster_rule-stops (c ∷ [])) ∙
    ap (λ (rest : List (List ℕ)). (c ∷ []) ∷ rest) (sym (clusters_in-cut [] refl))
plain-alone (d ∷ line) c scalars alone =
    plain-parted [] line c d scalars alone.0 alone.1 ∙
    ap (λ (first : List (List ℕ)). first ++ clusters_in (d ∷ line))
    (clusters_in-cut (c ∷ []) (tail_scalars (c ∷ []) (d ∷ line) scalars).0 ∙ ap (λ b. attach b (c ∷ []) []) (cluster_rule-stops (c ∷ [])))
