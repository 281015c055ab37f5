-- A line from a boundary on is cut as it is without what stands before it.
use Rattle.std.proofs.Common.{◌≡◌, ℕ, ◌&&◌, ◌||◌, not, Bool, true, false, ◌⊎◌, inl, inr, None, List, [], ◌∷◌, ◌++◌, map, refl, sym, ap, ap₂, ◌∙◌, append-nil}
use Rattle.std.specs.Prelude.{unwrap_or}
use Rattle.std.specs.List.{concat}
use Rattle.std.specs.Str.{all_scalars}
use Rattle.std.proofs.lemmas.Bool.{cases_Bool}
use Rattle.std.proofs.lemmas.List.Folds.{list_all-append}
use Rattle.ucd_table.proofs.Facts.{Stepped-everywhere}
use Rattle.ucd_table.proofs.Stepped.{zip_stepped}
use Rattle.ucd_breaks.specs.GraphemeClusterBreak.{grapheme_cluster_break}
use Rattle.ucd_breaks.specs.declared.GraphemeClusterBreak.{GraphemeClusterBreak}
use Rattle.ucd_breaks.specs.declared.GraphemeClusterBreak.TheVariants.{Control, Cr, Extend, L, Lf, Lv, Lvt, Prepend, RegionalIndicator, SpacingMark, T, V, Other, Zwj}
use Rattle.ucd_breaks.proofs.GraphemeClusterBreakLemmas.{grapheme_cluster_break_stepped}
use Rattle.ucd_derived.specs.IndicConjunctBreak.{indic_conjunct_break}
use Rattle.ucd_derived.specs.declared.IndicConjunctBreak.{IndicConjunctBreak}
use Rattle.ucd_derived.specs.declared.IndicConjunctBreak.TheVariants as InCb
use Rattle.ucd_derived.proofs.IndicConjunctBreakLemmas.{indic_conjunct_break_stepped}
use Rattle.ucd_emoji.specs.Binary.{is_extended_pictographic}
use Rattle.ucd_emoji.proofs.BinaryLemmas.{is_extended_pictographic_stepped}
use Rattle.unicode_segmentation.specs.Grapheme.{break_by_pair, ends_in_linker, ends_in_pictograph, ends_in_half_flag, is_consonant, is_extend, is_zwj, is_regional, joins_conjunct, joins_emoji, joins_flag, is_grapheme_break}
use Rattle.unicode_segmentation.specs.Segments.{Rule, cut}
use Rattle.unicode_segmentation.proofs.Computing.{unicode_segmentation}
use Rattle.unicode_segmentation.proofs.SegmentsLemmas.{attach}
use Rattle.cluster_core.specs.Boundaries.{clusters_in}
use Rattle.cluster_core.proofs.BoundaryLemmas.{onto, cluster_rule, cluster_rule-stops}
use Rattle.cluster_core.proofs.FeedLemmas.{clusters_in-cut, concat-cut, cut-parted}

-- ---- classes of characters

-- a character of this class joins on to what stands before it, but for a line end or a control character
abbrev joins_left : GraphemeClusterBreak → Bool
joins_left Extend = true
joins_left Zwj = true
joins_left _ = false

-- behind a character of this class every line is broken, but for CR LF
abbrev pub ends_all : GraphemeClusterBreak → Bool
ends_all Control = true
ends_all Cr = true
ends_all Lf = true
ends_all _ = false

-- what the rule on conjuncts looks past, and with it what it looks for
abbrev is_looked_past : IndicConjunctBreak → Bool
is_looked_past InCb.Extend = true
is_looked_past _ = false

abbrev pub is_linked : IndicConjunctBreak → Bool
is_linked InCb.Extend = true
is_linked InCb.Linker = true
is_linked _ = false

looked_past-joins : (c : ℕ) → (not (is_looked_past (indic_conjunct_break c)) || joins_left (grapheme_cluster_break c)) ≡ true
unfolding unicode_segmentation
looked_past-joins c =
    Stepped-everywhere (λ x. not (is_looked_past (indic_conjunct_break x)) || joins_left (grapheme_cluster_break x))
    (zip_stepped (λ a g. not (is_looked_past a) || joins_left g) indic_conjunct_break grapheme_cluster_break indic_conjunct_break_stepped grapheme_cluster_break_stepped)
    refl c

ends_all-no_linker : (c : ℕ) → (not (ends_all (grapheme_cluster_break c)) || not (is_linked (indic_conjunct_break c))) ≡ true
unfolding unicode_segmentation
ends_all-no_linker c =
    Stepped-everywhere (λ x. not (ends_all (grapheme_cluster_break x)) || not (is_linked (indic_conjunct_break x)))
    (zip_stepped (λ g a. not (ends_all g) || not (is_linked a)) grapheme_cluster_break indic_conjunct_break grapheme_cluster_break_stepped indic_conjunct_break_stepped)
    refl c

ends_all-no_pictograph : (c : ℕ) → (not (ends_all (grapheme_cluster_break c)) || not (is_extended_pictographic c)) ≡ true
unfolding unicode_segmentation
ends_all-no_pictograph c =
    Stepped-everywhere (λ x. not (ends_all (grapheme_cluster_break x)) || not (is_extended_pictographic x))
    (zip_stepped (λ g p. not (ends_all g) || not p) grapheme_cluster_break is_extended_pictographic grapheme_cluster_break_stepped is_extended_pictographic_stepped)
    refl c

-- ---- what a boundary lies between

left_joined : (g h : GraphemeClusterBreak) (other : Bool) → joins_left h ≡ true → unwrap_or (break_by_pair true g h) other ≡ true → ends_all g ≡ true
left_joined g Extend other joins breaks = behind g breaks
  where
    behind : (g : GraphemeClusterBreak) → unwrap_or (break_by_pair true g Extend) other ≡ true → ends_all g ≡ true
    behind Control breaks = refl
    behind Cr breaks = refl
    behind Lf breaks = refl
    behind Extend breaks = let broken = breaks in cc
    behind L breaks = let broken = breaks in cc
    behind Lv breaks = let broken = breaks in cc
    behind Lvt breaks = let broken = breaks in cc
    behind Prepend breaks = let broken = breaks in cc
    behind RegionalIndicator breaks = let broken = breaks in cc
    behind SpacingMark breaks = let broken = breaks in cc
    behind T breaks = let broken = breaks in cc
    behind V breaks = let broken = breaks in cc
    behind Other breaks = let broken = breaks in cc
    behind Zwj breaks = let broken = breaks in cc
left_joined g Zwj other joins breaks = behind g breaks
  where
    behind : (g : GraphemeClusterBreak) → unwrap_or (break_by_pair true g Zwj) other ≡ true → ends_all g ≡ true
    behind Control breaks = refl
    behind Cr breaks = refl
    behind Lf breaks = refl
    behind Extend breaks = let broken = breaks in cc
    behind L breaks = let broken = breaks in cc
    behind Lv breaks = let broken = breaks in cc
    behind Lvt breaks = let broken = breaks in cc
    behind Prepend breaks = let broken = breaks in cc
    behind RegionalIndicator breaks = let broken = breaks in cc
    behind SpacingMark breaks = let broken = breaks in cc
    behind T breaks = let broken = breaks in cc
    behind V breaks = let broken = breaks in cc
    behind Other breaks = let broken = breaks in cc
    behind Zwj breaks = let broken = breaks in cc
left_joined g Control other joins breaks = let broken = joins in cc
left_joined g Cr other joins breaks = let broken = joins in cc
left_joined g L other joins breaks = let broken = joins in cc
left_joined g Lf other joins breaks = let broken = joins in cc
left_joined g Lv other joins breaks = let broken = joins in cc
left_joined g Lvt other joins breaks = let broken = joins in cc
left_joined g Prepend other joins breaks = let broken = joins in cc
left_joined g RegionalIndicator other joins breaks = let broken = joins in cc
left_joined g SpacingMark other joins breaks = let broken = joins in cc
left_joined g T other joins breaks = let broken = joins in cc
left_joined g V other joins breaks = let broken = joins in cc
left_joined g Other other joins breaks = let broken = joins in cc

-- before a regional indicator the line is broken behind what ends all, or by the rules that look further back
flag_parted : (g h : GraphemeClusterBreak) (other : Bool) → is_regional h ≡ true → unwrap_or (break_by_pair true g h) other ≡ true →
    (ends_all g ≡ true) ⊎ (other ≡ true)
flag_parted g RegionalIndicator other regional breaks = behind g breaks
  where
    behind : (g : GraphemeClusterBreak) → unwrap_or (break_by_pair true g RegionalIndicator) other ≡ true → (ends_all g ≡ true) ⊎ (other ≡ true)
    behind Control breaks = inl refl
    behind Cr breaks = inl refl
    behind Lf breaks = inl refl
    behind Prepend breaks = let broken = breaks in cc
    behind Extend breaks = inr breaks
    behind L breaks = inr breaks
    behind Lv breaks = inr breaks
    behind Lvt breaks = inr breaks
    behind RegionalIndicator breaks = inr breaks
    behind SpacingMark breaks = inr breaks
    behind T breaks = inr breaks
    behind V breaks = inr breaks
    behind Other breaks = inr breaks
    behind Zwj breaks = inr breaks
flag_parted g Control other regional breaks = let broken = regional in cc
flag_parted g Cr other regional breaks = let broken = regional in cc
flag_parted g Extend other regional breaks = let broken = regional in cc
flag_parted g L other regional breaks = let broken = regional in cc
flag_parted g Lf other regional breaks = let broken = regional in cc
flag_parted g Lv other regional breaks = let broken = regional in cc
flag_parted g Lvt other regional breaks = let broken = regional in cc
flag_parted g Prepend other regional breaks = let broken = regional in cc
flag_parted g SpacingMark other regional breaks = let broken = regional in cc
flag_parted g T other regional breaks = let broken = regional in cc
flag_parted g V other regional breaks = let broken = regional in cc
flag_parted g Other other regional breaks = let broken = regional in cc
flag_parted g Zwj other regional breaks = let broken = regional in cc

-- what ends all is no regional indicator, and nothing that joins on
ends_all-no_flag : (g : GraphemeClusterBreak) → ends_all g ≡ true → (is_regional g ≡ false) × (is_extend g ≡ false) × (joins_left g ≡ false)
ends_all-no_flag Control ends = (refl, refl, refl)
ends_all-no_flag Cr ends = (refl, refl, refl)
ends_all-no_flag Lf ends = (refl, refl, refl)
ends_all-no_flag Extend ends = let broken = ends in cc
ends_all-no_flag L ends = let broken = ends in cc
ends_all-no_flag Lv ends = let broken = ends in cc
ends_all-no_flag Lvt ends = let broken = ends in cc
ends_all-no_flag Prepend ends = let broken = ends in cc
ends_all-no_flag RegionalIndicator ends = let broken = ends in cc
ends_all-no_flag SpacingMark ends = let broken = ends in cc
ends_all-no_flag T ends = let broken = ends in cc
ends_all-no_flag V ends = let broken = ends in cc
ends_all-no_flag Other ends = let broken = ends in cc
ends_all-no_flag Zwj ends = let broken = ends in cc

-- THE RULES LOOK NO FURTHER BACK than to a character that stands behind these: of what stands there they learn no more than of nothing
pub record LooksNoFurther (before : List ℕ) (c : ℕ) : Type 0 where
  pub conjunct : is_looked_past (indic_conjunct_break c) ≡ true → ends_in_linker (map indic_conjunct_break before) ≡ false
  pub emoji : joins_left (grapheme_cluster_break c) ≡ true → ends_in_pictograph before ≡ false
  pub flag : is_regional (grapheme_cluster_break c) ≡ true → ends_in_half_flag before ≡ false

pub implied : (a b : Bool) → (not a || b) ≡ true → a ≡ true → b ≡ true
implied true b either is = either
implied false b either is = let broken = is in cc

pub negated : (b : Bool) → not b ≡ true → b ≡ false
negated true is = sym is
negated false is = refl

pub linker_behind : (v : IndicConjunctBreak) (before : List IndicConjunctBreak) → is_linked v ≡ false → ends_in_linker (v ∷ before) ≡ false
unfolding ends_in_linker
linker_behind InCb.Consonant before passed = refl
linker_behind InCb.None before passed = refl
linker_behind InCb.Extend before passed = let broken = passed in cc
linker_behind InCb.Linker before passed = let broken = passed in cc

module _ (last : ℕ) (before : List ℕ) (ends : ends_all (grapheme_cluster_break last) ≡ true) where
  no_flag : (is_regional (grapheme_cluster_break last) ≡ false) × (is_extend (grapheme_cluster_break last) ≡ false) × (joins_left (grapheme_cluster_break last) ≡ false)
  no_flag = ends_all-no_flag (grapheme_cluster_break last) ends

  no_linker : ends_in_linker (map indic_conjunct_break (last ∷ before)) ≡ false
  no_linker =
      linker_behind (indic_conjunct_break last) (map indic_conjunct_break before) (negated _ (implied _ _ (ends_all-no_linker last) ends))

  no_pictograph : ends_in_pictograph (last ∷ before) ≡ false
  unfolding ends_in_pictograph
  no_pictograph =
      let none = negated _ (implied _ _ (ends_all-no_pictograph last) ends) in
      ap₂ (λ p e. p || (e && ends_in_pictograph before)) none no_flag.1

  no_half_flag : ends_in_half_flag (last ∷ before) ≡ false
  unfolding ends_in_half_flag
  no_half_flag = ap (λ r. r && not (ends_in_half_flag before)) no_flag.0

half_flag-alone : (half conjunct emoji : Bool) → not (conjunct || emoji || (half && true)) ≡ true → half ≡ false
half_flag-alone false conjunct emoji none = refl
half_flag-alone true true emoji none = let broken = none in cc
half_flag-alone true false true none = let broken = none in cc
half_flag-alone true false false none = let broken = none in cc

pub boundary-looks_no_further : (before : List ℕ) (c : ℕ) (after : List ℕ) → cluster_rule before (c ∷ after) ≡ true → LooksNoFurther before c
unfolding is_grapheme_break ends_in_linker ends_in_pictograph ends_in_half_flag
boundary-looks_no_further [] c after breaks = record { conjunct = λ is. refl; emoji = λ is. refl; flag = λ is. refl }
boundary-looks_no_further (last ∷ before) c after breaks = record {
  conjunct = λ is. no_linker last before (left_joined _ _ _ (implied _ _ (looked_past-joins c) is) breaks);
  emoji = λ is. no_pictograph last before (left_joined _ _ _ is breaks);
  flag = λ is. by is (flag_parted _ _ _ is breaks);
}
  where
    by : is_regional (grapheme_cluster_break c) ≡ true → (ends_all (grapheme_cluster_break last) ≡ true)
        ⊎ (not (joins_conjunct (last ∷ before) c || joins_emoji (last ∷ before) c || joins_flag (last ∷ before) c) ≡ true) → ends_in_half_flag (last ∷ before) ≡ false
    by is (inl ends) = no_half_flag last before ends
    by is (inr none) =
        half_flag-alone (ends_in_half_flag (last ∷ before)) (joins_conjunct (last ∷ before) c) (joins_emoji (last ∷ before) c)
        (ap (λ r. not (joins_conjunct (last ∷ before) c || joins_emoji (last ∷ before) c || (ends_in_half_flag (last ∷ before) && r))) (sym is) ∙ none)

-- ---- what stands before does not matter

-- whether one of the rules joins that look further back
unfoldable pub looks : List ℕ → ℕ → Bool
looks before next = joins_conjunct before next || joins_emoji before next || joins_flag before next

pub rule_by : (before : List ℕ) (last next : ℕ) (after : List ℕ) → cluster_rule (last ∷ before) (next ∷ after)
    ≡ unwrap_or (break_by_pair true (grapheme_cluster_break last) (grapheme_cluster_break next)) (not (looks (last ∷ before) next))
unfolding is_grapheme_break looks
rule_by before last next after = refl

looks-same : (these those : List ℕ) (next : ℕ) →
    ends_in_linker (map indic_conjunct_break these) ≡ ends_in_linker (map indic_conjunct_break those) →
    joins_emoji these next ≡ joins_emoji those next → ends_in_half_flag these ≡ ends_in_half_flag those → looks these next ≡ looks those next
unfolding looks
looks-same these those next conjunct emoji flag =
    ap₂ (λ a b. a || b) (ap₂ (λ a b. a || b) (ap (λ l. l && is_consonant (indic_conjunct_break next)) conjunct) emoji)
    (ap (λ h. h && is_regional (grapheme_cluster_break next)) flag)

module _ (before : List ℕ) (c : ℕ) (no_further : LooksNoFurther before c) where
  linker-same : (near : List ℕ) → ends_in_linker (map indic_conjunct_break (near ++ c ∷ before)) ≡ ends_in_linker (map indic_conjunct_break (near ++ c ∷ []))
  unfolding ends_in_linker
  linker-same [] = by (indic_conjunct_break c) refl
    where
      by : (v : IndicConjunctBreak) → indic_conjunct_break c ≡ v →
          ends_in_linker (v ∷ map indic_conjunct_break before) ≡ ends_in_linker (v ∷ [])
      by InCb.Consonant is = refl
      by InCb.None is = refl
      by InCb.Linker is = refl
      by InCb.Extend is = no_further.conjunct (ap is_looked_past is)
  linker-same (d ∷ near) = by (linker-same near) (indic_conjunct_break d)
    where
      by : ends_in_linker (map indic_conjunct_break (near ++ c ∷ before)) ≡ ends_in_linker (map indic_conjunct_break (near ++ c ∷ [])) →
          (v : IndicConjunctBreak) → ends_in_linker (v ∷ map indic_conjunct_break (near ++ c ∷ before)) ≡ ends_in_linker (v ∷ map indic_conjunct_break (near ++ c ∷ []))
      by later InCb.Consonant = refl
      by later InCb.None = refl
      by later InCb.Linker = refl
      by later InCb.Extend = later

  pictograph-same : (near : List ℕ) → ends_in_pictograph (near ++ c ∷ before) ≡ ends_in_pictograph (near ++ c ∷ [])
  unfolding ends_in_pictograph
  pictograph-same [] = ap (λ b. is_extended_pictographic c || b) (by (grapheme_cluster_break c) refl)
    where
      by : (g : GraphemeClusterBreak) → grapheme_cluster_break c ≡ g → (is_extend g && ends_in_pictograph before) ≡ (is_extend g && false)
      by Extend is = no_further.emoji (ap joins_left is)
      by Control is = refl
      by Cr is = refl
      by L is = refl
      by Lf is = refl
      by Lv is = refl
      by Lvt is = refl
      by Prepend is = refl
      by RegionalIndicator is = refl
      by SpacingMark is = refl
      by T is = refl
      by V is = refl
      by Other is = refl
      by Zwj is = refl
  pictograph-same (d ∷ near) = ap (λ b. is_extended_pictographic d || (is_extend (grapheme_cluster_break d) && b)) (pictograph-same near)

  half_flag-same : (near : List ℕ) → ends_in_half_flag (near ++ c ∷ before) ≡ ends_in_half_flag (near ++ c ∷ [])
  unfolding ends_in_half_flag
  half_flag-same [] = by (cases_Bool (is_regional (grapheme_cluster_break c)))
    where
      by : (is_regional (grapheme_cluster_break c) ≡ true) ⊎ (is_regional (grapheme_cluster_break c) ≡ false) →
          (is_regional (grapheme_cluster_break c) && not (ends_in_half_flag before)) ≡ (is_regional (grapheme_cluster_break c) && true)
      by (inl is) = ap (λ h. is_regional (grapheme_cluster_break c) && not h) (no_further.flag is)
      by (inr none) = ap (λ r. r && not (ends_in_half_flag before)) none ∙ sym (ap (λ r. r && true) none)
  half_flag-same (d ∷ near) = ap (λ h. is_regional (grapheme_cluster_break d) && not h) (half_flag-same near)

  emoji-same : (near : List ℕ) (next : ℕ) → joins_emoji (near ++ c ∷ before) next ≡ joins_emoji (near ++ c ∷ []) next
  unfolding ends_in_pictograph
  emoji-same [] next = ap (λ b. b && is_extended_pictographic next) (by (grapheme_cluster_break c) refl)
    where
      by : (g : GraphemeClusterBreak) → grapheme_cluster_break c ≡ g → (is_zwj g && ends_in_pictograph before) ≡ (is_zwj g && false)
      by Zwj is = no_further.emoji (ap joins_left is)
      by Extend is = refl
      by Control is = refl
      by Cr is = refl
      by L is = refl
      by Lf is = refl
      by Lv is = refl
      by Lvt is = refl
      by Prepend is = refl
      by RegionalIndicator is = refl
      by SpacingMark is = refl
      by T is = refl
      by V is = refl
      by Other is = refl
  emoji-same (d ∷ near) next = ap (λ b. is_zwj (grapheme_cluster_break d) && b && is_extended_pictographic next) (pictograph-same near)

  rule-same : (near after : List ℕ) → cluster_rule (near ++ c ∷ before) after ≡ cluster_rule (near ++ c ∷ []) after
  rule-same near [] = cluster_rule-stops (near ++ c ∷ before) ∙ sym (cluster_rule-stops (near ++ c ∷ []))
  rule-same [] (next ∷ after) =
      rule_by before c next after ∙
      ap (λ o. unwrap_or (break_by_pair true (grapheme_cluster_break c) (grapheme_cluster_break next)) (not o))
      (looks-same (c ∷ before) (c ∷ []) next (linker-same []) (emoji-same [] next) (half_flag-same [])) ∙
      sym (rule_by [] c next after)
  rule-same (d ∷ near) (next ∷ after) =
      rule_by (near ++ c ∷ before) d next after ∙
      ap (λ o. unwrap_or (break_by_pair true (grapheme_cluster_break d) (grapheme_cluster_break next)) (not o))
      (looks-same (d ∷ near ++ c ∷ before) (d ∷ near ++ c ∷ []) next (linker-same (d ∷ near)) (emoji-same (d ∷ near) next) (half_flag-same (d ∷ near))) ∙
      sym (rule_by (near ++ c ∷ []) d next after)

  cut-same : (near cs : List ℕ) → cut cluster_rule (near ++ c ∷ before) cs [] ≡ cut cluster_rule (near ++ c ∷ []) cs []
  unfolding cut
  cut-same near [] = refl
  cut-same near (d ∷ cs) = ap₂ (λ b pieces. attach b (d ∷ []) pieces) (rule-same (d ∷ near) (cs ++ [])) (cut-same (d ∷ near) cs)

  pub cut-anew : (cs : List ℕ) → cut cluster_rule before (c ∷ cs) [] ≡ cut cluster_rule [] (c ∷ cs) []
  unfolding cut
  cut-anew cs = ap₂ (λ b pieces. attach b (c ∷ []) pieces) (rule-same [] (cs ++ [])) (cut-same [] cs)

-- ---- the other clusters

cut-others : (rule : Rule) (stops : (before : List ℕ) → rule before [] ≡ true) (before cs first : List ℕ) (others : List (List ℕ)) →
    cut rule before cs [] ≡ first ∷ others → others ≡ cut rule (onto first before) (concat others) []
unfolding cut
cut-others rule stops before [] first others is = let broken = is in cc
cut-others rule stops before (c ∷ cs) first others is =
    by (λ piece same. cut-others rule stops (c ∷ before) cs piece others same) (rule (c ∷ before) (cs ++ [])) (cut rule (c ∷ before) cs []) refl is
  where
    Later : Type 0
    Later = (piece : List ℕ) → cut rule (c ∷ before) cs [] ≡ piece ∷ others → others ≡ cut rule (onto piece (c ∷ before)) (concat others) []

    by : Later → (breaks : Bool) (rest : List (List ℕ)) → cut rule (c ∷ before) cs [] ≡ rest → attach breaks (c ∷ []) rest ≡ first ∷ others →
        others ≡ cut rule (onto first before) (concat others) []
    by later true rest pieces same =
        let own : first ≡ c ∷ [] = cc in
        let those : others ≡ rest = cc in
        those ∙ sym pieces ∙
        ap₂ (λ (p : List ℕ) (ds : List ℕ). cut rule (onto p before) ds []) (sym own)
        (sym (concat-cut rule (c ∷ before) cs) ∙ ap concat (pieces ∙ sym those))
    by later false [] pieces same =
        let own : first ≡ c ∷ [] = cc in
        let none : others ≡ [] = cc in
        ap (λ (those : List (List ℕ)). those) none ∙ sym (ap (λ (those : List (List ℕ)). cut rule (onto first before) (concat those) []) none)
    by later false (piece ∷ rest) pieces same =
        let own : first ≡ c ∷ piece = cc in
        let those : others ≡ rest = cc in
        later piece (pieces ∙ ap (λ ps. piece ∷ ps) (sym those)) ∙ ap (λ (p : List ℕ). cut rule (onto p before) (concat others) []) (sym own)

-- A LINE FROM ITS FIRST CLUSTER'S END ON has its other clusters
pub clusters-anew : (line : List ℕ) → all_scalars line ≡ true → (first : List ℕ) (others : List (List ℕ)) → clusters_in line ≡ first ∷ others →
    others ≡ clusters_in (concat others)
unfolding cut
clusters-anew line scalars first others parts =
    let pieces : cut cluster_rule [] line [] ≡ first ∷ others = sym (clusters_in-cut line scalars) ∙ parts in
    let whole : first ++ concat others ≡ line = sym (ap concat pieces) ∙ concat-cut cluster_rule [] line in
    let later : all_scalars (concat others) ≡ true = rest_scalars first (concat others) (ap all_scalars whole ∙ scalars) in
    cut-others cluster_rule cluster_rule-stops [] line first others pieces ∙
    by (onto first []) (concat others)
    (ap (λ (p : List ℕ). cluster_rule (onto p []) (concat others)) (sym (append-nil first)) ∙
    cut-parted cluster_rule cluster_rule-stops [] line first [] others pieces) ∙ sym (clusters_in-cut (concat others) later)
  where
    rest_scalars : (front back : List ℕ) → all_scalars (front ++ back) ≡ true → all_scalars back ≡ true
    rest_scalars front back all = both (all_scalars front) (all_scalars back) (sym (list_all-append _ front back) ∙ all)
      where
        both : (a b : Bool) → (a && b) ≡ true → b ≡ true
        both true b is = is
        both false b is = let broken = is in cc

    by : (before cs : List ℕ) → cluster_rule before cs ≡ true → cut cluster_rule before cs [] ≡ cut cluster_rule [] cs []
    by before [] breaks = refl
    by before (c ∷ cs) breaks = cut-anew before c (boundary-looks_no_further before c cs breaks) cs
