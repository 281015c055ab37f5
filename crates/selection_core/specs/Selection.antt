-- Regions of a selection: their ends, when two meet and what they become, and a selection with one region more.
use Rattle.std.specs.Prelude.{◌≡◌, ℕ, ◌≤◌, min, max, Bool, true, false, ◌&&◌, ◌||◌, if◌then◌else◌, nat_lt, nat_le, ◌==◌, List, [], ◌∷◌, None}
use Rattle.plain_text.specs.declared.selection.Region.{Region}

-- the end of a region that is further left
abbrev pub lesser_end : Region → ℕ
lesser_end region = min region.anchor region.caret

-- the end of a region that is further right
abbrev pub greater_end : Region → ℕ
greater_end region = max region.anchor region.caret

-- whether the region is a caret alone
abbrev pub is_caret : Region → Bool
is_caret region = region.anchor == region.caret

-- whether the region has its caret not before its anchor
abbrev pub is_forward : Region → Bool
is_forward region = nat_le region.anchor region.caret

-- the region that is a caret at a gap
abbrev pub caret_of : ℕ → Region
caret_of gap = record { anchor = gap; caret = gap; goal = None }

-- whether something stands between the ends of both regions
abbrev pub overlaps : Region → Region → Bool
overlaps first second = nat_lt (lesser_end first) (greater_end second) && nat_lt (lesser_end second) (greater_end first)

-- whether a gap is in both regions, their ends included
abbrev pub touches : Region → Region → Bool
touches first second = nat_le (lesser_end first) (greater_end second) && nat_le (lesser_end second) (greater_end first)

-- whether two regions meet, and so become one: they overlap, or they touch and one is a caret
abbrev pub meets : Region → Region → Bool
meets first second = overlaps first second || touches first second && (is_caret first || is_caret second)

-- the region from one gap to another, whose caret is the second if it is `forward`, else the first; it has no goal
abbrev pub spanning : Bool → ℕ → ℕ → Region
spanning true from to = record { anchor = from; caret = to; goal = None }
spanning false from to = record { anchor = to; caret = from; goal = None }

-- two regions as one, which is forward where one of the two is
abbrev pub joined : Region → Region → Region
joined first second =
    spanning (is_forward first || is_forward second) (min (lesser_end first) (lesser_end second)) (max (greater_end first) (greater_end second))

-- a region and those after it, from the left: each joins the one before it where the two meet
abbrev pub merged_from : Region → List Region → List Region
merged_from last [] = last ∷ []
merged_from last (region ∷ regions) =
    if meets last region then merged_from (joined last region) regions else last ∷ merged_from region regions

-- the regions, each joined to the merged one before it where the two meet
abbrev pub merged_regions : List Region → List Region
merged_regions [] = []
merged_regions (region ∷ regions) = merged_from region regions

-- whether a region comes before another: by its lesser end, then by its greater end
abbrev pub comes_before : Region → Region → Bool
comes_before first second =
    nat_lt (lesser_end first) (lesser_end second) ||
    lesser_end first == lesser_end second && nat_lt (greater_end first) (greater_end second)

-- the regions with one more, which stands after those that come before it
abbrev pub with_in_order : Region → List Region → List Region
with_in_order region [] = region ∷ []
with_in_order region (first ∷ regions) =
    if comes_before first region then first ∷ with_in_order region regions else region ∷ first ∷ regions

-- the regions in order
abbrev pub sorted_regions : List Region → List Region
sorted_regions [] = []
sorted_regions (region ∷ regions) = with_in_order region (sorted_regions regions)

-- THE SELECTION of regions that come in any order: they are put in order, and merged from the left
abbrev pub selection_of : List Region → List Region
selection_of regions = merged_regions (sorted_regions regions)

-- no region comes before the one that stands left of it
abbrev pub AreSorted : List Region → Type 0
AreSorted [] = Unit {0}
AreSorted (region ∷ []) = Unit {0}
AreSorted (region ∷ next ∷ regions) = (comes_before next region ≡ false) × AreSorted (next ∷ regions)

-- the regions of a selection after one is added
abbrev pub with_region : Region → List Region → List Region
with_region region regions = merged_regions (with_in_order region regions)

-- the regions stand in order right of a region, and none of them meets the one before it
abbrev pub AreRightOf : Region → List Region → Type 0
AreRightOf last [] = Unit {0}
AreRightOf last (region ∷ regions) = (greater_end last ≤ lesser_end region) × (meets last region ≡ false) × AreRightOf region regions

-- the regions are sorted, and no two of them meet
abbrev pub IsSelection : List Region → Type 0
IsSelection [] = Unit {0}
IsSelection (region ∷ regions) = AreRightOf region regions

-- the caret of the last region; that of no region is 0
abbrev pub last_caret : List Region → ℕ
last_caret [] = 0
last_caret (region ∷ []) = region.caret
last_caret (region ∷ (next ∷ regions)) = last_caret (next ∷ regions)
