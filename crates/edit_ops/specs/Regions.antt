-- What gestures make of the regions of a selection.
use Rattle.std.specs.Prelude.{ℕ, ◌-◌, Bool, not, nat_le, ◌&&◌, ◌==◌, if◌then◌else◌, List, [], ◌∷◌, ◌++◌, length, map, take, drop, None}
use Rattle.std.specs.List.{filter, list_any}
use Rattle.plain_text.specs.declared.selection.Region.{Region}
use Rattle.xi_plain.specs.declared.motion.Touch.{Touch}
use Rattle.xi_plain.specs.declared.motion.Touch.TheVariants.{Point, Toggle, Range, Word, Line}
use Rattle.selection_core.specs.Selection.{caret_of, greater_end, lesser_end, selection_of, with_region}
use Rattle.edit_ops.specs.Points.{line_around, word_around}

-- a region that keeps its ends and has no goal
abbrev pub without_goal : Region → Region
without_goal region = record region { goal = None }

-- a region whose caret goes to a gap
abbrev pub with_caret : ℕ → Region → Region
with_caret gap region = record { anchor = region.anchor; caret = gap; goal = None }

-- the last region alone, in the order of the text, and the others
abbrev pub last_region : List Region → List Region
last_region regions = drop (length regions - 1) regions

abbrev pub all_but_last : List Region → List Region
all_but_last regions = take (length regions - 1) regions

-- whether a gap is in a region, its ends included
abbrev pub has_gap : ℕ → Region → Bool
has_gap gap region = nat_le (lesser_end region) gap && nat_le gap (greater_end region)

-- what is left where some regions are taken away: where these are all, the last one
abbrev pub or_last : List Region → List Region → List Region
or_last regions [] = last_region regions
or_last regions (left ∷ others) = left ∷ others

-- THE REGIONS AFTER A TOGGLE: those that have the gap are taken away, but the last one stays where these are all; and where there is
-- none a caret is added there
abbrev pub toggled : ℕ → List Region → List Region
toggled gap regions =
    if list_any (has_gap gap) regions then or_last regions (filter (λ region. not (has_gap gap region)) regions)
    else with_region (caret_of gap) regions

-- THE REGION AFTER A DRAG: the last one, whose caret goes to the gap
abbrev pub dragged : ℕ → List Region → List Region
dragged gap regions = map (with_caret gap) (last_region regions)

-- THE REGIONS AFTER A RANGE: the caret of the last one goes to the gap, the others stay, and those that meet are merged
abbrev pub ranged : ℕ → List Region → List Region
ranged gap regions = selection_of (all_but_last regions ++ dragged gap regions)

-- THE REGIONS AFTER A GESTURE at a gap
abbrev pub regions_touched : List ℕ → Touch → ℕ → List Region → List Region
regions_touched text Point gap regions = caret_of gap ∷ []
regions_touched text Toggle gap regions = toggled gap regions
regions_touched text Range gap regions = ranged gap regions
regions_touched text Word gap regions = word_around text gap ∷ []
regions_touched text Line gap regions = line_around text gap ∷ []

-- the gesture that a click with this count is
abbrev pub touch_of_click : ℕ → Touch
touch_of_click count = if count == 2 then Word else if count == 3 then Line else Point
