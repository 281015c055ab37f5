-- A subset of the positions of a text is a list of flags, one for each position: true for a member.
use Rattle.std.specs.Prelude.{ℕ, ◌+◌, Bool, true, false, not, ◌&&◌, ◌||◌, List, [], ◌∷◌, map, if◌then◌else◌, slice_index_or}

-- how many positions are members
abbrev pub count : List Bool → ℕ
count [] = 0
count (flag ∷ flags) = (if flag then 1 else 0) + count flags

-- whether position i is a member; none is at the length or past it
abbrev pub contains : List Bool → ℕ → Bool
contains flags i = slice_index_or flags i false

-- the members of a text whose first position is called `at`, in rising order
abbrev pub members_from : ℕ → List Bool → List ℕ
members_from at [] = []
members_from at (true ∷ flags) = at ∷ members_from (at + 1) flags
members_from at (false ∷ flags) = members_from (at + 1) flags

-- the members, in rising order
abbrev pub members : List Bool → List ℕ
members flags = members_from 0 flags

-- two subsets of one text, combined position by position
abbrev pub at_each : (Bool → Bool → Bool) → List Bool → List Bool → List Bool
at_each f [] ys = []
at_each f (x ∷ xs) [] = []
at_each f (x ∷ xs) (y ∷ ys) = f x y ∷ at_each f xs ys

-- the positions that are members of one or the other
abbrev pub union : List Bool → List Bool → List Bool
union xs ys = at_each (λ x y. x || y) xs ys

-- the members of the first that are no members of the second
abbrev pub minus : List Bool → List Bool → List Bool
minus xs ys = at_each (λ x y. x && not y) xs ys

-- the positions that are members of exactly one of the two
abbrev pub symmetric_difference : List Bool → List Bool → List Bool
symmetric_difference xs ys = at_each (λ x y. x && not y || y && not x) xs ys

-- the positions that are no members
abbrev pub complement : List Bool → List Bool
complement flags = map not flags

-- the items of a text at the positions outside `by`, in order
abbrev pub items_outside : {X : Type 0} → List Bool → List X → List X
items_outside [] xs = []
items_outside (b ∷ by) [] = []
items_outside (true ∷ by) (x ∷ xs) = items_outside by xs
items_outside (false ∷ by) (x ∷ xs) = x ∷ items_outside by xs

-- the positions outside `by` have these flags in order, and the members of `by` are all `inside`
abbrev pub expand_as : Bool → List Bool → List Bool → List Bool
expand_as inside flags [] = []
expand_as inside flags (true ∷ by) = inside ∷ expand_as inside flags by
expand_as inside [] (false ∷ by) = false ∷ expand_as inside [] by
expand_as inside (flag ∷ flags) (false ∷ by) = flag ∷ expand_as inside flags by

-- the subset in the longer text that also has the positions `by`, which are no members
abbrev pub expand : List Bool → List Bool → List Bool
expand flags by = expand_as false flags by

-- the same, where the positions `by` are members
abbrev pub expand_in : List Bool → List Bool → List Bool
expand_in flags by = expand_as true flags by

-- the subset in the shorter text that lacks the positions `by`
abbrev pub shrink : List Bool → List Bool → List Bool
shrink flags by = items_outside by flags
