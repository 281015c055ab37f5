-- WHICH LINES OF A SCREEN ARE VALID, and what becomes of that by what a front end is told.
use Rattle.std.specs.Prelude.{ℕ, Bool, true, false, if◌then◌else◌, List, [], ◌∷◌, ◌++◌, length, map, take, drop, replicate, codes, Option, Some, None, is_some}
use Rattle.std.specs.List.{filter}
use Rattle.std.specs.Str.{bytes_eq}
use Rattle.serde_json.specs.Data.{Data, Items, no_items, item}
use Rattle.serde_json.specs.Find.{as_str}
use Rattle.plain_screen.specs.declared.screen.Op.{Op}
use Rattle.plain_screen.specs.declared.screen.Op.TheVariants.{Copy, Skip, Invalidate, Ins, Update}
use Rattle.plain_screen.specs.Screen.{Screen}
use Rattle.view_update.specs.Reading.{as_count, member_as}
use Rattle.screen_flags.specs.declared.change.Change.{Change}
use Rattle.screen_flags.specs.declared.change.Change.TheVariants.{Keeps, Skips, Loses, Gains}

-- whether each line of a screen is valid
abbrev pub flags_of : Screen → List Bool
flags_of screen = map is_some screen

-- how many of them are
abbrev pub count_valid : List Bool → ℕ
count_valid flags = length (filter (λ flag. flag) flags)

-- HOW MANY LINES of a screen are valid
abbrev pub valid_lines : Screen → ℕ
valid_lines screen = length (filter is_some screen)

-- what an operation does to lines, whatever stands in them
abbrev pub change_of : Op → Change
change_of (Copy n ln) = Keeps n
change_of (Skip n) = Skips n
change_of (Invalidate n) = Loses n
change_of (Ins lines) = Gains (length lines)
change_of (Update ln restyles) = Keeps (length restyles)

-- what changes make of the flags of the old lines that are left
abbrev pub flags_after : List Bool → List Change → List Bool
flags_after old [] = []
flags_after old (Keeps n ∷ changes) = take n old ++ flags_after (drop n old) changes
flags_after old (Skips n ∷ changes) = flags_after (drop n old) changes
flags_after old (Loses n ∷ changes) = replicate n false ++ flags_after old changes
flags_after old (Gains n ∷ changes) = replicate n true ++ flags_after old changes

-- the change of so many lines that has this name
abbrev pub change_named : List ℕ → ℕ → Option Change
change_named name n =
    if bytes_eq name (codes "copy") then Some (Keeps n)
    else (if bytes_eq name (codes "skip") then Some (Skips n)
    else (if bytes_eq name (codes "invalidate") then Some (Loses n)
    else (if bytes_eq name (codes "ins") then Some (Gains n) else (if bytes_eq name (codes "update") then Some (Keeps n) else None))))

-- the same, where there are a name and a number
abbrev pub change_from : Option (List ℕ) → Option ℕ → Option Change
change_from (Some name) (Some n) = change_named name n
change_from name n = None

-- the change that a value says, if it says one
abbrev pub change_in : Data → Option Change
change_in d = change_from (member_as as_str (codes "op") d) (member_as as_count (codes "n") d)

-- with the change before these, if there is one
abbrev pub with_change : Option Change → List Change → List Change
with_change None changes = changes
with_change (Some change) changes = change ∷ changes

-- the changes that values say
abbrev pub changes_in : Items → List Change
changes_in no_items = []
changes_in (item d items) = with_change (change_in d) (changes_in items)
