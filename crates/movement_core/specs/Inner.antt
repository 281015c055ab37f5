-- What private functions say: boundaries of a line, and what loops compute.
use Rattle.std.specs.Prelude.{◌≡◌, ℕ, ◌<◌, ◌≤◌, ◌+◌, nat_le, nat_lt, Bool, true, ◌||◌, if◌then◌else◌, List, [], ◌∷◌, length, reverse, Option, Some, None, slice_get}
use Rattle.std.specs.List.{Contains, prefix_len}
use Rattle.cluster_core.specs.Boundaries.{clusters_in, ends_from}
use Rattle.plain_text.specs.declared.selection.Region.{Region}
use Rattle.selection_core.specs.Selection.{is_caret}
use Rattle.cluster_core.specs.Walk.{ClusterAt}
use Rattle.movement_core.specs.Words.{is_alike, is_between_words, run_len, word_len}
use Rattle.movement_core.specs.declared.words.Trail.{Trail}

-- a boundary of a line, as a gap
abbrev pub IsGapOf : List ℕ → ℕ → Type 0
IsGapOf line n = Contains (0 ∷ ends_from 0 (clusters_in line)) n

-- the least boundary of a line above a gap
pub record IsNextGap (line : List ℕ) (at n : ℕ) : Type 0 where
  pub gap : IsGapOf line n
  pub inside : n ≤ length line
  pub above : at < n
  pub least : (other : ℕ) → IsGapOf line other → at < other → other ≤ length line → n ≤ other

-- the greatest boundary of a line that is not above a gap
pub record IsGapUpTo (line : List ℕ) (at n : ℕ) : Type 0 where
  pub gap : IsGapOf line n
  pub inside : n ≤ length line
  pub by_then : n ≤ at
  pub greatest : (other : ℕ) → IsGapOf line other → other ≤ at → n ≤ length line → other ≤ n

-- of what a walk gives, what comes after a gap; the one before ends at `at`
abbrev pub items_past : ℕ → ℕ → List ClusterAt → List ClusterAt
items_past from at [] = []
items_past from at (item ∷ items) = if nat_lt at from then items_past from item.end items else item ∷ items

-- the last end of a walk that is not past `last` and whose column is at most `column`; else `best`
abbrev pub fitting : ℕ → ℕ → ℕ → List ClusterAt → ℕ
fitting last column best [] = best
fitting last column best (item ∷ items) =
    if nat_lt last item.end then best else fitting last column (if nat_le item.column column then item.end else best) items

-- whether a word motion passes over a character, where the word begins with this first one; `None` before a word begins
abbrev pub goes_on : Option ℕ → ℕ → Bool
goes_on None c = true
goes_on (Some first) c = is_alike first c

-- the first character of the word, past one character more
abbrev pub begun : Option ℕ → ℕ → Option ℕ
begun None c = if is_between_words c then None else Some c
begun (Some first) c = Some first

-- how many of these characters a word motion passes over, where the word begins with this first one
abbrev pub reach_from : Option ℕ → List ℕ → ℕ
reach_from first [] = 0
reach_from first (c ∷ characters) = if goes_on first c then 1 + reach_from (begun first c) characters else 0

-- how long the run of one class is, where it begins with this first character; `None` before it begins
abbrev pub run_from : Option ℕ → List ℕ → ℕ
run_from None characters = run_len characters
run_from (Some first) characters = prefix_len (is_alike first) characters

-- the run of a character's class, after a run of this last character's
abbrev pub run_with : Option ℕ → ℕ → ℕ → ℕ
run_with None run c = 1
run_with (Some last) run c = if is_alike c last then run + 1 else 1

-- what the end of a text is to a word motion to the left
pub record IsTrail (text : List ℕ) (trail : Trail) : Type 0 where
  pub len : trail.len ≡ word_len (reverse text)
  pub run : trail.run ≡ run_len (reverse text)
  pub last : trail.last ≡ slice_get (reverse text) 0

-- whether a move to the left or right takes the caret of a region, and not an end
abbrev pub moves_caret : Bool → Region → Bool
moves_caret extend region = extend || is_caret region

-- a region whose caret goes to a gap, and its anchor too unless it is extended
abbrev pub placed_region : Region → Bool → ℕ → Option ℕ → Region
placed_region region extend caret goal = record { anchor = if extend then region.anchor else caret; caret = caret; goal = goal }
