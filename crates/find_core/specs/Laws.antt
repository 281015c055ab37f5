-- Laws of matches, of all texts.
use Rattle.std.specs.Prelude.{◌≡◌, ℕ, ◌+◌, ◌<◌, ◌≤◌, ◌++◌, Bool, List, [], ◌∷◌, length, map, drop, slice_range}
use Rattle.plain_text.specs.declared.run.Run.{Run}
use Rattle.find_core.specs.Matches.{folded, matches_of}

-- the characters stand in the text from this gap on
abbrev pub IsMatchAt : List ℕ → List ℕ → ℕ → Type 0
IsMatchAt chars text gap = slice_range text gap (gap + length chars) ≡ chars

-- the first match that begins at a gap or after it: it is what is looked for, and none begins between
pub record IsNextMatch (chars text : List ℕ) (from : ℕ) (run : Run) : Type 0 where
  pub after : from ≤ run.start
  pub end : run.end ≡ run.start + length chars
  pub is : IsMatchAt chars text run.start
  pub first : (gap : ℕ) → from ≤ gap → gap < run.start → ¬ IsMatchAt chars text gap

-- each run is the first match from the end of the one before it on, the first from `from` on, and none follows the last
abbrev pub AreMatchesFrom : List ℕ → List ℕ → ℕ → List Run → Type 0
AreMatchesFrom chars text from [] = (gap : ℕ) → from ≤ gap → ¬ IsMatchAt chars text gap
AreMatchesFrom chars text from (run ∷ runs) = IsNextMatch chars text from run × AreMatchesFrom chars text run.end runs

-- the matches of a text are such runs of the text as it is compared, and no other runs are
pub record MatchesAreFromTheLeft : Type 0 where
  pub are : (text chars : List ℕ) (fold : Bool) → 0 < length chars → AreMatchesFrom (folded fold chars) (folded fold text) 0 (matches_of text chars fold)
  pub alone : (text chars : List ℕ) (from : ℕ) (runs others : List Run) → AreMatchesFrom chars text from runs → AreMatchesFrom chars text from others →
      runs ≡ others

-- the same run, so many characters further right
abbrev pub further : ℕ → Run → Run
further by run = record { start = run.start + by; end = run.end + by }

-- from the end of a match on, the rest of the matches are those of the rest of the text
pub record MatchesGoOn : Type 0 where
  pub rest : (text chars : List ℕ) (fold : Bool) (before : List Run) (run : Run) (after : List Run) → matches_of text chars fold ≡ before ++ run ∷ after →
      after ≡ map (further run.end) (matches_of (drop run.end text) chars fold)
