-- What private functions say: strides under a tree, and how far a search has come.
use Rattle.std.specs.Prelude.{◌≡◌, ℕ, ◌+◌, ◌-◌, ◌^◌, ◌<◌, ◌≤◌, min, List, [], ◌∷◌, length, take, ⊤}
use Rattle.std.specs.List.{flat_map}
use Rattle.plain_text.specs.declared.run.Run.{Run}
use Rattle.shared_tree.specs.Shape.{Shape}
use Rattle.find_core.specs.Matches.{folded}
use Rattle.find_core.specs.Laws.{IsMatchAt, IsNextMatch}
use Rattle.match_index.specs.declared.search.Walked.{Walked}
use Rattle.match_index.specs.Found.{Found, joined_onto, runs_in}
use Rattle.match_index.specs.Strides.{runs_behind, span}

-- the strides of a tree, in order
abbrev pub strides_under : Shape (List ℕ) → List ℕ
strides_under tree = flat_map (λ leaf. leaf) tree.leaves

-- these are the strides of the matches
pub record HasRuns (found : Found) (strides : List ℕ) : Type 0 where
  pub are : runs_behind (length found.chars) 0 strides ≡ runs_in found

-- so many of the strides end by a gap, and they have so many characters
pub record IsLastBy (strides : List ℕ) (gap count end : ℕ) : Type 0 where
  pub inside : count ≤ length strides
  pub ends : end ≡ span (take count strides)
  pub by_then : end ≤ gap
  pub past : count < length strides → gap < span (take (count + 1) strides)

-- the strides of runs, where the run before them ends at this gap
abbrev pub strides_from : ℕ → List Run → List ℕ
strides_from last [] = []
strides_from last (run ∷ runs) = (run.end - last) ∷ strides_from run.end runs

-- the ends of runs, so many characters further right, do not fall, start at `last` or later, and fit 64 bits
abbrev pub EndsRise : ℕ → ℕ → List Run → Type 0
EndsRise ahead last [] = ⊤
EndsRise ahead last (run ∷ runs) = (last ≤ run.end + ahead) × (run.end + ahead < 2 ^ 64) × EndsRise ahead (run.end + ahead) runs

-- no match begins at a gap or after it, before another
abbrev pub NoneBetween : List ℕ → List ℕ → ℕ → ℕ → Type 0
NoneBetween chars text from to = (gap : ℕ) → from ≤ gap → gap < to → ¬ IsMatchAt chars text gap

-- the matches from a gap on that begin before another gap are these, and none stands across that one
abbrev pub AreMatchesUpTo : List ℕ → List ℕ → ℕ → List Run → ℕ → Type 0
AreMatchesUpTo chars text from [] to = (from ≤ to) × NoneBetween chars text from to
AreMatchesUpTo chars text from (run ∷ runs) to = IsNextMatch chars text from run × AreMatchesUpTo chars text run.end runs to

-- a search has come up to a gap: the matches from its start on are those of its strides
pub record IsWalked (found : Found) (walked : Walked) : Type 0 where
  pub are : AreMatchesUpTo (folded found.fold found.chars) (folded found.fold found.text) walked.start
      (runs_behind (length found.chars) walked.from (strides_under walked.strides)) walked.at
  pub before : walked.from ≤ walked.start
  pub inside : walked.at ≤ length found.text

-- the end of what has to be looked at for the matches that begin before a gap
abbrev pub window_end : Found → ℕ → ℕ
window_end found to = min (to + (length found.chars - 1)) (length found.text)

-- runs that are joined, and one more, which is one with the last where it starts at that one's end
abbrev pub with_joined : List Run → Run → List Run
with_joined [] run = run ∷ []
with_joined (last ∷ []) run = joined_onto last (run ∷ [])
with_joined (first ∷ next ∷ runs) run = first ∷ with_joined (next ∷ runs) run
