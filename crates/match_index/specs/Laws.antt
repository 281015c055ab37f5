-- Laws of matches, of all texts: what an edit leaves as it is.
use Rattle.std.specs.Prelude.{◌≡◌, ℕ, ◌≤◌, nat_le, Bool, List, ◌++◌, length, map, drop}
use Rattle.std.specs.List.{filter, AllByRecursion}
use Rattle.plain_text.specs.declared.run.Run.{Run}
use Rattle.find_core.specs.Matches.{matches_of}
use Rattle.find_core.specs.Laws.{further}

-- MATCHING GOES ON: from a gap on across which no match stands, the matches are those of what stands there, whatever stands left of it
abbrev pub MatchingGoesOn : Type 0
MatchingGoesOn = (text chars : List ℕ) (fold : Bool) (gap : ℕ) (before after : List Run) → matches_of text chars fold ≡ before ++ after →
    AllByRecursion (λ run. run.end ≤ gap) before → AllByRecursion (λ run. gap ≤ run.start) after →
    after ≡ map (further gap) (matches_of (drop gap text) chars fold)

-- FRONTS STAY: of two texts with one front the matches that end in it are the same
abbrev pub FrontsStay : Type 0
FrontsStay = (front one other chars : List ℕ) (fold : Bool) →
    filter (λ run. nat_le run.end (length front)) (matches_of (front ++ one) chars fold) ≡
    filter (λ run. nat_le run.end (length front)) (matches_of (front ++ other) chars fold)
