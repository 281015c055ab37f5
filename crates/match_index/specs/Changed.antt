-- What an edit of a text changes among the matches in it.
use Rattle.std.specs.Prelude.{◌≡◌, ℕ, ◌+◌, ◌-◌, ◌<◌, ◌≤◌, List, [], ◌++◌, length, map, replicate, Option, None, Some}
use Rattle.std.specs.List.{AllByRecursion}
use Rattle.plain_text.specs.declared.run.Run.{Run}
use Rattle.plain_edits.specs.declared.delta.UnitDelta.{UnitDelta}
use Rattle.delta_core.specs.UnitStep.{UnitStep, Kept, steps_of}
use Rattle.match_index.specs.Found.{Found, runs_in}

-- steps that keep so many characters at the start, and so many at the end
pub record KeepsEnds (steps : List UnitStep) (front back : ℕ) : Type 0 where
  pub middle : List UnitStep
  pub is : steps ≡ replicate front Kept ++ (middle ++ replicate back Kept)

-- a run, moved as a gap is that was the first one and is the second one now
abbrev pub moved : ℕ → ℕ → Run → Run
moved old new run = record { start = run.start + new - old; end = run.end + new - old }

-- matches that stay, go, come and are moved, around a run of the text after: those that stay end by its start, those that go and come stand
-- in it, and those that are moved start at its end or later
pub record StandAround (old new : ℕ) (run : Run) (stay go come move : List Run) : Type 0 where
  pub left : AllByRecursion (λ own. own.end ≤ run.start) stay
  pub gone : AllByRecursion (λ own. (run.start ≤ own.start) × (own.end + new ≤ run.end + old)) go
  pub inside : AllByRecursion (λ own. (run.start ≤ own.start) × (own.end ≤ run.end)) come
  pub right : AllByRecursion (λ own. run.end + old ≤ own.start + new) move

-- the same of a run where one goes or comes, which has all that is edited; and of what is edited, where none does
abbrev pub AreAround : ℕ → ℕ → Run → Option Run → List Run → List Run → List Run → List Run → Type 0
AreAround old new edited None stay go come move = (go ≡ []) × (come ≡ []) × StandAround old new edited stay go come move
AreAround old new edited (Some run) stay go come move =
    (0 < length go + length come) × (run.start ≤ edited.start) × (edited.end ≤ run.end) × StandAround old new run stay go come move

-- the matches in a text before an edit and after it, where its first characters stay, and those from a gap on, which stand at another now
pub record Changes (front old new : ℕ) (before after : List Run) (changed : Option Run) : Type 0 where
  pub stay : List Run
  pub go : List Run
  pub come : List Run
  pub move : List Run
  pub was : before ≡ stay ++ (go ++ move)
  pub is : after ≡ stay ++ (come ++ map (moved old new) move)
  pub around : AreAround old new (record { start = front; end = new }) changed stay go come move

-- the same of an edit of characters
pub record EditChanges (units : UnitDelta) (size : ℕ) (before after : List Run) (changed : Option Run) : Type 0 where
  pub front : ℕ
  pub back : ℕ
  pub keeps : KeepsEnds (steps_of units) front back
  pub changes : Changes front (units.base - back) (size - back) before after changed

-- WHERE AN EDIT CHANGED THE MATCHES in a text, of what comes of it
abbrev pub IsChangedIn : UnitDelta → Found → List ℕ → Option Run → Type 0
IsChangedIn units found after changed = EditChanges units (length after) (runs_in found) (runs_in (record found { text = after })) changed
