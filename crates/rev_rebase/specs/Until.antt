-- A history as it was after a revision, and a cut in a list carried over what a revision inserted.
use Rattle.std.specs.Prelude.{◌≡◌, ℕ, ◌≤◌, Bool, true, false, not, List, [], ◌∷◌, length, take, drop}
use Rattle.std.specs.List.{filter}
use Rattle.plain_edits.specs.History.{History}
use Rattle.rev_list.specs.Hidden.{union_at}

-- the history as it was after the revision
abbrev pub until : History → ℕ → History
until history rev = record history { characters = union_at history rev; revisions = take rev history.revisions }

-- the first of the items, where there are any, is not new
abbrev pub StartsOld : {X : Type 0} → (X → Bool) → List X → Type 0
StartsOld new [] = Unit {0}
StartsOld new (x ∷ xs) = new x ≡ false

-- the last of the items, where there are any, is not new
abbrev pub EndsOld : {X : Type 0} → (X → Bool) → List X → Type 0
EndsOld new [] = Unit {0}
EndsOld new (x ∷ []) = new x ≡ false
EndsOld new (x ∷ y ∷ xs) = EndsOld new (y ∷ xs)

-- of the new items at a cut all stand left of it, or all right
abbrev pub GoesBeside : {X : Type 0} → (X → Bool) → Bool → List X → List X → Type 0
GoesBeside new true left rest = StartsOld new rest
GoesBeside new false left rest = EndsOld new left

-- a cut that stood behind `was` of the old items stands behind `is` of all: the same old items are left of it, and the same right
pub record IsOver {X : Type 0} (new : X → Bool) (right : Bool) (xs : List X) (was is : ℕ) : Type 0 where
  pub left : filter (λ x. not (new x)) (take is xs) ≡ take was (filter (λ x. not (new x)) xs)
  pub rest : filter (λ x. not (new x)) (drop is xs) ≡ drop was (filter (λ x. not (new x)) xs)
  pub within : is ≤ length xs
  pub beside : GoesBeside new right (take is xs) (drop is xs)
