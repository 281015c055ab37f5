-- What a set of groups hides, from one revision of a list to the next.
use Rattle.std.specs.Prelude.{◌≡◌, ℕ, ◌+◌, Bool, List, [], ◌∷◌, length, map}
use Rattle.std.specs.List.{AllByRecursion}
use Rattle.subset_runs.specs.Subset.{count}
use Rattle.plain_text.specs.Numbers.{has}
use Rattle.plain_edits.specs.History.{History}
use Rattle.plain_edits.specs.Undo.{undone_now}
use Rattle.rev_list.specs.Under.{is_hidden_under}
use Rattle.rev_list.specs.declared.step.RevStep.{RevStep}
use Rattle.rev_list.specs.declared.step.RevStep.TheVariants.{Edit, Undo}
use Rattle.rev_list.specs.Hidden.{union_at}
use Rattle.rev_list.specs.Kept.{dead_after}

-- the set agrees with what is undone at the head on each collected group
abbrev pub AgreesOnCollected : History → List ℕ → Type 0
AgreesOnCollected history groups = AllByRecursion (λ group. has groups group ≡ has (undone_now history) group) history.collected

-- what of the union as it was after a revision the set hides at the revision
abbrev pub hidden_then_under : History → List ℕ → ℕ → List Bool
hidden_then_under history groups rev = map (is_hidden_under history groups rev) (union_at history rev)

-- what the set hides after one more revision, where `dead` is what it hid before
abbrev pub hidden_after : List ℕ → List Bool → RevStep → List Bool
hidden_after groups dead (Edit e) = dead_after (has groups e.group) dead e
hidden_after groups dead (Undo differ) = dead

-- each edit speaks of the union before it with its insertions; that union has this length at first
abbrev pub SpeakFrom : ℕ → List RevStep → Type 0
SpeakFrom len [] = Unit {0}
SpeakFrom len (Edit e ∷ revisions) =
    (length e.inserted ≡ len + count e.inserted) × (length e.deleted ≡ length e.inserted) × SpeakFrom (length e.inserted) revisions
SpeakFrom len (Undo groups ∷ revisions) = SpeakFrom len revisions
