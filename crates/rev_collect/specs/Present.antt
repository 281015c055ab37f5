-- The edits of a history in the positions of the present union.
use Rattle.std.specs.Prelude.{◌≡◌, ℕ, ◌+◌, ◌<◌, ◌≤◌, Bool, true, not, ◌==◌, List, [], ◌∷◌, length, map}
use Rattle.std.specs.List.{list_any, AllByRecursion}
use Rattle.subset_runs.specs.Subset.{count, expand, union}
use Rattle.plain_text.specs.Numbers.{has}
use Rattle.plain_edits.specs.History.{History, head, revision_at, group_of, is_there}
use Rattle.plain_edits.specs.HistorySteps.{is_edit}
use Rattle.rev_list.specs.declared.settled.SettledGroup.{SettledGroup}
use Rattle.rev_list.specs.declared.step.RevStep.{RevStep}
use Rattle.rev_list.specs.declared.step.RevStep.TheVariants.{Edit, Undo}

-- an edit of its group, with what it inserted and deleted of the present union
pub record IsPresent (history : History) (e : SettledGroup) : Type 0 where
  pub edits : is_edit (revision_at history.revisions e.last) ≡ true
  pub group : group_of history.revisions e.last ≡ e.group
  pub known : e.last ≤ head history
  pub inserted : e.inserted ≡ map (λ tagged. tagged.inserted == e.last) history.characters
  pub deleted : e.deleted ≡ map (λ tagged. has tagged.deleted e.last) history.characters

-- these are the edits after the revision, and the positions that came after it
pub record ArePresent (history : History) (at : ℕ) (edits : List SettledGroup) (came : List Bool) : Type 0 where
  pub later : came ≡ map (λ tagged. not (is_there at tagged)) history.characters
  pub each : AllByRecursion (IsPresent history) edits
  pub all : (rev : ℕ) → at < rev → rev ≤ head history → is_edit (revision_at history.revisions rev) ≡ true →
      list_any (λ e. e.last == rev) edits ≡ true

-- what a revision says goes into the longer union with the positions that came later
abbrev pub FitsLater : List Bool → RevStep → Type 0
FitsLater later (Edit e) = (length e.inserted + count later ≡ length later) × (length e.deleted + count later ≡ length later)
FitsLater later (Undo groups) = Unit {0}

-- the positions that came later, with those that it inserted
abbrev pub later_with : List Bool → RevStep → List Bool
later_with later (Edit e) = union later (expand e.inserted later)
later_with later (Undo groups) = later

-- the edit in present positions, if it is one
abbrev pub present_of : ℕ → List Bool → RevStep → List SettledGroup
present_of at later (Edit e) =
    record { group = e.group; last = at; inserted = expand e.inserted later; deleted = expand e.deleted later } ∷ []
present_of at later (Undo groups) = []

-- what a group up to the floor says, in present positions, where `later` came after the floor
abbrev pub in_present : List Bool → SettledGroup → SettledGroup
in_present later g =
    record { group = g.group; last = g.last; inserted = expand g.inserted later; deleted = expand g.deleted later }

-- these are all edits of the history
pub record AreAllEdits (history : History) (edits : List SettledGroup) : Type 0 where
  pub each : AllByRecursion (IsPresent history) edits
  pub all : (rev : ℕ) → is_edit (revision_at history.revisions rev) ≡ true → list_any (λ e. e.last == rev) edits ≡ true
