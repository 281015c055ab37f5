-- Which groups have an edit by a revision, and the first edit of each.
use Rattle.std.specs.Prelude.{◌≡◌, ℕ, Bool, false, ◌||◌, if◌then◌else◌, nat_le, ◌==◌, List, [], ◌∷◌, take, Option, Some, None}
use Rattle.std.specs.List.{list_any}
use Rattle.plain_edits.specs.History.{Revision}
use Rattle.plain_edits.specs.Edits.{is_edit_of}
use Rattle.rev_list.specs.declared.settled.SettledGroup.{SettledGroup}
use Rattle.rev_list.specs.declared.step.RevStep.{RevStep}
use Rattle.rev_list.specs.declared.step.RevStep.TheVariants.{Edit, Undo}

-- whether the group has an edit by the revision; the loaded text is of group 0
abbrev pub has_edit_by : List Revision → ℕ → ℕ → Bool
has_edit_by revisions rev group = group == 0 || list_any (is_edit_of group) (take rev revisions)

-- the first edit of a group, if it has one: by a revision the group has an edit exactly where its first one is by then
abbrev pub IsFirstEdit : List Revision → ℕ → Option ℕ → Type 0
IsFirstEdit revisions group None = (rev : ℕ) → has_edit_by revisions rev group ≡ false
IsFirstEdit revisions group (Some first) = (rev : ℕ) → has_edit_by revisions rev group ≡ nat_le first rev

-- the groups that have an edit, in rising order, and beside each its first one
pub record Firsts : Type 0 where
  pub groups : List ℕ
  pub revs : List ℕ

-- what stands beside a group, if it is there
abbrev pub rev_of : List ℕ → List ℕ → ℕ → Option ℕ
rev_of [] revs group = None
rev_of (g ∷ groups) [] group = None
rev_of (g ∷ groups) (rev ∷ revs) group = if g == group then Some rev else rev_of groups revs group

-- what is there, or else this
abbrev pub or_else : Option ℕ → Option ℕ → Option ℕ
or_else (Some rev) other = Some rev
or_else None other = other

-- the first edit of a group after one more edit of group `own`, which is revision `next`
abbrev pub first_after : Option ℕ → ℕ → ℕ → ℕ → Option ℕ
first_after found own next group = or_else found (if own == group then Some next else None)

-- the first edit of a group after the last edits of these groups
abbrev pub first_with : Option ℕ → List SettledGroup → ℕ → Option ℕ
first_with found [] group = found
first_with found (g ∷ groups) group = first_with (first_after found g.group g.last group) groups group

-- the first edit of a group after a step, which is revision `next`
abbrev pub first_after_step : Option ℕ → RevStep → ℕ → ℕ → Option ℕ
first_after_step found (Edit e) next group = first_after found e.group next group
first_after_step found (Undo groups) next group = found

-- beside each group stands its first edit
abbrev pub AreFirstEdits : List Revision → Firsts → Type 0
AreFirstEdits revisions first = (group : ℕ) → IsFirstEdit revisions group (rev_of first.groups first.revs group)
