-- What is left of a history at its head, said once for each group.
use Rattle.std.specs.Prelude.{◌≡◌, ℕ, ◌<◌, ◌==◌, true, false, Bool, List, length, map, replicate}
use Rattle.std.specs.List.{filter, fold, list_any, AllByRecursion}
use Rattle.subset_runs.specs.Subset.{shrink, union}
use Rattle.plain_text.specs.Numbers.{has}
use Rattle.plain_edits.specs.History.{Tagged, History, head, revision_at, group_of, undone}
use Rattle.plain_edits.specs.Collection.{is_collected}
use Rattle.plain_edits.specs.HistorySteps.{is_edit}
use Rattle.collection_laws.specs.Left.{is_kept, edits_group, last_edit}
use Rattle.rev_list.specs.declared.settled.SettledGroup.{SettledGroup}
use Rattle.rev_list.specs.Settled.{Settled, hidden_of}

-- a group that is not collected: its last edit, and what its edits inserted and deleted of these characters
pub record IsGroup (history : History) (characters : List Tagged) (g : SettledGroup) : Type 0 where
  pub kept : has history.collected g.group ≡ false
  pub counts : 0 < g.last
  pub last : g.last ≡ last_edit history.revisions g.group (head history)
  pub inserted : g.inserted ≡ map (λ tagged. edits_group history.revisions g.group tagged.inserted) characters
  pub deleted : g.deleted ≡ map (λ tagged. list_any (edits_group history.revisions g.group) tagged.deleted) characters

-- these are groups that are not collected, and each that has an edit is among them
pub record AreGroups (history : History) (characters : List Tagged) (groups : List SettledGroup) : Type 0 where
  pub each : AllByRecursion (IsGroup history characters) groups
  pub all : (rev : ℕ) → is_edit (revision_at history.revisions rev) ≡ true → is_collected history rev ≡ false →
      list_any (λ g. g.group == group_of history.revisions rev) groups ≡ true

-- what a list keeps of the history, where its floor is its head, and these are its groups over the characters that are kept
abbrev pub settled_of : History → List SettledGroup → Settled
settled_of history groups = record {
  floor = history.floor;
  len = length (filter (is_kept history) history.characters);
  groups = groups;
  undone = undone history.revisions history.floor;
  collected = history.collected;
}

-- what the groups of a set that are collected now drop: each what it inserted, where it is undone at the head, and else what it deleted
abbrev pub dropped_by : List ℕ → List ℕ → ℕ → List SettledGroup → List Bool
dropped_by now undone len groups =
    fold (λ dropped g. union dropped (hidden_of undone g)) (replicate len false) (filter (λ g. has now g.group) groups)

-- the group without the positions that are dropped
abbrev pub shrunk : List Bool → SettledGroup → SettledGroup
shrunk dropped g =
    record { group = g.group; last = g.last; inserted = shrink g.inserted dropped; deleted = shrink g.deleted dropped }
