-- What is up to the floor of a list, said once for each group that has an edit by then and is not collected.
use Rattle.std.specs.Prelude.{◌≡◌, ℕ, zero, suc, ◌<◌, ◌≤◌, Bool, true, false, if◌then◌else◌, ◌==◌, List, [], ◌∷◌, length, map, drop, replicate, Option, Some, None}
use Rattle.std.specs.List.{fold, list_any, range_with_len, AllByRecursion}
use Rattle.subset_runs.specs.Subset.{complement, union}
use Rattle.plain_text.specs.Numbers.{has, with_number, IsRising}
use Rattle.plain_edits.specs.History.{Tagged, Revision, edit, undo, History, head, revision_at, group_of}
use Rattle.plain_edits.specs.HistorySteps.{is_edit}
use Rattle.plain_edits.specs.Undo.{undone_now}
use Rattle.rev_list.specs.declared.settled.SettledGroup.{SettledGroup}
use Rattle.rev_list.specs.Hidden.{union_at}

-- the floor, the length of the union there, the groups, which groups are undone there, and the collected ones
pub record Settled : Type 0 where
  pub floor : ℕ
  pub len : ℕ
  pub groups : List SettledGroup
  pub undone : List ℕ
  pub collected : List ℕ

-- the first of some flags, where there is one
abbrev pub first_flag : List Bool → Bool
first_flag [] = false
first_flag (flag ∷ flags) = flag

-- the group in the union without its first position
abbrev pub without_first : SettledGroup → SettledGroup
without_first g = record {
  group = g.group;
  last = g.last;
  inserted = drop 1 g.inserted;
  deleted = drop 1 g.deleted;
}

-- the last edit of the group that inserted the first position; 0 where none did, as of the loaded text
abbrev pub first_inserted : List SettledGroup → ℕ
first_inserted [] = 0
first_inserted (g ∷ groups) = if first_flag g.inserted then g.last else first_inserted groups

-- the last edits of the groups that deleted it, which rise
abbrev pub first_deleted : List SettledGroup → List ℕ
first_deleted [] = []
first_deleted (g ∷ groups) = if first_flag g.deleted then with_number (first_deleted groups) g.last else first_deleted groups

-- the characters at the floor: the last edit of a group stands for all its edits
abbrev pub settled_characters : ℕ → List SettledGroup → List Tagged
settled_characters zero groups = []
settled_characters (suc len) groups =
    record { character = 0; inserted = first_inserted groups; deleted = first_deleted groups } ∷
    settled_characters len (map without_first groups)

-- the group whose last edit the revision is
abbrev pub ending_at : List SettledGroup → ℕ → Option ℕ
ending_at [] rev = None
ending_at (g ∷ groups) rev = if g.last == rev then Some g.group else ending_at groups rev

-- a revision up to the floor: the last edit of a group, and each other one says what is undone at the floor
abbrev pub settled_said : List ℕ → Option ℕ → Revision
settled_said undone (Some group) = edit 0 group 0 0
settled_said undone None = undo undone

-- the history up to the floor
abbrev pub settled_history : Settled → History
settled_history settled = record {
  characters = settled_characters settled.len settled.groups;
  revisions = map (λ rev. settled_said settled.undone (ending_at settled.groups rev)) (range_with_len 1 settled.floor);
  floor = settled.floor;
  collected = settled.collected;
}

-- that of a text that was just loaded
abbrev pub settled_loaded : ℕ → Settled
settled_loaded len = record { floor = 0; len = len; groups = []; undone = []; collected = [] }

-- ---- what a set hides at the floor, where each group is one step

-- the positions that no group inserted
abbrev pub loaded_of : ℕ → List SettledGroup → List Bool
loaded_of len groups = complement (fold (λ all g. union all g.inserted) (replicate len false) groups)

-- what a group hides: what it inserted, where it is in the set, and else what it deleted
abbrev pub hidden_of : List ℕ → SettledGroup → List Bool
hidden_of set g = if has set g.group then g.inserted else g.deleted

-- what all of them hide, and the loaded text where the set has group 0
abbrev pub hidden_by_groups : List ℕ → ℕ → List SettledGroup → List Bool
hidden_by_groups set len groups =
    fold (λ dead g. union dead (hidden_of set g)) (if has set 0 then loaded_of len groups else replicate len false) groups

-- ---- when the groups are those of a list

-- the positions are those of a union of this length
pub record HasLengths (len : ℕ) (g : SettledGroup) : Type 0 where
  pub inserted : length g.inserted ≡ len
  pub deleted : length g.deleted ≡ len

-- the last edit of the group counts from 1, is by the floor, and is the group's
pub record IsEnd (revisions : List Revision) (floor : ℕ) (g : SettledGroup) : Type 0 where
  pub counts : 0 < g.last
  pub within : g.last ≤ floor
  pub said : group_of revisions g.last ≡ g.group

-- at most one of the groups inserted the first position
abbrev pub IsFirstApart : List SettledGroup → Type 0
IsFirstApart [] = Unit {0}
IsFirstApart (g ∷ groups) =
    (first_flag g.inserted ≡ true → list_any (λ other. first_flag other.inserted) groups ≡ false) × IsFirstApart groups

-- at most one of them inserted each position
abbrev pub AreInsertedApart : ℕ → List SettledGroup → Type 0
AreInsertedApart zero groups = Unit {0}
AreInsertedApart (suc len) groups = IsFirstApart groups × AreInsertedApart len (map without_first groups)

-- the groups are those of what is up to the floor: they rise, none is collected, they speak of the union there, their last edits are by
-- the floor, and no position was inserted by two
pub record AreSettled (settled : Settled) : Type 0 where
  pub rising : IsRising (map (λ g. g.group) settled.groups)
  pub uncollected : AllByRecursion (λ g. has settled.collected g.group ≡ false) settled.groups
  pub lengths : AllByRecursion (HasLengths settled.len) settled.groups
  pub ends : AllByRecursion (IsEnd (settled_history settled).revisions settled.floor) settled.groups
  pub apart : AreInsertedApart settled.len settled.groups

-- ---- what the groups of a list say of its history

-- a group up to the floor: its last edit stands for all of them, in what it inserted and in what it deleted of the union there
pub record IsSettledGroup (history : History) (g : SettledGroup) : Type 0 where
  pub within : g.last ≤ history.floor
  pub edits : is_edit (revision_at history.revisions g.last) ≡ true
  pub group : group_of history.revisions g.last ≡ g.group
  pub inserted : g.inserted ≡ map (λ tagged. tagged.inserted == g.last) (union_at history history.floor)
  pub deleted : g.deleted ≡ map (λ tagged. has tagged.deleted g.last) (union_at history history.floor)

-- these are the groups up to the floor, in rising order: each edit up to there is the last one of a group
pub record AreSettledGroups (history : History) (groups : List SettledGroup) : Type 0 where
  pub rising : IsRising (map (λ g. g.group) groups)
  pub each : AllByRecursion (IsSettledGroup history) groups
  pub all : (rev : ℕ) → rev ≤ history.floor → is_edit (revision_at history.revisions rev) ≡ true →
      list_any (λ g. g.last == rev) groups ≡ true

-- ---- a list whose floor is its head

-- what is up to the head of a history, where these groups are left and more groups are collected
abbrev pub settled_at_head : History → List SettledGroup → List ℕ → ℕ → Settled
settled_at_head history groups collected len = record {
  floor = head history;
  len = len;
  groups = groups;
  undone = undone_now history;
  collected = fold with_number history.collected collected;
}

-- the groups may stand for all up to the head, where more groups are collected: `dead` is what they hide of their union
pub record MaySettle (history : History) (groups : List SettledGroup) (collected : List ℕ) (dead : List Bool) : Type 0 where
  pub parts : AreSettled (settled_at_head history groups collected (length dead))
  pub undone : undone_now (settled_history (settled_at_head history groups collected (length dead))) ≡ undone_now history
  pub hidden : dead ≡ hidden_by_groups (undone_now history) (length dead) groups
