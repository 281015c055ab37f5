-- Some edits, joined by their groups.
use Rattle.std.specs.Prelude.{ℕ, false, if◌then◌else◌, nat_lt, ◌==◌, List, [], map, replicate}
use Rattle.std.specs.List.{fold}
use Rattle.subset_runs.specs.Subset.{union}
use Rattle.plain_text.specs.Numbers.{with_number}
use Rattle.rev_list.specs.declared.settled.SettledGroup.{SettledGroup}

-- the groups of some edits, in rising order
abbrev pub numbers_of : List SettledGroup → List ℕ
numbers_of edits = fold (λ numbers e. with_number numbers e.group) [] edits

-- a group of which no edit is said yet
abbrev pub blank : ℕ → ℕ → SettledGroup
blank len group = record { group = group; last = 0; inserted = replicate len false; deleted = replicate len false }

-- the later one of two revisions
abbrev pub later_of : ℕ → ℕ → ℕ
later_of a b = if nat_lt a b then b else a

-- the group with what one more edit of it says
abbrev pub joined : SettledGroup → SettledGroup → SettledGroup
joined g e = record {
  group = g.group;
  last = later_of g.last e.last;
  inserted = union g.inserted e.inserted;
  deleted = union g.deleted e.deleted;
}

-- the same group, where the edit is of another one
abbrev pub joined_own : SettledGroup → SettledGroup → SettledGroup
joined_own e g = if g.group == e.group then joined g e else g

-- the groups with what one more edit says
abbrev pub with_edit : List SettledGroup → SettledGroup → List SettledGroup
with_edit groups e = map (joined_own e) groups

-- the edits, joined
abbrev pub all_joined : ℕ → List SettledGroup → List SettledGroup
all_joined len edits = fold with_edit (map (blank len) (numbers_of edits)) edits
