-- The undo groups of a document: what a new group, an undo, a redo and a forgotten group make of them.
use Rattle.std.specs.Prelude.{◌≡◌, ℕ, ◌+◌, ◌-◌, ◌^◌, ◌<◌, ◌≤◌, ◌==◌, if◌then◌else◌, Bool, true, false, ◌||◌, Some, None, List, [], ◌∷◌, ◌++◌, length, take, drop, slice_index}
use Rattle.std.specs.List.{fold}
use Rattle.std.specs.declared.option.Option.{Option}
use Rattle.plain_text.specs.Numbers.{has, with_number, without_number, IsRising}

-- the undo groups, as the stack of them stands
pub record Groups : Type 0 where
  -- the groups that an undo or a redo can reach, and how many of them, from the front, are not undone
  pub live : List ℕ
  pub index : ℕ
  -- the groups that no undo and no redo reaches any more, but those that are forgotten, in order
  pub retired : List ℕ
  -- all groups that are undone, the forgotten ones too, in order
  pub undone : List ℕ
  -- how many groups were given out; the last one has this number
  pub given : ℕ

-- before the first group
abbrev pub no_groups : Groups
no_groups = record { live = []; index = 0; retired = []; undone = []; given = 0 }

-- the live groups up to the index, and a new one
abbrev pub grown : Groups → List ℕ
grown s = take s.index s.live ++ (s.given + 1) ∷ []

-- how many of these are too many: at most twenty stay
abbrev pub excess : List ℕ → ℕ
excess live = length live - 20

-- the groups that a new one retires: those that it cuts off at the index, and the oldest of more than twenty
abbrev pub retiring : Groups → List ℕ
retiring s = drop s.index s.live ++ take (excess (grown s)) (grown s)

-- after a new group; what was undone stays so
abbrev pub after_opening : Groups → Groups
after_opening s = record {
  live = drop (excess (grown s)) (grown s);
  index = length (drop (excess (grown s)) (grown s));
  retired = fold with_number s.retired (retiring s);
  undone = s.undone;
  given = s.given + 1;
}

-- the group that an undo takes, if there is one
abbrev pub next_undo : Groups → Option ℕ
next_undo s = if s.index == 0 then None else Some (slice_index s.live (s.index - 1))

-- after an undo, which does nothing where no live group is left to undo
abbrev pub undone_one : Groups → Groups
undone_one s = if s.index == 0 then s else record {
  live = s.live;
  index = s.index - 1;
  retired = s.retired;
  undone = with_number s.undone (slice_index s.live (s.index - 1));
  given = s.given;
}

-- the group that a redo takes, if there is one
abbrev pub next_redo : Groups → Option ℕ
next_redo s = if s.index == length s.live then None else Some (slice_index s.live s.index)

-- after a redo, which does nothing where no live group is undone
abbrev pub redone_one : Groups → Groups
redone_one s = if s.index == length s.live then s else record {
  live = s.live;
  index = s.index + 1;
  retired = s.retired;
  undone = without_number s.undone (slice_index s.live s.index);
  given = s.given;
}

-- after a retired group is forgotten: where it was undone, it stays so
abbrev pub forgotten : Groups → ℕ → Groups
forgotten s group = record {
  live = s.live;
  index = s.index;
  retired = without_number s.retired group;
  undone = s.undone;
  given = s.given;
}

-- whether the group was given out and is not forgotten
abbrev pub is_known : Groups → ℕ → Bool
is_known s group = has s.live group || has s.retired group

-- each of these groups was given out
abbrev pub AreGiven : ℕ → List ℕ → Type 0
AreGiven given groups = (group : ℕ) → has groups group ≡ true → (1 ≤ group) × (group ≤ given)

-- what holds of the groups of every stack
pub record IsStack (s : Groups) : Type 0 where
  pub few : length s.live ≤ 20
  pub small : s.given < 2 ^ 63
  pub reached : s.index ≤ length s.live
  pub live_rise : IsRising s.live
  pub retired_rise : IsRising s.retired
  pub undone_rise : IsRising s.undone
  -- the live groups before the index are not undone, and those from it on are
  pub done : (group : ℕ) → has (take s.index s.live) group ≡ true → has s.undone group ≡ false
  pub taken_back : (group : ℕ) → has (drop s.index s.live) group ≡ true → has s.undone group ≡ true
  -- no live group is retired
  pub reachable : (group : ℕ) → has s.live group ≡ true → has s.retired group ≡ false
  pub live_given : AreGiven s.given s.live
  pub retired_given : AreGiven s.given s.retired
  pub undone_given : AreGiven s.given s.undone

-- these five together
abbrev pub groups_of : List ℕ → ℕ → List ℕ → List ℕ → ℕ → Groups
groups_of live index retired undone given = record {
  live = live;
  index = index;
  retired = retired;
  undone = undone;
  given = given;
}
