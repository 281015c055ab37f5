use Rattle.std.proofs.Common.{◌≡◌, ℕ, [], ◌∷◌, drop}
use Rattle.rev_list.specs.Groups.{first_with, rev_of}
use Rattle.rev_list.proofs.firsts.FirstEdits.of_groups.Given as goal

abbrev pub invariant-loop-group : goal.invariant-loop-group
invariant-loop-group l =
    (other : ℕ) → first_with (rev_of l.firsts.groups l.firsts.revs other) (drop l.group-index l.groups) other ≡
    first_with (rev_of (0 ∷ []) (0 ∷ []) other) l.groups other
