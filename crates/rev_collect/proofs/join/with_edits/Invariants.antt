use Rattle.std.proofs.Common.{◌≡◌, drop, map}
use Rattle.std.specs.List.{fold, AllByRecursion}
use Rattle.rev_list.specs.Settled.{HasLengths}
use Rattle.rev_collect.specs.Joined.{with_edit}
use Rattle.rev_collect.proofs.join.with_edits.Given as goal

abbrev pub invariant-loop-edit : goal.invariant-loop-edit
invariant-loop-edit l = record {
  numbers : map (λ g. g.group) l.all.items ≡ l.numbers;
  lengths : AllByRecursion (HasLengths l.len) l.all.items;
  so_far : fold with_edit l.all.items (drop l.edit-index l.edits) ≡ fold with_edit l.initial.all.items l.edits;
}
