use Rattle.std.proofs.Common.{◌≡◌, length, drop}
use Rattle.std.specs.List.{fold}
use Rattle.subset_runs.specs.Subset.{union}
use Rattle.plain_text.specs.Numbers.{flipped}
use Rattle.rev_list.specs.Settled.{hidden_of}
use Rattle.rev_undo.proofs.floor.hidden_by.Given as goal

abbrev pub invariant-loop-group : goal.invariant-loop-group
invariant-loop-group l = record {
  long : length l.hidden ≡ length l.initial.hidden;
  so_far :
      fold (λ dead g. union dead (hidden_of (flipped l.undone l.differ) g)) l.hidden (drop l.group-index l.groups) ≡
      fold (λ dead g. union dead (hidden_of (flipped l.undone l.differ) g)) l.initial.hidden l.groups;
}
