use Rattle.std.proofs.Common.{◌≡◌, drop, length}
use Rattle.std.specs.List.{filter, fold}
use Rattle.subset_runs.specs.Subset.{union}
use Rattle.plain_text.specs.Numbers.{has}
use Rattle.rev_list.specs.Settled.{hidden_of}
use Rattle.rev_collect.specs.Groups.{dropped_by}
use Rattle.rev_collect.proofs.left.dropped_by.Given as goal

abbrev pub invariant-loop-group : goal.invariant-loop-group
invariant-loop-group l = record {
  long : length l.dropped ≡ l.len;
  so_far :
      fold (λ dropped g. union dropped (hidden_of l.undone g)) l.dropped (filter (λ g. has l.collected.keys g.group) (drop l.group-index l.groups)) ≡
      dropped_by l.collected.keys l.undone l.len l.groups;
}
