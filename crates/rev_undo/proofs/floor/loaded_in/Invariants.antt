use Rattle.std.proofs.Common.{◌≡◌, length, drop}
use Rattle.std.specs.List.{fold}
use Rattle.subset_runs.specs.Subset.{union}
use Rattle.rev_undo.proofs.floor.loaded_in.Given as goal

abbrev pub invariant-loop-group : goal.invariant-loop-group
invariant-loop-group l = record {
  long : length l.all ≡ l.len;
  so_far : fold (λ all g. union all g.inserted) l.all (drop l.group-index l.groups) ≡ fold (λ all g. union all g.inserted) l.initial.all l.groups;
}
