use Rattle.std.proofs.Common.{◌≡◌, ◌++◌, drop}
use Rattle.shared_tree.specs.Shared.{values}
use Rattle.shared_tree.proofs.shared.add_all.Given as goal

abbrev pub invariant-loop-value : goal.invariant-loop-value
invariant-loop-value g l = values l.list.items ++ values (drop l.value-index l.more) ≡ values l.initial.list.items ++ values l.more
