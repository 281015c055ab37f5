use Rattle.std.proofs.Common.{map}
use Rattle.view_update.specs.Written.{op_data}
use Rattle.view_update.specs.Fair.{IsFairOp}
use Rattle.view_update.proofs.Made.{Put}
use Rattle.view_update.proofs.parts.put_ops.Given as goal

abbrev pub invariant-loop-op : goal.invariant-loop-op
invariant-loop-op l = Put (map op_data) IsFairOp l.ops l.op-index l.initial.out l.out
