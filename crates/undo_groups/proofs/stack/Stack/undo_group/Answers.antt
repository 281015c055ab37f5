use Rattle.std.proofs.Common.{arith}
use Rattle.undo_groups.proofs.StackLemmas.{undone_then}
use Rattle.undo_groups.proofs.stack.Stack.undo_group.Goals as goal

pub invariant_of-self : goal.invariant_of-self
invariant_of-self c =
    let s = c.self.inside in
    rw c.in_ok-self-inside.ensures.made (undone_then s.live.items s.index s.retired s.undone s.given c.self.invariant c.index-group.result.now (omega arith) c.index-group.ensures)
