use Rattle.undo_groups.proofs.StackLemmas.{forgot}
use Rattle.undo_groups.proofs.stack.Stack.forget.Goals as goal

pub invariant_of-self : goal.invariant_of-self
invariant_of-self c =
    let s = c.self.inside in
    let there = rw (← c.self.view_is) at c.requires in
    rw c.in_ok-self-inside.ensures (forgot s.live.items s.index s.retired s.undone s.given c.self.invariant c.args.group there)
