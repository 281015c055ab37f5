use Rattle.std.proofs.Common.{length, arith, ap, ◌∙◌}
use Rattle.std.specs.Arc.{arc_value}
use Rattle.subset_runs.specs.Subset.{symmetric_difference}
use Rattle.rev_list.specs.declared.step.RevStep.TheVariants.{Undo}
use Rattle.rev_list.proofs.RecordLemmas.{push_undo, undo_lengths}
use Rattle.rev_list.proofs.list.RevList.push_undo_by.Goals as goal

pub recorded_undo-requires : goal.recorded_undo-requires
recorded_undo-requires c =
    let s = c.self.inside in
    let may = rw (← c.self.view_is) at c.requires.may in
    ap length c.deref.ensures ∙ undo_lengths (arc_value s.settled) s.records _ (arc_value s.dead) c.args.dead s.firsts s.undone c.self.invariant may

pub push-requires : goal.push-requires
push-requires c = omega (arith, c.self.invariant.numbers)

pub invariant_of-self-2 : goal.invariant_of-self-2
invariant_of-self-2 c =
    let s = c.self.inside in
    let groups = c.args.groups.now in
    let made = c.in_ok-newest.ensures in
    let may = rw (← c.self.view_is) at c.requires.may in
    rw (c.in_ok-push.ensures.pushed, c.in_ok-dead.ensures.ok)
    (push_undo (arc_value s.settled) s.records c.in_ok-newest.newest groups (arc_value s.dead) c.args.dead s.firsts s.undone c.in_ok-undone.undone c.self.invariant may
    (made.step ∙ ap Undo c.in_ok-differ.ensures)
    (made.turned ∙ ap (λ flags. symmetric_difference flags c.args.dead) c.deref.ensures)
    c.in_ok-undone.ensures.made).holds
