use Rattle.std.proofs.Common.{◌≡◌, ◌+◌, length, arith, ap, ap₂, ◌∙◌}
use Rattle.std.specs.Arc.{arc_value}
use Rattle.subset_runs.specs.Subset.{expand, symmetric_difference}
use Rattle.rev_list.specs.Groups.{rev_of, first_after}
use Rattle.rev_list.specs.Kept.{dead_after}
use Rattle.rev_list.proofs.RecordLemmas.{head-history_of, push_edit}
use Rattle.rev_list.proofs.list.RevList.push_edit.Goals as goal

pub push-requires : goal.push-requires
push-requires c = omega (arith, c.self.invariant.numbers)

pub invariant_of-self-2 : goal.invariant_of-self-2
invariant_of-self-2 c =
    let s = c.self.inside in
    let e = c.args.edit in
    let made = c.in_ok-newest.ensures in
    let may = rw (← c.self.view_is) at c.requires in
    let last = rw (← c.self.view_is) at c.head-next.ensures in
    let next : c.head-next.result + 1 ≡ (arc_value s.settled).floor + length s.records + 1 = omega (arith, last, head-history_of (arc_value s.settled) s.records) in
    rw c.in_ok-push.ensures.pushed
    (push_edit (arc_value s.settled) s.records c.in_ok-newest.newest e (arc_value s.dead) (arc_value c.in_ok-dead.dead) s.firsts c.in_ok-firsts.firsts s.undone c.self.invariant may made.step
    (made.turned ∙ ap₂ (λ flags b. symmetric_difference (expand flags e.inserted) (dead_after b flags e)) c.deref.ensures c.has-undone.ensures.has)
    (c.in_ok-dead.ensures.ok ∙ (made.dead ∙ ap₂ (λ flags b. dead_after b flags e) c.deref.ensures c.has-undone.ensures.has))
    (λ group. c.in_ok-firsts.ensures group ∙ ap (λ n. first_after (rev_of s.firsts.groups s.firsts.revs group) e.group n group) next)).holds
