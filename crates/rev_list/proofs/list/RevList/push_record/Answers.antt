use Rattle.std.proofs.Common.{◌≡◌, ◌+◌, length, arith, ap, ◌∙◌}
use Rattle.std.specs.Arc.{arc_value}
use Rattle.subset_runs.specs.Subset.{symmetric_difference}
use Rattle.rev_list.specs.Groups.{rev_of, first_after_step}
use Rattle.rev_list.specs.Kept.{dead_now, grown_by, history_of, steps_of, GrowFrom}
use Rattle.rev_list.proofs.RecordLemmas.{head-history_of}
use Rattle.rev_list.proofs.UntilLemmas.{grows, push_follows, turned_length}
use Rattle.rev_list.proofs.list.RevList.push_record.Goals as goal

pub after-requires-clause-fits : goal.after-requires-clause-fits
after-requires-clause-fits c =
    let s = c.self.inside in
    let may = rw (← c.self.view_is) at c.requires in
    rw (c.deref.ensures, c.self.invariant.dead) (grows (history_of (arc_value s.settled) (steps_of s.records)) c.args.newest may)

pub after-requires-clause-same_length : goal.after-requires-clause-same_length
after-requires-clause-same_length c =
    let s = c.self.inside in
    let may = rw (← c.self.view_is) at c.requires in
    rw (c.deref.ensures, c.self.invariant.dead) (turned_length (history_of (arc_value s.settled) (steps_of s.records)) c.args.newest may)

pub push-requires : goal.push-requires
push-requires c = omega (arith, c.self.invariant.numbers)

pub invariant_of-self-2 : goal.invariant_of-self-2
invariant_of-self-2 c =
    let s = c.self.inside in
    let may = rw (← c.self.view_is) at c.requires in
    let last = rw (← c.self.view_is) at c.head-next.ensures in
    let next : c.head-next.result + 1 ≡ (arc_value s.settled).floor + length s.records + 1 = omega (arith, last, head-history_of (arc_value s.settled) s.records) in
    rw c.in_ok-push.ensures.pushed
    (push_follows (arc_value s.settled) s.records c.args.newest (arc_value s.dead) (arc_value c.in_ok-dead-2.dead) s.firsts c.in_ok-firsts.firsts s.undone c.in_ok-undone.undone
    c.self.invariant may
    (c.in_ok-dead-2.ensures.ok ∙ c.in_ok-dead.ensures ∙ ap (λ flags. symmetric_difference (grown_by flags c.args.newest.step) c.args.newest.turned) c.deref.ensures)
    (λ group. c.in_ok-firsts.ensures group ∙ ap (λ n. first_after_step (rev_of s.firsts.groups s.firsts.revs group) c.args.newest.step n group) next)
    c.in_ok-undone.ensures).holds
