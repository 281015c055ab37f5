use Rattle.std.proofs.Common.{◌≡◌, ◌+◌, ◌^◌, ◌<◌, length, arith, ap, take_all, ◌∙◌}
use Rattle.std.specs.Prelude.{suc}
use Rattle.std.specs.Arc.{arc_value}
use Rattle.std.specs.List.{fold}
use Rattle.plain_edits.specs.History.{History, head}
use Rattle.rev_list.specs.Edit.{after_revision}
use Rattle.rev_list.specs.Groups.{first_after_step, rev_of}
use Rattle.rev_list.specs.Kept.{steps_of}
use Rattle.rev_list.specs.Until.{after_records}
use Rattle.rev_list.proofs.FlagLemmas.{length-steps_of}
use Rattle.rev_list.proofs.GoOnLemmas.{firsts-on, numbers_last}
use Rattle.rev_list.proofs.RecordLemmas.{head-history_of, until_record}
use Rattle.rev_list.proofs.list.RevList.firsts_with.Goals as goal

pub loop-at-init : goal.loop-at-init
loop-at-init c = record {
  within = omega arith;
  so_far = rw (c.in_ok-firsts.ensures, ← c.self.view_is) c.self.invariant.first_edits;
}

pub overflow_add-head : goal.overflow_add-head
overflow_add-head c =
    let s = c.self.inside in
    let h = c.args.self.now in
    let low : head h < 2 ^ 63 = rw (← c.self.view_is) (omega (arith, c.self.invariant.numbers, head-history_of (arc_value s.settled) s.records)) in
    omega (arith, c.head-head.ensures, numbers_last h c.args.later.now c.requires low)

pub overflow_add-head-in-loop-at : goal.overflow_add-head-in-loop-at
overflow_add-head-in-loop-at c =
    let s = c.self.inside in
    let h = c.args.self.now in
    let low : head h < 2 ^ 63 = rw (← c.self.view_is) (omega (arith, c.self.invariant.numbers, head-history_of (arc_value s.settled) s.records)) in
    omega (arith, c.len.ensures, c.head-head.ensures, numbers_last h c.args.later.now c.requires low)

pub loop-at-preserved : goal.loop-at-preserved
loop-at-preserved c =
    let h = c.args.self.now in
    let later = c.args.later.now in
    let inside : c.loop-at.at < length later = omega arith in
    let next : suc c.loop-at.at ≡ c.loop-at.at + 1 = omega arith in
    record {
      within = omega arith;
      so_far =
          rw next at (firsts-on h later c.loop-at.at c.get.result.now c.loop-at.firsts c.in_ok-firsts-2.firsts inside c.get.ensures c.loop-at.invariant.so_far
          (λ group. c.in_ok-firsts-2.ensures group ∙
          ap (λ n. first_after_step (rev_of c.loop-at.firsts.groups c.loop-at.firsts.revs group) c.get.result.now.step (n + c.loop-at.at + 1) group)
          c.head-head.ensures));
    }

pub returns : goal.returns
returns c =
    let h = c.args.self.now in
    let later = c.args.later.now in
    let all : until_record h later c.loop-at.at ≡ after_records h later =
    ap (fold after_revision h) (take_all c.loop-at.at (steps_of later) (omega (arith, length-steps_of later, c.len.ensures))) in
    rw (ap (λ (g : History). g.revisions) all) at c.loop-at.invariant.so_far
