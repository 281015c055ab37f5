use Rattle.std.proofs.Common.{◌≡◌, ◌+◌, ◌-◌, arith, sym, ap, ◌∙◌}
use Rattle.std.specs.Prelude.{suc}
use Rattle.std.specs.Arc.{arc_value}
use Rattle.rev_list.specs.Kept.{dead_now, steps_of}
use Rattle.rev_list.proofs.RecordLemmas.{floor-history_of, head-history_of, back_at-history_of, then_of-all, hidden_then-history_of}
use Rattle.rev_list.proofs.list.RevList.dead_back.Goals as goal

pub loop-at-init : goal.loop-at-init
loop-at-init c =
    let s = c.self.inside in
    let settled = arc_value s.settled in
    let known = (rw (← c.self.view_is) at c.requires).1 in
    let from = rw (← c.self.view_is) at c.floor.ensures.floor in
    record {
      from = omega (arith, known, from, floor-history_of settled (steps_of s.records), head-history_of settled s.records, c.len-at.ensures);
      within = omega (arith, c.len-at.ensures);
      so_far =
          c.in_ok-dead.ensures ∙ (c.deref.ensures ∙ c.self.invariant.dead
          ∙ ap dead_now (sym (then_of-all settled s.records c.self.invariant.sound c.self.invariant.kept c.len-at.result (omega (arith, c.len-at.ensures)))));
    }

pub before-requires-clause-same_length : goal.before-requires-clause-same_length
before-requires-clause-same_length c =
    let s = c.self.inside in
    let here : suc (c.loop-at.at - 1) ≡ c.loop-at.at = omega arith in
    rw (c.loop-at.invariant.so_far)
    (rw here at (back_at-history_of (arc_value s.settled) s.records c.self.invariant.sound c.self.invariant.kept (c.loop-at.at - 1) _ (omega arith) c.get.ensures)).same_length

pub before-requires-clause-fits : goal.before-requires-clause-fits
before-requires-clause-fits c =
    let s = c.self.inside in
    let here : suc (c.loop-at.at - 1) ≡ c.loop-at.at = omega arith in
    rw (c.loop-at.invariant.so_far)
    (rw here at (back_at-history_of (arc_value s.settled) s.records c.self.invariant.sound c.self.invariant.kept (c.loop-at.at - 1) _ (omega arith) c.get.ensures)).fits

pub loop-at-preserved : goal.loop-at-preserved
loop-at-preserved c =
    let s = c.self.inside in
    let here : suc (c.loop-at.at - 1) ≡ c.loop-at.at = omega arith in
    record {
      from = omega arith;
      within = omega arith;
      so_far =
          rw (c.in_ok-dead-2.ensures, c.loop-at.invariant.so_far)
          (rw here at (back_at-history_of (arc_value s.settled) s.records c.self.invariant.sound c.self.invariant.kept (c.loop-at.at - 1) _ (omega arith) c.get.ensures)).back;
    }

pub returns : goal.returns
returns c =
    let s = c.self.inside in
    let settled = arc_value s.settled in
    let kept = rw (← c.self.view_is) at c.requires in
    let from = rw (← c.self.view_is) at c.floor.ensures.floor in
    let all : c.loop-at.at ≡ c.args.rev - c.floor.result = omega arith in
    let place : c.args.rev ≡ settled.floor + c.loop-at.at = omega (arith, all, kept.0, from, floor-history_of settled (steps_of s.records)) in
    rw (← c.self.view_is)
    (c.loop-at.invariant.so_far ∙
    sym (hidden_then-history_of settled s.records c.self.invariant.sound c.self.invariant.kept c.loop-at.at c.args.rev c.loop-at.invariant.within place))
