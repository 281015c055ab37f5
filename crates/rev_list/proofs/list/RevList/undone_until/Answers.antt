use Rattle.std.proofs.Common.{◌≡◌, ◌+◌, ◌-◌, ◌<◌, ◌≤◌, length, arith, ap, sym, ◌∙◌}
use Rattle.std.specs.Prelude.{suc}
use Rattle.std.specs.Arc.{arc_value}
use Rattle.plain_edits.specs.Undo.{undone_now}
use Rattle.rev_list.specs.Kept.{history_of, steps_of}
use Rattle.rev_list.specs.Settled.{settled_history}
use Rattle.rev_list.specs.Until.{history_until, undone_after_step}
use Rattle.rev_list.proofs.RecordLemmas.{floor-history_of, head-history_of, until_record}
use Rattle.rev_list.proofs.UntilLemmas.{undone-next, until_from_floor}
use Rattle.rev_list.proofs.list.RevList.undone_until.Goals as goal

pub get-requires : goal.get-requires
get-requires c =
    let s = c.self.inside in
    let settled = arc_value s.settled in
    let within = rw (← c.self.view_is) at c.requires in
    omega (arith, within, floor-history_of settled (steps_of s.records), head-history_of settled s.records)

pub loop-at-preserved : goal.loop-at-preserved
loop-at-preserved c =
    let s = c.self.inside in
    let settled = arc_value s.settled in
    let within = rw (← c.self.view_is) at c.requires in
    let inside : c.loop-at.at < length s.records = omega (arith, within, floor-history_of settled (steps_of s.records), head-history_of settled s.records) in
    let next : suc c.loop-at.at ≡ c.loop-at.at + 1 = omega arith in
    record {
      within = omega arith;
      so_far =
          c.in_ok-undone-2.ensures ∙ ap (λ set. undone_after_step set c.get.result.now.step) c.loop-at.invariant.so_far ∙
          sym (undone-next settled s.records c.self.invariant.sound c.self.invariant.kept c.loop-at.at _ inside c.get.ensures) ∙
          ap (λ n. undone_now (until_record (settled_history settled) s.records n)) next;
    }

pub returns : goal.returns
returns c =
    let s = c.self.inside in
    let settled = arc_value s.settled in
    let whole = history_of settled (steps_of s.records) in
    let within = rw (← c.self.view_is) at c.requires in
    let all : c.loop-at.at ≡ c.args.count = omega arith in
    let inside : c.loop-at.at ≤ length s.records = omega (arith, all, within, floor-history_of settled (steps_of s.records), head-history_of settled s.records) in
    rw (← c.self.view_is)
    (c.loop-at.invariant.so_far ∙ ap undone_now (sym (until_from_floor settled s.records c.self.invariant.sound c.self.invariant.kept c.loop-at.at inside)) ∙
    ap (λ n. undone_now (history_until whole (whole.floor + n))) all)
