use Rattle.std.proofs.Common.{◌≡◌, ◌+◌, ◌-◌, ◌<◌, ◌≤◌, length, take, [], ◌∷◌, arith, ap, sym, ◌∙◌}
use Rattle.std.specs.Prelude.{suc}
use Rattle.std.specs.Arc.{arc_value}
use Rattle.plain_edits.specs.History.{History}
use Rattle.rev_list.specs.Groups.{AreFirstEdits, first_after_step, first_with, rev_of}
use Rattle.rev_list.specs.Kept.{history_of, steps_of}
use Rattle.rev_list.specs.Settled.{Settled, settled_history}
use Rattle.rev_list.specs.Until.{history_until}
use Rattle.rev_list.proofs.RecordLemmas.{floor-history_of, head-history_of, until_record}
use Rattle.rev_list.proofs.UntilLemmas.{firsts-next, until_from_floor}
use Rattle.rev_list.proofs.UpToFloorLemmas.{IsFirstEdit-settled}
use Rattle.rev_list.proofs.list.RevList.firsts_until.Goals as goal

pub loop-at-init : goal.loop-at-init
loop-at-init c =
    let settled = arc_value c.self.inside.settled in
    record {
      within = omega arith;
      so_far = λ group.
          rw (c.in_ok-firsts.ensures group, c.groups.ensures, ap (λ (x : Settled). x.groups) c.deref-2.ensures)
          (IsFirstEdit-settled settled group c.self.invariant.parts);
    }

pub get-requires : goal.get-requires
get-requires c =
    let s = c.self.inside in
    let settled = arc_value s.settled in
    let within = rw (← c.self.view_is) at c.requires in
    omega (arith, within, floor-history_of settled (steps_of s.records), head-history_of settled s.records)

pub overflow_add-floor : goal.overflow_add-floor
overflow_add-floor c =
    let s = c.self.inside in
    let settled = arc_value s.settled in
    let within = rw (← c.self.view_is) at c.requires in
    let floor : c.floor-floor.result ≡ settled.floor = c.floor-floor.ensures ∙ ap (λ (x : Settled). x.floor) c.deref.ensures in
    omega (arith, floor, within, c.self.invariant.numbers, floor-history_of settled (steps_of s.records), head-history_of settled s.records)

pub overflow_add-floor-in-loop-at : goal.overflow_add-floor-in-loop-at
overflow_add-floor-in-loop-at c =
    let s = c.self.inside in
    let settled = arc_value s.settled in
    let within = rw (← c.self.view_is) at c.requires in
    let floor : c.floor-floor.result ≡ settled.floor = c.floor-floor.ensures ∙ ap (λ (x : Settled). x.floor) c.deref.ensures in
    omega (arith, floor, within, c.self.invariant.numbers, floor-history_of settled (steps_of s.records), head-history_of settled s.records)

pub loop-at-preserved : goal.loop-at-preserved
loop-at-preserved c =
    let s = c.self.inside in
    let settled = arc_value s.settled in
    let within = rw (← c.self.view_is) at c.requires in
    let inside : c.loop-at.at < length s.records = omega (arith, within, floor-history_of settled (steps_of s.records), head-history_of settled s.records) in
    let next : suc c.loop-at.at ≡ c.loop-at.at + 1 = omega arith in
    let floor : c.floor-floor.result ≡ settled.floor = c.floor-floor.ensures ∙ ap (λ (x : Settled). x.floor) c.deref.ensures in
    record {
      within = omega arith;
      so_far =
          rw next at (firsts-next settled s.records (arc_value s.dead) s.firsts s.undone c.self.invariant c.loop-at.at c.get.result.now c.loop-at.firsts
          c.in_ok-firsts-2.firsts inside c.get.ensures c.loop-at.invariant.so_far
          (λ group. c.in_ok-firsts-2.ensures group ∙
          ap (λ n. first_after_step (rev_of c.loop-at.firsts.groups c.loop-at.firsts.revs group) c.get.result.now.step (n + c.loop-at.at + 1) group) floor));
    }

pub returns : goal.returns
returns c =
    let s = c.self.inside in
    let settled = arc_value s.settled in
    let whole = history_of settled (steps_of s.records) in
    let within = rw (← c.self.view_is) at c.requires in
    let all : c.args.count ≡ c.loop-at.at = omega arith in
    let inside : c.loop-at.at ≤ length s.records = omega (arith, all, within, floor-history_of settled (steps_of s.records), head-history_of settled s.records) in
    let up_to : take (whole.floor + c.loop-at.at) whole.revisions ≡ (until_record (settled_history settled) s.records c.loop-at.at).revisions =
    ap (λ (h : History). h.revisions) (until_from_floor settled s.records c.self.invariant.sound c.self.invariant.kept c.loop-at.at inside) in
    rw (← c.self.view_is, all, up_to) c.loop-at.invariant.so_far
