use Rattle.std.proofs.Common.{◌≡◌, ◌+◌, ◌-◌, ◌≤◌, length, take, arith, ap, sym, ◌∙◌}
use Rattle.std.specs.Arc.{arc_value}
use Rattle.plain_edits.specs.History.{History}
use Rattle.plain_edits.specs.Undo.{undone_now}
use Rattle.rev_list.specs.Kept.{history_of, steps_of}
use Rattle.rev_list.specs.Settled.{settled_history}
use Rattle.rev_list.specs.Until.{history_until}
use Rattle.rev_list.proofs.RecordLemmas.{floor-history_of, head-history_of, hidden_then-history_of, until_record}
use Rattle.rev_list.proofs.UntilLemmas.{until_from_floor, until_is, until-taken, HoldsRevisions-until}
use Rattle.rev_list.proofs.list.RevList.until_below.Goals as goal

pub front-requires : goal.front-requires
front-requires c =
    let s = c.self.inside in
    let settled = arc_value s.settled in
    let kept = rw (← c.self.view_is) at c.requires in
    let from = rw (← c.self.view_is) at c.floor.ensures.floor in
    omega (arith, kept.1, from, floor-history_of settled (steps_of s.records), head-history_of settled s.records)

pub invariant_of-result : goal.invariant_of-result
invariant_of-result c =
    let s = c.self.inside in
    let settled = arc_value s.settled in
    let held = c.self.invariant in
    let i = c.args.rev - c.floor.result in
    let kept = rw (← c.self.view_is) at c.requires in
    let from = rw (← c.self.view_is) at c.floor.ensures.floor in
    let within : i ≤ length s.records = omega (arith, kept.1, from, floor-history_of settled (steps_of s.records), head-history_of settled s.records) in
    let place : c.args.rev ≡ settled.floor + i = omega (arith, kept.0, from, floor-history_of settled (steps_of s.records)) in
    let then_is = until_from_floor settled s.records held.sound held.kept i within in
    let whole = history_of settled (steps_of s.records) in
    let up_to : take (whole.floor + i) whole.revisions ≡ (until_record (settled_history settled) s.records i).revisions =
    ap (λ (h : History). h.revisions) then_is in
    rw (c.in_ok-try_clone.ensures, c.in_ok-front.ensures, c.in_ok-new.ensures.ok)
    (HoldsRevisions-until settled s.records (arc_value s.dead) s.firsts s.undone held i within c.in_ok-dead.dead c.in_ok-firsts.firsts c.in_ok-undone.undone
    ((rw (← c.self.view_is) at c.in_ok-dead.ensures) ∙ hidden_then-history_of settled s.records held.sound held.kept i c.args.rev within place)
    (rw up_to at (rw (← c.self.view_is) at c.in_ok-firsts.ensures))
    ((rw (← c.self.view_is) at c.in_ok-undone.ensures) ∙ ap undone_now then_is))

pub returns : goal.returns
returns c =
    let s = c.self.inside in
    let settled = arc_value s.settled in
    let held = c.self.invariant in
    let i = c.args.rev - c.floor.result in
    let kept = rw (← c.self.view_is) at c.requires in
    let from = rw (← c.self.view_is) at c.floor.ensures.floor in
    let within : i ≤ length s.records = omega (arith, kept.1, from, floor-history_of settled (steps_of s.records), head-history_of settled s.records) in
    let place : c.args.rev ≡ settled.floor + i = omega (arith, kept.0, from, floor-history_of settled (steps_of s.records)) in
    rw (c.in_ok-try_clone.ensures, c.in_ok-front.ensures, ← c.self.view_is)
    (until-taken settled s.records held.sound held.kept i ∙ sym (until_is settled s.records held.sound held.kept i within) ∙
    ap (history_until (history_of settled (steps_of s.records))) (sym place))
