use Rattle.std.proofs.Common.{◌≡◌, ◌+◌, ◌-◌, ◌≤◌, length, arith, ◌∙◌}
use Rattle.std.specs.Arc.{arc_value}
use Rattle.rev_list.specs.Kept.{steps_of}
use Rattle.rev_list.proofs.RecordLemmas.{floor-history_of, head-history_of, hidden_then-history_of, hidden_at-history_of, grow_from-history_of}
use Rattle.rev_list.proofs.list.RevList.dead_forward.Goals as goal

pub new-requires : goal.new-requires
new-requires c =
    let s = c.self.inside in
    let known = (rw (← c.self.view_is) at c.requires).1 in
    let from = rw (← c.self.view_is) at c.floor.ensures.floor in
    omega (arith, known, from, floor-history_of (arc_value s.settled) (steps_of s.records), head-history_of (arc_value s.settled) s.records)

pub carried-requires : goal.carried-requires
carried-requires c =
    let s = c.self.inside in
    let settled = arc_value s.settled in
    let kept = rw (← c.self.view_is) at c.requires in
    let from = rw (← c.self.view_is) at c.floor.ensures.floor in
    let floor = floor-history_of settled (steps_of s.records) in
    let i = c.args.rev - c.floor.result in
    let within : i ≤ length s.records = omega (arith, kept.1, from, floor, head-history_of settled s.records) in
    let place : c.args.rev ≡ settled.floor + i = omega (arith, kept.0, from, floor) in
    let dead = (rw (← c.self.view_is) at c.in_ok-dead.ensures) ∙ hidden_then-history_of settled s.records c.self.invariant.sound c.self.invariant.kept i c.args.rev within place in
    rw (dead, c.new.ensures) (grow_from-history_of settled s.records c.self.invariant.sound c.self.invariant.kept i within)

pub returns : goal.returns
returns c =
    let s = c.self.inside in
    let settled = arc_value s.settled in
    let kept = rw (← c.self.view_is) at c.requires in
    let from = rw (← c.self.view_is) at c.floor.ensures.floor in
    let floor = floor-history_of settled (steps_of s.records) in
    let i = c.args.rev - c.floor.result in
    let within : i ≤ length s.records = omega (arith, kept.1, from, floor, head-history_of settled s.records) in
    let place : c.args.rev ≡ settled.floor + i = omega (arith, kept.0, from, floor) in
    let dead = (rw (← c.self.view_is) at c.in_ok-dead.ensures) ∙ hidden_then-history_of settled s.records c.self.invariant.sound c.self.invariant.kept i c.args.rev within place in
    let whole = hidden_at-history_of settled s.records c.self.invariant.sound c.self.invariant.kept i c.args.rev within place in
    let carried = rw (dead, c.new.ensures) at c.carried.ensures in
    rw (← c.self.view_is, whole) carried
