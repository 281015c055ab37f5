use Rattle.std.proofs.Common.{◌≡◌, ◌+◌, ◌<◌, ◌-◌, length, arith}
use Rattle.std.specs.Arc.{arc_value}
use Rattle.rev_list.specs.Kept.{steps_of}
use Rattle.rev_list.proofs.RecordLemmas.{floor-history_of, head-history_of}
use Rattle.rev_list.proofs.UntilLemmas.{IsRecordAt-read}
use Rattle.rev_list.proofs.list.RevList.record.Goals as goal

pub get-requires : goal.get-requires
get-requires c =
    let s = c.self.inside in
    let known = rw (← c.self.view_is) at c.requires.known in
    let after = rw (← c.self.view_is) at c.requires.after in
    let from = rw (← c.self.view_is) at c.floor.ensures.floor in
    omega (arith, after, known, from, floor-history_of (arc_value s.settled) (steps_of s.records), head-history_of (arc_value s.settled) s.records)

pub returns : goal.returns
returns c =
    let s = c.self.inside in
    let known = rw (← c.self.view_is) at c.requires.known in
    let after = rw (← c.self.view_is) at c.requires.after in
    let from = rw (← c.self.view_is) at c.floor.ensures.floor in
    let floor = floor-history_of (arc_value s.settled) (steps_of s.records) in
    let within : c.args.rev - c.floor.result - 1 < length s.records = omega (arith, after, known, from, floor, head-history_of (arc_value s.settled) s.records) in
    let place : c.args.rev ≡ (arc_value s.settled).floor + 1 + (c.args.rev - c.floor.result - 1) = omega (arith, after, from, floor) in
    rw (← c.self.view_is)
    (IsRecordAt-read (arc_value s.settled) s.records c.self.invariant.sound c.self.invariant.kept (c.args.rev - c.floor.result - 1) _ c.args.rev within c.get.ensures place
    c.self.invariant.numbers)
