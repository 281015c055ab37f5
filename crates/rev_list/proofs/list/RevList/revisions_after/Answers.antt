use Rattle.std.proofs.Common.{◌≡◌, ◌+◌, ◌-◌, ◌≤◌, length, arith}
use Rattle.std.specs.Arc.{arc_value}
use Rattle.rev_list.specs.Kept.{steps_of}
use Rattle.rev_list.proofs.RecordLemmas.{by_edits-history_of, floor-history_of, head-history_of, later-history_of, no_text-history_of, sound-history_of, AreRevisionsAfter-history_of}
use Rattle.rev_list.proofs.list.RevList.revisions_after.Goals as goal

pub new-requires : goal.new-requires
new-requires c =
    let s = c.self.inside in
    let known = rw (← c.self.view_is) at c.requires.known in
    let from = rw (← c.self.view_is) at c.floor.ensures.floor in
    omega (arith, known, from, floor-history_of (arc_value s.settled) (steps_of s.records), head-history_of (arc_value s.settled) s.records)

pub returns-clause-revisions : goal.returns-clause-revisions
returns-clause-revisions c =
    let s = c.self.inside in
    let known = rw (← c.self.view_is) at c.requires.known in
    let kept = rw (← c.self.view_is) at c.requires.kept in
    let from = rw (← c.self.view_is) at c.floor.ensures.floor in
    let floor = floor-history_of (arc_value s.settled) (steps_of s.records) in
    let within : c.args.base - c.floor.result ≤ length s.records = omega (arith, known, from, floor, head-history_of (arc_value s.settled) s.records) in
    let place : c.args.base ≡ (arc_value s.settled).floor + (c.args.base - c.floor.result) = omega (arith, kept, from, floor) in
    rw (← c.self.view_is)
    (AreRevisionsAfter-history_of (arc_value s.settled) s.records c.self.invariant.sound c.self.invariant.kept _ (c.args.base - c.floor.result) c.args.base within place c.new.ensures)

pub returns-clause-sound : goal.returns-clause-sound
returns-clause-sound c =
    let s = c.self.inside in
    rw (← c.self.view_is) (sound-history_of (arc_value s.settled) s.records c.self.invariant.sound c.self.invariant.kept)

pub returns-clause-later : goal.returns-clause-later
returns-clause-later c =
    let s = c.self.inside in
    rw (← c.self.view_is) (later-history_of (arc_value s.settled) s.records c.self.invariant.sound c.self.invariant.kept)

pub returns-clause-edits : goal.returns-clause-edits
returns-clause-edits c =
    let s = c.self.inside in
    rw (← c.self.view_is) (by_edits-history_of (arc_value s.settled) s.records c.self.invariant.sound c.self.invariant.kept c.self.invariant.parts)

pub returns-clause-no_text : goal.returns-clause-no_text
returns-clause-no_text c =
    let s = c.self.inside in
    rw (← c.self.view_is) (no_text-history_of (arc_value s.settled) s.records c.self.invariant.sound c.self.invariant.kept)
