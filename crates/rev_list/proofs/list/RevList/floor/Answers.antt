use Rattle.std.proofs.Common.{arith, ap, sym, ◌∙◌}
use Rattle.std.specs.Arc.{arc_value}
use Rattle.plain_edits.specs.Collection.{is_clean}
use Rattle.rev_list.specs.Kept.{history_of, steps_of}
use Rattle.rev_list.specs.Settled.{Settled}
use Rattle.rev_list.proofs.RecordLemmas.{floor-history_of, head-history_of}
use Rattle.rev_list.proofs.list.RevList.floor.Goals as goal

pub returns-clause-floor : goal.returns-clause-floor
returns-clause-floor c =
    let s = c.self.inside in
    rw (← c.self.view_is) (c.floor.ensures ∙ ap (λ (x : Settled). x.floor) c.deref.ensures ∙ sym (floor-history_of (arc_value s.settled) (steps_of s.records)))

pub returns-clause-clean : goal.returns-clause-clean
returns-clause-clean c =
    let s = c.self.inside in
    rw (← c.self.view_is)
    (ap (is_clean (history_of (arc_value s.settled) (steps_of s.records)).revisions) (floor-history_of (arc_value s.settled) (steps_of s.records)) ∙ c.self.invariant.clean)

pub returns-clause-known : goal.returns-clause-known
returns-clause-known c =
    let s = c.self.inside in
    rw (← c.self.view_is) (omega (arith, floor-history_of (arc_value s.settled) (steps_of s.records), head-history_of (arc_value s.settled) s.records))
