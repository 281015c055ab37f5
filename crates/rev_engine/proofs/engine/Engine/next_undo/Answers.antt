use Rattle.std.proofs.Common.{◌-◌, ◌^◌, ◌<◌, refl, subst, sym}
use Rattle.plain_edits.specs.History.{History, head}
use Rattle.plain_edits.specs.Undo.{undone_now}
use Rattle.plain_text.specs.Numbers.{IsRising}
use Rattle.plain_text.proofs.callers.NumberLemmas.{IsRising-flipped}
use Rattle.rev_list.specs.Edit.{undone_by, MayPushUndo}
use Rattle.rev_engine.specs.State.{State}
use Rattle.rev_engine.proofs.UndoLemmas.{may_push_by, goes-on-pushed, change-pushed}
use Rattle.rev_engine.proofs.engine.Engine.next_undo.Goals as goal

pub push_undo_by-requires-clause-may : goal.push_undo_by-requires-clause-may
push_undo_by-requires-clause-may c =
    let may =
    may_push_by _ c.args.self.now c.args.groups.now c.self.view_is (rw c.undone-undone.ensures.groups at c.undone-undone.ensures.rising) c.requires.may c.requires.agrees in
    subst (λ (h : History). MayPushUndo h (undone_by h c.args.groups.now) c.in_ok-dead.dead) (sym c.in_ok-revs.ensures)
    (record {
      allowed = may;
      hidden = c.in_ok-dead.ensures;
      has_number = subst (λ (s : State). head s.revisions < 2 ^ 63 - 1) (sym c.self.view_is) c.requires.may.has_number;
    })

pub shown_after-requires-clause-base : goal.shown_after-requires-clause-base
shown_after-requires-clause-base c =
    (goes-on-pushed _ c.args.self.now _ c.args.groups.now c.self.view_is c.self.invariant c.requires.may c.requires.agrees
    (rw c.undone-undone.ensures.groups at c.undone-undone.ensures.rising) c.in_ok-revs.revs c.push_undo_by.new.self c.in_ok-revs.ensures
    c.in_ok-rev.ensures.ok c.in_ok-units.units
    c.in_ok-units.ensures).base

pub shown_after-requires-clause-fits : goal.shown_after-requires-clause-fits
shown_after-requires-clause-fits c =
    (goes-on-pushed _ c.args.self.now _ c.args.groups.now c.self.view_is c.self.invariant c.requires.may c.requires.agrees
    (rw c.undone-undone.ensures.groups at c.undone-undone.ensures.rising) c.in_ok-revs.revs c.push_undo_by.new.self c.in_ok-revs.ensures
    c.in_ok-rev.ensures.ok c.in_ok-units.units
    c.in_ok-units.ensures).short

pub shown_after-requires-clause-positions : goal.shown_after-requires-clause-positions
shown_after-requires-clause-positions c =
    ((goes-on-pushed _ c.args.self.now _ c.args.groups.now c.self.view_is c.self.invariant c.requires.may c.requires.agrees
    (rw c.undone-undone.ensures.groups at c.undone-undone.ensures.rising) c.in_ok-revs.revs c.push_undo_by.new.self c.in_ok-revs.ensures
    c.in_ok-rev.ensures.ok c.in_ok-units.units
    c.in_ok-units.ensures).holds _ refl).positions

pub shown_after-requires-clause-shown : goal.shown_after-requires-clause-shown
shown_after-requires-clause-shown c =
    ((goes-on-pushed _ c.args.self.now _ c.args.groups.now c.self.view_is c.self.invariant c.requires.may c.requires.agrees
    (rw c.undone-undone.ensures.groups at c.undone-undone.ensures.rising) c.in_ok-revs.revs c.push_undo_by.new.self c.in_ok-revs.ensures
    c.in_ok-rev.ensures.ok c.in_ok-units.units
    c.in_ok-units.ensures).holds _ refl).shown

pub invariant_of-result : goal.invariant_of-result
invariant_of-result c =
    rw c.in_ok-union.ensures
    ((goes-on-pushed _ c.args.self.now _ c.args.groups.now c.self.view_is c.self.invariant c.requires.may c.requires.agrees
    (rw c.undone-undone.ensures.groups at c.undone-undone.ensures.rising) c.in_ok-revs.revs c.push_undo_by.new.self c.in_ok-revs.ensures
    c.in_ok-rev.ensures.ok c.in_ok-units.units
    c.in_ok-units.ensures).holds _ c.in_ok-shown.ensures)

pub returns-clause-rising : goal.returns-clause-rising
returns-clause-rising c =
    subst (λ (s : State). IsRising (undone_by s.revisions c.args.groups.now)) c.self.view_is
    (IsRising-flipped (undone_now c.self.inside.revs) c.args.groups.now (rw c.undone-undone.ensures.groups at c.undone-undone.ensures.rising))

pub returns-clause-change : goal.returns-clause-change
returns-clause-change c =
    change-pushed _ c.args.self.now _ c.args.groups.now c.self.view_is c.self.invariant c.requires.may c.requires.agrees
    (rw c.undone-undone.ensures.groups at c.undone-undone.ensures.rising) c.in_ok-revs.revs c.push_undo_by.new.self c.in_ok-revs.ensures
    c.in_ok-rev.ensures.ok c.in_ok-units.units
    c.in_ok-units.ensures c.in_ok-rev.rev
    c.in_ok-rev.ensures.number
