use Rattle.std.proofs.Common.{◌↔◌, IsTrue, subst}
use Rattle.std.specs.List.{AllByRecursion}
use Rattle.rev_list.specs.Edit.{undone_by}
use Rattle.rev_engine.specs.Asked.{IsKnown, MayAskUndo}
use Rattle.rev_engine.specs.State.{State}
use Rattle.rev_engine.proofs.KnownLemmas.{known_by}
use Rattle.rev_engine.proofs.engine.Engine.may_undo_by.Goals as goal

pub returns-then-has_number : goal.returns-then-has_number
returns-then-has_number c =
    let h = c.self.inside.revs in
    let same : AllByRecursion (IsKnown h) c.args.groups.now ↔ AllByRecursion (IsKnown h) (undone_by h c.args.groups.now) =
    known_by h c.args.groups.now (rw c.undone-undone.ensures.groups at c.undone-undone.ensures.rising) c.requires c.self.invariant.known in
    subst (λ (s : State). IsTrue c.are_known.result ↔ MayAskUndo s.revisions (undone_by s.revisions c.args.groups.now)) c.self.view_is (
      λ is. record { known = same.0 (c.are_known.ensures.0 is); has_number = c.has_number.ensures.0 c.if-has_number.true },
      λ may. c.are_known.ensures.1 (same.1 may.known),
    )
