use Rattle.std.proofs.Common.{subst, ◌∙◌}
use Rattle.collection_laws.specs.Left.{left_of}
use Rattle.rev_list.specs.Edit.{undone_by}
use Rattle.rev_undo.specs.Under.{AgreesOnCollected}
use Rattle.rev_engine.specs.State.{State}
use Rattle.rev_engine.proofs.StandLemmas.{IsHistoryOf-stands}
use Rattle.rev_engine.proofs.UndoLemmas.{IsChange-undid_by, StandsFor-undid_by}
use Rattle.rev_engine.proofs.engine.Engine.set_undone_by.Goals as goal

pub returns-clause-stands : goal.returns-clause-stands
returns-clause-stands c = λ history stands.
    StandsFor-undid_by c.args.self.now history c.args.groups.now stands c.requires.may
    (subst (λ (s : State). AgreesOnCollected s.revisions (undone_by s.revisions c.args.groups.now)) c.self.view_is c.in_default.ensures.none)
    c.in_ok-next.ensures.rising _ (c.drop.view_is ∙ c.in_ok-next.ensures.next)

pub returns-clause-change : goal.returns-clause-change
returns-clause-change c = λ history stands.
    IsChange-undid_by c.args.self.now history c.args.groups.now stands c.requires.may
    (subst (λ (s : State). AgreesOnCollected s.revisions (undone_by s.revisions c.args.groups.now)) c.self.view_is c.in_default.ensures.none)
    c.in_ok-next.ensures.rising c.in_ok-next.next.change
    (c.in_ok-next.ensures.change (left_of history) (IsHistoryOf-stands c.args.self.now history stands))
