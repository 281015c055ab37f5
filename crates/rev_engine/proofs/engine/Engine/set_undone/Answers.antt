use Rattle.std.proofs.Common.{List, ℕ, IfOk, OnOk, subst, ap, sym, ◌∙◌}
use Rattle.plain_text.specs.Numbers.{flipped}
use Rattle.plain_edits.specs.Edits.{undid}
use Rattle.rev_list.specs.Edit.{undone_by}
use Rattle.rev_undo.specs.Under.{AgreesOnCollected}
use Rattle.rev_engine.specs.Asked.{IsFrozenAt}
use Rattle.rev_engine.specs.Engine.{IsChange, StandsFor}
use Rattle.rev_engine.proofs.StandLemmas.{undone_now-stands}
use Rattle.rev_engine.proofs.engine.Engine.set_undone.Goals as goal

pub returns-clause-accepted : goal.returns-clause-accepted
returns-clause-accepted c =
    subst (λ (set : List ℕ). OnOk c.set_undone_by.result (AgreesOnCollected c.args.self.now.revisions set))
    (ap (undone_by c.args.self.now.revisions) c.as_slice.ensures.all ∙ c.in_ok-differ.ensures) c.set_undone_by.ensures.accepted

pub returns-clause-frozen : goal.returns-clause-frozen
returns-clause-frozen c = λ group is.
    subst (λ (set : List ℕ). IsFrozenAt c.args.self.now.revisions set group)
    (ap (undone_by c.args.self.now.revisions) c.as_slice.ensures.all ∙ c.in_ok-differ.ensures) (c.set_undone_by.ensures.frozen group is)

pub returns-clause-stands : goal.returns-clause-stands
returns-clause-stands c = λ history stands.
    subst (λ (set : List ℕ). OnOk c.set_undone_by.result (StandsFor c.set_undone_by.new.self (undid history set)))
    (ap (λ (set : List ℕ). flipped set c.as_slice.result.now) (sym (undone_now-stands c.args.self.now history stands)) ∙
    ap (undone_by c.args.self.now.revisions) c.as_slice.ensures.all ∙ c.in_ok-differ.ensures)
    (c.set_undone_by.ensures.stands history stands)

pub returns-clause-change : goal.returns-clause-change
returns-clause-change c = λ history stands.
    subst (λ (set : List ℕ). IfOk c.set_undone_by.result (IsChange history (undid history set)))
    (ap (λ (set : List ℕ). flipped set c.as_slice.result.now) (sym (undone_now-stands c.args.self.now history stands)) ∙
    ap (undone_by c.args.self.now.revisions) c.as_slice.ensures.all ∙ c.in_ok-differ.ensures)
    (c.set_undone_by.ensures.change history stands)
