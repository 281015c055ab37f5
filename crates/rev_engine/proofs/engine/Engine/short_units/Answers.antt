use Rattle.std.proofs.Common.{ap, sym, subst, ◌∙◌}
use Rattle.plain_edits.specs.Delta.{Fits}
use Rattle.delta_core.specs.Units.{IsUnitsOf}
use Rattle.rev_engine.specs.State.{shown_at}
use Rattle.rev_engine.proofs.StandLemmas.{refused-misfit}
use Rattle.rev_engine.proofs.engine.Engine.short_units.Goals as goal

pub returns-in-Err-clause-refused : goal.returns-in-Err-clause-refused
returns-in-Err-clause-refused c = λ history stands _.
    refused-misfit c.args.self.now history c.args.edit.now.rev c.args.edit.now.delta stands _ c.in-Err.misfit c.requires.kept
    (c.head_rope-text.ensures.shown ∙ ap (shown_at c.args.self.now.union c.args.self.now.revisions) (sym c.requires.is)) c.in-Err.ensures.misfit

pub returns-clause-units : goal.returns-clause-units
returns-clause-units c = record {
  kept = c.requires.kept;
  fits =
      subst (λ text. Fits text c.args.edit.now.delta)
      (c.head_rope-text.ensures.shown ∙ ap (shown_at c.args.self.now.union c.args.self.now.revisions) (sym c.requires.is)) c.in_default.ensures.fits;
  says =
      subst (λ text. IsUnitsOf text c.args.edit.now.delta c.in_ok-to_units.field-0)
      (c.head_rope-text.ensures.shown ∙ ap (shown_at c.args.self.now.union c.args.self.now.revisions) (sym c.requires.is)) c.in_ok-to_units.ensures;
}
