use Rattle.std.proofs.Common.{ap, sym, ◌∙◌}
use Rattle.std.specs.Prelude.{◌&&◌}
use Rattle.doc_view.specs.Inner.{is_whole_run}
use Rattle.doc_view.proofs.IdleLemmas.{does_nothing-is}
use Rattle.doc_layout.proofs.ForCallers.{empty-is}
use Rattle.doc_view.proofs.idle.does_nothing.Goals as goal

pub returns-then-is_empty : goal.returns-then-is_empty
returns-then-is_empty c = λ replacements is.
    c.keeps_all.ensures ∙
    sym (ap (λ b. b && is_whole_run c.args.units.now.base c.args.units.now.kept) (sym (empty-is c.args.units.now.added c.is_empty.result c.is_empty.ensures) ∙ c.if-is_empty.true)) ∙
    does_nothing-is c.args.units.now replacements is

pub returns-else-is_empty : goal.returns-else-is_empty
returns-else-is_empty c = λ replacements is.
    c.if-is_empty.false ∙
    sym (ap (λ b. b && is_whole_run c.args.units.now.base c.args.units.now.kept) (sym (empty-is c.args.units.now.added c.is_empty.result c.is_empty.ensures) ∙ c.if-is_empty.false)) ∙
    does_nothing-is c.args.units.now replacements is
