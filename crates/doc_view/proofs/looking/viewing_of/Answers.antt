use Rattle.std.proofs.Common.{Some, refl, ap, sym, ◌∙◌}
use Rattle.plain_text.specs.declared.run.Run.{Run}
use Rattle.doc_view.specs.declared.looking.Viewing.TheVariants.{Lines, Window}
use Rattle.doc_view.specs.Looking.{viewing_of}
use Rattle.doc_view.proofs.LookingLemmas.{viewing_of-else}
use Rattle.doc_view.proofs.looking.viewing_of.Goals as goal

pub returns-in-Scroll : goal.returns-in-Scroll
returns-in-Scroll c = ap viewing_of c.in-Scroll.is ∙ ap (λ (lines : Run). Some (Window lines)) (sym c.lines_of.ensures)

pub returns-in-RequestLines : goal.returns-in-RequestLines
returns-in-RequestLines c = ap viewing_of c.in-RequestLines.is ∙ ap (λ (lines : Run). Some (Lines lines)) (sym c.lines_of-in-RequestLines.ensures)

pub returns-in-Find : goal.returns-in-Find
returns-in-Find c = ap viewing_of c.in-Find.is

pub returns-in-FindNext : goal.returns-in-FindNext
returns-in-FindNext c = ap viewing_of c.in-FindNext.is

pub returns-in-FindPrevious : goal.returns-in-FindPrevious
returns-in-FindPrevious c = ap viewing_of c.in-FindPrevious.is

pub returns-in_default : goal.returns-in_default
returns-in_default c = (
  viewing_of-else c.args.act c.in_default.not-Scroll c.in_default.not-RequestLines c.in_default.not-Find c.in_default.not-FindNext c.in_default.not-FindPrevious,
  refl,
)
