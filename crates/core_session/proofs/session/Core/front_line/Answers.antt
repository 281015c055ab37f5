use Rattle.std.proofs.Common.{refl, sym, ◌∙◌}
use Rattle.core_session.proofs.KeptLemmas.{over_of, stage_serves}
use Rattle.xi_plain.specs.declared.ask.Ask.TheVariants.{FrontLine}
use Rattle.core_session.specs.GrownLaws.{IsGrown-same}
use Rattle.core_session.proofs.ServesLemmas.{serves_late, never}
use Rattle.core_session.specs.Kept.{is_over}
use Rattle.core_session.proofs.session.Core.front_line.Goals as goal

pub returns-in-Broken-clause-serves : goal.returns-in-Broken-clause-serves
returns-in-Broken-clause-serves g c =
    let core = c.args.self.now in
    serves_late core.terms core.journal.items 0 (FrontLine c.args.line.now) _ (over_of core.journal.items core.stage core.staged c.in-Broken.is) refl

pub returns-in-Broken-clause-grown : goal.returns-in-Broken-clause-grown
returns-in-Broken-clause-grown g c = IsGrown-same _

pub returns-in-Serves-clause-serves : goal.returns-in-Serves-clause-serves
returns-in-Serves-clause-serves g c = c.take_line.ensures.serves

pub returns-in-Serves-clause-grown : goal.returns-in-Serves-clause-grown
returns-in-Serves-clause-grown g c = c.take_line.ensures.grown

pub returns-in-Serves-clause-stays : goal.returns-in-Serves-clause-stays
returns-in-Serves-clause-stays g c = λ is.
    let core = c.args.self.now in
    never (is_over core.journal.items) (stage_serves core.journal.items (sym c.in-Serves.is ∙ core.staged)) (c.take_line.ensures.serves.closed.0 is)

pub returns-in-Serves-clause-shelf : goal.returns-in-Serves-clause-shelf
returns-in-Serves-clause-shelf g c = c.take_line.ensures.shelf
