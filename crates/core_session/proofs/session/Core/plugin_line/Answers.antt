use Rattle.std.proofs.Common.{refl, sym, ◌∙◌}
use Rattle.core_session.proofs.KeptLemmas.{over_of, stage_serves}
use Rattle.xi_plain.specs.declared.ask.Ask.TheVariants.{PluginLine}
use Rattle.core_session.specs.GrownLaws.{IsGrown-same}
use Rattle.core_session.proofs.ServesLemmas.{serves_late, serves_line}
use Rattle.core_session.proofs.session.Core.plugin_line.Goals as goal

pub returns-in-Broken-clause-serves : goal.returns-in-Broken-clause-serves
returns-in-Broken-clause-serves g c =
    let core = c.args.self.now in
    serves_late core.terms core.journal.items c.args.caller (PluginLine c.args.line.now) _ (over_of core.journal.items core.stage core.staged c.in-Broken.is) refl

pub returns-in-Broken-clause-grown : goal.returns-in-Broken-clause-grown
returns-in-Broken-clause-grown g c = IsGrown-same _

pub returns-in-Serves-clause-serves : goal.returns-in-Serves-clause-serves
returns-in-Serves-clause-serves g c =
    let core = c.args.self.now in
    serves_line core.terms core.journal.items c.args.caller c.args.line.now _ _ (stage_serves core.journal.items (sym c.in-Serves.is ∙ core.staged))
    c.take_plugin_line.ensures.serves

pub returns-in-Serves-clause-grown : goal.returns-in-Serves-clause-grown
returns-in-Serves-clause-grown g c = c.take_plugin_line.ensures.grown

pub returns-in-Serves-clause-stays : goal.returns-in-Serves-clause-stays
returns-in-Serves-clause-stays g c = λ is. absurd (c.take_plugin_line.ensures.serves.stays is)
