use Rattle.std.proofs.Common.{◌≡◌, None, true, refl, sym, ◌∙◌, subst}
use Rattle.xi_plain.specs.declared.command.Command.{Command}
use Rattle.plugin_wire.specs.FairAsk.{IsFairCommand}
use Rattle.session_step.specs.Accepted.{is_of_plugin}
use Rattle.core_session.specs.Core.{journal_of}
use Rattle.core_session.specs.Kept.{ending}
use Rattle.core_session.proofs.KeptLemmas.{over_of, stage_serves}
use Rattle.xi_plain.specs.declared.ask.Ask.TheVariants.{PluginEnd}
use Rattle.core_session.specs.GrownLaws.{IsGrown-same}
use Rattle.core_session.specs.InnerObject.{ServesCommand}
use Rattle.core_session.proofs.ServesLemmas.{serves_end, serves_late}
use Rattle.core_session.specs.Serves.{refusal_in}
use Rattle.session_step.specs.Session.{session_of}
use Rattle.core_session.proofs.session.Core.plugin_end.Goals as goal

pub take_command-requires-clause-fair : goal.take_command-requires-clause-fair
take_command-requires-clause-fair g c = subst IsFairCommand (sym c.ending.ensures) (record { number = tt; word = tt; ask = tt })

pub take_command-requires-clause-asks : goal.take_command-requires-clause-asks
take_command-requires-clause-asks g c =
    let core = c.args.self.now in
    let At : Command → Type 0 =
    λ command. refusal_in (session_of core.terms core.journal.items) c.args.caller command ≡ None → is_of_plugin command.act ≡ true in
    subst At (sym c.ending.ensures) (λ taken. refl)

-- an end is never refused
pub returns-in-Broken-clause-serves : goal.returns-in-Broken-clause-serves
returns-in-Broken-clause-serves g c =
    let core = c.args.self.now in
    serves_late core.terms core.journal.items c.args.caller PluginEnd _ (over_of core.journal.items core.stage core.staged c.in-Broken.is) refl

pub returns-in-Broken-clause-grown : goal.returns-in-Broken-clause-grown
returns-in-Broken-clause-grown g c = IsGrown-same _

pub returns-in-Serves-clause-serves : goal.returns-in-Serves-clause-serves
returns-in-Serves-clause-serves g c =
    let core = c.args.self.now in
    let At : Command → Type 0 = λ command.
    ServesCommand core.terms core.journal.items c.args.caller command c.take_command.result (journal_of c.take_command.new.self) in
    serves_end core.terms core.journal.items c.args.caller _ _ (stage_serves core.journal.items (sym c.in-Serves.is ∙ core.staged))
    (subst At c.ending.ensures c.take_command.ensures.serves)

pub returns-in-Serves-clause-grown : goal.returns-in-Serves-clause-grown
returns-in-Serves-clause-grown g c = c.take_command.ensures.grown

pub returns-in-Serves-clause-stays : goal.returns-in-Serves-clause-stays
returns-in-Serves-clause-stays g c = λ is. absurd (c.take_command.ensures.serves.stays is)
