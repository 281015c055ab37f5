use Rattle.std.proofs.Common.{◌≡◌, None, true, refl, sym, subst}
use Rattle.xi_plain.specs.declared.command.Command.{Command}
use Rattle.session_step.specs.Accepted.{is_of_plugin}
use Rattle.session_step.specs.Session.{session_of}
use Rattle.core_session.proofs.AskLemmas.{asks_of-line}
use Rattle.core_session.specs.Core.{journal_of}
use Rattle.plugin_wire.specs.Asked.{ask_of}
use Rattle.core_session.specs.GrownLaws.{IsGrown-same}
use Rattle.core_session.specs.InnerObject.{ServesCommand}
use Rattle.core_session.proofs.ServesLemmas.{command_lacking}
use Rattle.core_session.specs.Serves.{refusal_in}
use Rattle.core_session.proofs.session.Core.take_plugin_line.Goals as goal

pub take_command-requires-clause-asks : goal.take_command-requires-clause-asks
take_command-requires-clause-asks g c =
    let core = c.args.self.now in
    let session = session_of core.terms core.journal.items in
    let At : Command → Type 0 = λ command. refusal_in (session_of core.terms core.journal.items) c.args.caller command ≡ None → is_of_plugin command.act ≡ true in
    subst At (sym c.in-Ok.ensures.command) (asks_of-line c.args.line.now session.views session.styles c.args.caller)

pub returns-in-Err-clause-serves : goal.returns-in-Err-clause-serves
returns-in-Err-clause-serves g c =
    command_lacking c.args.self.now.terms c.args.self.now.journal.items c.args.caller (ask_of c.args.line.now) _ refl

pub returns-in-Err-clause-grown : goal.returns-in-Err-clause-grown
returns-in-Err-clause-grown g c = IsGrown-same _

pub returns-in-Ok-clause-serves : goal.returns-in-Ok-clause-serves
returns-in-Ok-clause-serves g c =
    let core = c.args.self.now in
    let At : Command → Type 0 = λ command.
    ServesCommand core.terms core.journal.items c.args.caller command c.take_command.result (journal_of c.take_command.new.self) in
    subst At c.in-Ok.ensures.command c.take_command.ensures.serves

pub returns-in-Ok-clause-grown : goal.returns-in-Ok-clause-grown
returns-in-Ok-clause-grown g c = c.take_command.ensures.grown
