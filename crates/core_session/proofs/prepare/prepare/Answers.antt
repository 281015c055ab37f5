use Rattle.std.proofs.Common.{sym, ◌∙◌, subst}
use Rattle.xi_plain.specs.declared.command.Command.{Command}
use Rattle.xi_plain.specs.declared.entry.Entry.{Entry}
use Rattle.session_step.specs.Views.{IsOfLine}
use Rattle.core_session.proofs.SessionLemmas.{IsOfLine-command_of}
use Rattle.core_session.proofs.prepare.prepare.Goals as goal

pub ask-asked-requires-clause-line : goal.ask-asked-requires-clause-line
ask-asked-requires-clause-line g c =
    let At : Command → Type 0 = λ command. IsOfLine command.act in
    subst At (sym c.in_ok-command.ensures.command) (IsOfLine-command_of c.args.line.now)

pub returns-clause-asks : goal.returns-clause-asks
returns-clause-asks g c =
    let At : Command → Type 0 = λ command. IsOfLine command.act in
    let Of : Entry → Type 0 = λ (entry : Entry). IsOfLine entry.command.act in
    subst Of (sym c.front_entry.ensures)
    (subst At (sym (c.in_ok-command-2.ensures.made.0 ∙ c.in_ok-command.ensures.command)) (IsOfLine-command_of c.args.line.now))
