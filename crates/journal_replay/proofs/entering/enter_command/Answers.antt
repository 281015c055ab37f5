use Rattle.std.proofs.Common.{◌≡◌, ap, sym, ◌∙◌, subst, inr}
use Rattle.core_session.specs.Core.{journal_of, terms_of}
use Rattle.core_session.specs.GrownLaws.{IsGrown-same}
use Rattle.journal_replay.specs.Inner.{point_at}
use Rattle.journal_replay.proofs.EnterLemmas.{entered_by}
use Rattle.std.specs.Prelude.{List, ℕ, None, Option, IfSome}
use Rattle.std.specs.Str.{encode_utf8_all}
use Rattle.xi_plain.specs.declared.ask.Ask.TheVariants.{PluginLine}
use Rattle.xi_plain.specs.declared.command.Command.{Command}
use Rattle.json_rpc.specs.Line.{line_of}
use Rattle.plugin_side.specs.Asking.{command_data}
use Rattle.plugin_wire.specs.Asked.{ask_of}
use Rattle.session_step.specs.Session.{session_of}
use Rattle.core_session.specs.Serves.{refusal_in}
use Rattle.journal_replay.proofs.FollowLemmas.{follows_plugin, taken_of}
use Rattle.journal_replay.proofs.entering.enter_command.Goals as goal

pub returns-then-not-is_ask-clause-grown : goal.returns-then-not-is_ask-clause-grown
returns-then-not-is_ask-clause-grown g c = IsGrown-same _

pub returns-in-Err-clause-grown : goal.returns-in-Err-clause-grown
returns-in-Err-clause-grown g c = IsGrown-same _

pub returns-in-None-clause-grown : goal.returns-in-None-clause-grown
returns-in-None-clause-grown g c = IsGrown-same _

pub returns-in-Some-clause-entered : goal.returns-in-Some-clause-entered
returns-in-Some-clause-entered g c = λ lines.
    let terms = terms_of c.args.core.now in
    let before = journal_of c.args.core.now in
    let after = journal_of c.plugin_line-reply.new.self in
    let entry = c.args.entry.now in
    let line = c.as_bytes.result.now in
    let Asks : Option (List ℕ) → Type 0 = λ found. IfSome found (λ text. ask_of (encode_utf8_all text) ≡ entry.command) in
    let Back : Option (List ℕ) → Type 0 = λ found. IfSome found (λ text. ask_of (line_of (command_data entry.command)) ≡ entry.command) in
    let asks : ask_of line ≡ entry.command =
    ap ask_of (c.as_bytes.ensures.value ∙ c.as_str.ensures.utf8) ∙ subst Asks c.in-Some.is c.in-Ok.ensures.same in
    let session = session_of terms before in
    let Refuses : Command → Type 0 = λ command. refusal_in session entry.caller command ≡ None in
    entered_by terms.plugins (point_at terms before lines) entry terms before (PluginLine line) after (sym asks)
    (λ taken.
    follows_plugin terms.plugins terms before lines entry c.requires.note c.requires.caller.0 c.requires.caller.1
    (inr (record { asks = c.is_ask.ensures.yes c.if-not-is_ask.false; reads_back = subst Back c.in-Some.is c.in-Ok.ensures.back; accepted = subst Refuses asks taken })))
    (λ follows.
    subst Refuses (sym asks) (taken_of terms.plugins terms before lines entry follows c.requires.caller.0 c.requires.goes).accepted)
    c.settle.result c.plugin_line-reply.result c.plugin_line-reply.ensures.serves c.settle.ensures
