use Rattle.std.proofs.Common.{◌≡◌, refl, sym, ◌∙◌, subst}
use Rattle.core_session.specs.Core.{journal_of, terms_of}
use Rattle.core_session.specs.GrownLaws.{IsGrown-same}
use Rattle.core_session.specs.Serves.{Serves}
use Rattle.journal_replay.specs.Inner.{point_at}
use Rattle.journal_replay.proofs.EnterLemmas.{entered_by}
use Rattle.plain_text.specs.InputLines.{lines_of}
use Rattle.xi_plain.specs.declared.ask.Ask.TheVariants.{FrontLine}
use Rattle.front_wire.specs.Front.{command_of}
use Rattle.journal_replay.specs.Follow.{NextAsks}
use Rattle.journal_replay.proofs.FollowLemmas.{follows_line}
use Rattle.journal_replay.proofs.entering.enter_line.Goals as goal

pub returns-then-is_empty-clause-grown : goal.returns-then-is_empty-clause-grown
returns-then-is_empty-clause-grown g c = IsGrown-same _

pub returns-then-not-is_same_command-clause-grown : goal.returns-then-not-is_same_command-clause-grown
returns-then-not-is_same_command-clause-grown g c = IsGrown-same _

pub returns-in-Err-clause-grown : goal.returns-in-Err-clause-grown
returns-in-Err-clause-grown g c = IsGrown-same _

pub returns-else-not-is_same_command-clause-entered : goal.returns-else-not-is_same_command-clause-entered
returns-else-not-is_same_command-clause-entered g c = λ plugins.
    let terms = terms_of c.args.core.now in
    let before = journal_of c.args.core.now in
    let after = journal_of c.front_line-reply.new.self in
    let entry = c.args.entry.now in
    let line = c.cut_line.result.0.now in
    let lines = lines_of c.args.lines.now in
    let answer = c.front_line-reply.result in
    let asks : command_of line ≡ entry.command = sym c.in-Ok.ensures.command ∙ c.is_same_command.ensures.0 c.if-not-is_same_command.false in
    let next : NextAsks lines entry.command = subst (λ xs. NextAsks xs entry.command) (sym c.cut_line.ensures.lines) asks in
    entered_by plugins (point_at terms before lines) entry terms before (FrontLine line) after (sym asks)
    (λ taken. follows_line plugins terms before lines entry c.requires.note c.requires.front next) (λ follows. refl) c.settle.result answer
    (subst (λ n. Serves terms before n (FrontLine line) answer after) (sym c.requires.front) c.front_line-reply.ensures.serves) c.settle.ensures
