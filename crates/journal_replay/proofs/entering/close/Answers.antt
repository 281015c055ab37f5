use Rattle.std.proofs.Common.{◌≡◌, refl, ap, sym, subst}
use Rattle.xi_plain.specs.declared.command.Id.TheVariants.{NoId}
use Rattle.xi_plain.specs.declared.entry.Entry.{Entry}
use Rattle.core_session.specs.Core.{journal_of, terms_of}
use Rattle.core_session.specs.GrownLaws.{IsGrown-same}
use Rattle.core_session.specs.Serves.{Serves}
use Rattle.journal_replay.specs.Inner.{point_at}
use Rattle.journal_replay.proofs.EnterLemmas.{entered_by}
use Rattle.xi_plain.specs.declared.ask.Ask.TheVariants.{CloseDown}
use Rattle.journal_replay.proofs.FollowLemmas.{closing_command, closing_of, follows_closing, not_both}
use Rattle.journal_replay.proofs.entering.close.Goals as goal

pub returns-then-not-has_no_id-clause-entered : goal.returns-then-not-has_no_id-clause-entered
returns-then-not-has_no_id-clause-entered g c = λ plugins lines. (
  λ follows.
      let is = closing_of plugins (terms_of c.args.core.now) (journal_of c.args.core.now) lines c.args.entry.now follows c.requires.front c.requires.closing in
      not_both c.has_no_id.result (c.has_no_id.ensures.1 (ap (λ (e : Entry). e.command.id) is)) c.if-not-has_no_id.true,
  refl,
)

pub returns-then-not-has_no_id-clause-grown : goal.returns-then-not-has_no_id-clause-grown
returns-then-not-has_no_id-clause-grown g c = IsGrown-same _

pub returns-clause-entered : goal.returns-clause-entered
returns-clause-entered g c = λ plugins lines.
    let terms = terms_of c.args.core.now in
    let before = journal_of c.args.core.now in
    let after = journal_of c.close_down-reply.new.self in
    let entry = c.args.entry.now in
    let answer = c.close_down-reply.result in
    let none : entry.command.id ≡ NoId = c.has_no_id.ensures.0 c.if-not-has_no_id.false in
    let asks = closing_command entry.command none c.requires.closing in
    entered_by plugins (point_at terms before lines) entry terms before CloseDown after asks
    (λ taken. follows_closing plugins terms before lines entry c.requires.note c.requires.front asks) (λ follows. refl) c.settle.result answer
    (subst (λ n. Serves terms before n CloseDown answer after) (sym c.requires.front) c.close_down-reply.ensures.serves) c.settle.ensures
