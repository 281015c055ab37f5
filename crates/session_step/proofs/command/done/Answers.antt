use Rattle.std.proofs.Common.{◌≡◌, List, map, Ok, ap, ◌∙◌, subst}
use Rattle.std.proofs.lemmas.Result.{IfOk-at_ok, IfOk-weaker}
use Rattle.std.specs.Str.{encode_utf8_all}
use Rattle.plugin_wire.specs.Told.{Told}
use Rattle.entry_lines.specs.Answer.{reply_of}
use Rattle.entry_lines.specs.Notices.{AreNoticeTexts, told_of}
use Rattle.entry_lines.specs.Piece.{AreLinesOf, entry_messages}
use Rattle.view_update.specs.declared.note.NumberedStyle.{NumberedStyle}
use Rattle.session_step.specs.declared.command.CommandEffects.{CommandEffects}
use Rattle.session_step.specs.declared.opened.Opened.{Opened}
use Rattle.session_step.specs.Views.{IsDone, IsDoneWithNews}
use Rattle.session_step.proofs.DoneLemmas.{IsDone-by}
use Rattle.session_step.proofs.command.done.Goals as goal

pub returns : goal.returns
returns c = λ session there terms ended opened config.
    let command = c.args.command.now in
    let effects = c.in_ok-effects.effects in
    let came = c.in_ok-effects.ensures session there terms ended opened config in
    IfOk-weaker c.whole.result (λ (done : CommandEffects). (effects.held ≡ done.held) × (c.piece_of-piece.result ≡ Ok done.piece) × (c.notices_of-lines.result ≡ Ok done.told))
    (IsDoneWithNews session command c.args.given)
    (λ done is.
    let At : List Opened → Type 0 = λ held. IsDone session command c.args.given done.piece held in
    let Lines : List NumberedStyle → Type 0 =
    λ styles. AreLinesOf (entry_messages command.id (reply_of effects.reply) styles effects.updates effects.scroll) (encode_utf8_all done.piece) in
    let Told_by : List Told → Type 0 = λ news. AreNoticeTexts news done.told in
    record {
      done =
          subst At is.0
          (IsDone-by session command c.args.given effects done.piece came
          (IfOk-at_ok _ is.1 c.piece_of-piece.ensures.reads_back) (subst Lines c.new.ensures (IfOk-at_ok _ is.1 c.piece_of-piece.ensures.lines)));
      told = subst Told_by (ap (map told_of) c.as_slice.ensures ∙ came.told) (IfOk-at_ok _ is.2 c.notices_of-lines.ensures);
    }) c.whole.ensures
