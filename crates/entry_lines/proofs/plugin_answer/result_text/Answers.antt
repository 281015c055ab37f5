use Rattle.serde_json.specs.View.{view}
use Rattle.entry_lines.proofs.Texts.{EndsInLf-line, IsAnswerText-result, IsTextOf-cut}
use Rattle.entry_lines.proofs.plugin_answer.result_text.Goals as goal

pub without_lf-requires : goal.without_lf-requires
without_lf-requires c = EndsInLf-line _ _ c.in_ok-write_reply-in_default.ensures.line

pub returns-in_ok-write_reply-in_default : goal.returns-in_ok-write_reply-in_default
returns-in_ok-write_reply-in_default c =
    IsAnswerText-result c.args.id.now (view c.args.value) _ c.in_default.not-NoId
    (IsTextOf-cut _ _ _ c.in_ok-write_reply-in_default.ensures.line c.without_lf.ensures)
