use Rattle.std.proofs.Common.{rules}
use Rattle.std.specs.Str.{encode_utf8_all}
use Rattle.json_rpc.specs.Response.{error_data}
use Rattle.entry_lines.proofs.Texts.{EndsInLf-line, IsTextOf-cut}
use Rattle.entry_lines.proofs.plugin_answer.error_text.Goals as goal

pub without_lf-requires : goal.without_lf-requires
without_lf-requires c = EndsInLf-line _ _ c.in_ok-write_error.ensures.line

pub returns : goal.returns
returns c =
    IsTextOf-cut (error_data c.args.id.now c.args.code c.args.message.now) (encode_utf8_all c.in_ok-write_error.field-0) _ (search (rules))
    c.without_lf.ensures
