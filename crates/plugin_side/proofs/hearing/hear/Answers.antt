use Rattle.std.proofs.Common.{sym, ap, ◌∙◌}
use Rattle.std.specs.Str.{encode_utf8_all}
use Rattle.std.proofs.lemmas.Result.{IfOk-weaker}
use Rattle.serde_json.specs.View.{view}
use Rattle.json_rpc.specs.Line.{without_lf}
use Rattle.plugin_side.proofs.Hears.{heard_in-read, heard_in-unread, heard_unread}
use Rattle.plugin_side.proofs.hearing.hear.Goals as goal

pub returns-in-Ok : goal.returns-in-Ok
returns-in-Ok c =
    IfOk-weaker c.value_heard.result _ _
    (λ heard is. is ∙ sym (heard_in-read (encode_utf8_all c.args.line.now) _ (view c.in-Ok.value) (c.without_lf.ensures ∙ ap without_lf (c.as_bytes.ensures.value ∙ c.as_str.ensures.utf8)) c.in-Ok.ensures.ok))
    c.value_heard.ensures

pub returns-in-Err : goal.returns-in-Err
returns-in-Err c =
    heard_unread (encode_utf8_all c.args.line.now) c.unread.result _ c.unread.ensures.nothing c.unread.ensures.read
    (λ other. heard_in-unread (encode_utf8_all c.args.line.now) _ (c.without_lf.ensures ∙ ap without_lf (c.as_bytes.ensures.value ∙ c.as_str.ensures.utf8)) (c.in-Err.ensures.err other))
