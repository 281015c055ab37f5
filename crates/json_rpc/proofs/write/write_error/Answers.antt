use Rattle.std.proofs.Common.{◌≡◌, rules, subst}
use Rattle.std.proofs.lemmas.Result.{IfOk-weaker}
use Rattle.std.specs.Str.{encode_utf8_all}
use Rattle.serde_json.specs.View.{view}
use Rattle.json_rpc.specs.Line.{IsLineOf}
use Rattle.json_rpc.specs.Response.{error_data}
use Rattle.json_rpc.proofs.Responses.{line_response-error}
use Rattle.json_rpc.proofs.write.write_error.Goals as goal

pub returns-clause-reads_back : goal.returns-clause-reads_back
returns-clause-reads_back c =
    let shape : view c.in_ok-pair.field-0 ≡ error_data c.args.id.now c.args.code c.args.message.now = search rules in
    IfOk-weaker c.line.result _ _
    (λ text is. line_response-error c.args.id.now c.args.code c.args.message.now _ (subst (λ d. IsLineOf d (encode_utf8_all text)) shape is) c.in_ok-id.ensures.text c.in_ok-error.ensures.characters) c.line.ensures
