use Rattle.std.proofs.Common.{codes, ap, ◌∙◌, subst}
use Rattle.std.proofs.lemmas.Result.{IfOk-weaker}
use Rattle.std.specs.Str.{encode_utf8_all}
use Rattle.serde_json.specs.View.{view}
use Rattle.json_rpc.specs.Line.{IsLineOf}
use Rattle.json_rpc.specs.Response.{pair_data}
use Rattle.json_rpc.proofs.Responses.{line_response-reply}
use Rattle.json_rpc.proofs.write.write_reply.Goals as goal

pub returns-clause-reads_back : goal.returns-clause-reads_back
returns-clause-reads_back c =
    let shape = c.in_ok-pair.ensures ∙ ap (λ d. pair_data (codes "id") d (codes "result") (view c.args.value)) c.in_ok-id.ensures.value in
    IfOk-weaker c.line.result _ _ (λ text is. line_response-reply c.args.id.now (view c.args.value) _ (subst (λ d. IsLineOf d (encode_utf8_all text)) shape is) c.in_ok-id.ensures.text) c.line.ensures
