use Rattle.std.proofs.Common.{IfOk, Ok, ◌≡◌, sym, ap, ◌∙◌}
use Rattle.std.proofs.lemmas.Result.{IfOk-weaker}
use Rattle.json_rpc.specs.Request.{request, no_request, or_refusal, line_request}
use Rattle.json_rpc.proofs.Asked.{IsAsked-line_request}
use Rattle.json_rpc.proofs.Requests.{asked, refused}
use Rattle.json_rpc.proofs.read.read_line.Goals as goal

asks : (c : goal.After-ok_or) → IfOk c.ok_or.result (λ rpc. line_request c.args.line.now ≡ Ok (request rpc))
asks c = rw c.ok_or.ensures.value (asked _ _ (c.in_ok-value.ensures.ok ∙ ap (or_refusal no_request) (sym c.request_in.ensures)))

pub returns-clause-asks : goal.returns-clause-asks
returns-clause-asks c = asks c

pub returns-clause-refused : goal.returns-clause-refused
returns-clause-refused c = rw c.ok_or.ensures.value (refused _ _ (c.in_ok-value.ensures.ok ∙ ap (or_refusal no_request) (sym c.request_in.ensures)))

pub returns-clause-id_fits : goal.returns-clause-id_fits
returns-clause-id_fits c = IfOk-weaker c.ok_or.result _ _ (λ rpc is. (IsAsked-line_request c.args.line.now _ is).id_fits) (asks c)

pub returns-clause-asked : goal.returns-clause-asked
returns-clause-asked c = IfOk-weaker c.ok_or.result _ _ (λ rpc is. IsAsked-line_request c.args.line.now _ is) (asks c)
