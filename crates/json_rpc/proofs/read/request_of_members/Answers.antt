use Rattle.std.proofs.Common.{◌≡◌, option_map, codes, ◌∙◌}
use Rattle.serde_json.specs.Find.{get_member}
use Rattle.serde_json.specs.View.{view, members_view}
use Rattle.json_rpc.specs.Request.{request_of, request_from}
use Rattle.json_rpc.proofs.Requests.{method≢id, params≢id, params≢method}
use Rattle.json_rpc.proofs.read.request_of_members.Goals as goal

pub returns : goal.returns
unfolding request_of
returns c =
    let all = members_view c.args.members.entries in
    let id : option_map view c.taken-id.result ≡ get_member (codes "id") all = c.taken-id.ensures.value in
    let method : option_map view c.taken-method.result ≡ get_member (codes "method") all = c.taken-method.ensures.value ∙ c.taken-id.ensures.others (codes "method") method≢id in
    let params : option_map view c.taken-params.result ≡ get_member (codes "params") all =
    c.taken-params.ensures.value ∙ c.taken-method.ensures.others (codes "params") params≢method ∙ c.taken-id.ensures.others (codes "params") params≢id in
    c.request_from.ensures ∙ (λ i. request_from (id i) (method i) (params i))
