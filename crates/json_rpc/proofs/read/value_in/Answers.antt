use Rattle.json_rpc.proofs.Requests.{line_request-read, line_request-unread, unread}
use Rattle.json_rpc.proofs.read.value_in.Goals as goal

pub returns-in-Ok-clause-ok : goal.returns-in-Ok-clause-ok
returns-in-Ok-clause-ok c = line_request-read _ _ _ c.without_lf.ensures c.in-Ok.ensures.ok

pub returns-in-Err-clause-refused : goal.returns-in-Err-clause-refused
returns-in-Err-clause-refused c =
    unread c.fault_of.result _ _ c.fault_of.ensures.memory c.fault_of.ensures.parse
    (λ refused. line_request-unread _ _ c.without_lf.ensures (c.in-Err.ensures.err refused))
