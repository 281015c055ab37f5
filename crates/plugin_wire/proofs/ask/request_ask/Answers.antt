use Rattle.json_rpc.specs.Request.{request}
use Rattle.plugin_wire.proofs.FairAsks.{fair_command}
use Rattle.plugin_wire.proofs.ask.request_ask.Goals as goal

pub returns-clause-fair : goal.returns-clause-fair
returns-clause-fair c = fair_command (request c.args.rpc) _ c.requires c.in_ok-act.ensures
