use Rattle.plugin_wire.proofs.MethodRows.{method_of_row}
use Rattle.plugin_wire.proofs.method.method_named.Goals as goal

pub returns-in-Some : goal.returns-in-Some
returns-in-Some c = method_of_row c.row_of.result c.args.name.now c.in-Some.row c.method_at.result c.row_of.ensures.own c.row_of.ensures.within c.in-Some.is c.method_at.ensures
