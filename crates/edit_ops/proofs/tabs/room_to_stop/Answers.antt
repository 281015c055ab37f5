use Rattle.std.proofs.Common.{arith}
use Rattle.edit_ops.proofs.TabLemmas.{tab_stop-room}
use Rattle.edit_ops.proofs.tabs.room_to_stop.Goals as goal

pub returns : goal.returns
returns c = omega (arith, tab_stop-room c.args.tab c.args.column c.requires)
