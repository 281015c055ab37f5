use Rattle.plugin_wire.proofs.ForCallers.{MadeOfEls}
use Rattle.plugin_side.proofs.delta_value.els_value.Given as goal

abbrev pub invariant-loop-el : goal.invariant-loop-el
invariant-loop-el l = MadeOfEls l.els l.el-index l.made.items
