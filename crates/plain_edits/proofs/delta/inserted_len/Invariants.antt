use Rattle.std.proofs.Common.{◌≡◌, ◌+◌, ◌*◌, ◌≤◌, drop}
use Rattle.plain_edits.specs.Delta.{inserted_len}
use Rattle.plain_edits.proofs.delta.inserted_len.Given as goal

abbrev pub invariant-loop-el : goal.invariant-loop-el
invariant-loop-el l = record {
  counted : l.total + inserted_len (drop l.el-index l.els) ≡ inserted_len l.els;
  small : l.total ≤ 18446744073709551615 * l.el-index;
}
