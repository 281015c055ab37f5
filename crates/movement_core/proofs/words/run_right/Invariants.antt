use Rattle.std.proofs.Common.{◌≡◌, ◌+◌, ◌-◌, ◌^◌, ◌<◌, ◌≤◌, length}
use Rattle.std.specs.Prelude.{min}
use Rattle.movement_core.proofs.words.run_right.Given as goal

abbrev pub invariant-loop-part : goal.invariant-loop-part
invariant-loop-part g l = record {
  inside : l.len ≤ l.room;
  some : min 1 l.room ≤ l.len;
  room : l.gap + l.room ≡ length (g.T.TextView.text_of l.view);
  bound : l.gap + l.room < 2 ^ 64;
}

abbrev pub decreases-loop-part : goal.decreases-loop-part
decreases-loop-part g l = l.room - l.len
