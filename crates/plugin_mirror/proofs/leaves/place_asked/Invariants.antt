use Rattle.std.proofs.Common.{◌≡◌, ◌+◌, drop}
use Rattle.std.specs.List.{position_or_len}
use Rattle.plugin_mirror.specs.Leaf.{is_asked}
use Rattle.plugin_mirror.proofs.leaves.place_asked.Given as goal

abbrev pub invariant-loop-place : goal.invariant-loop-place
invariant-loop-place l = l.place + position_or_len (is_asked l.id) (drop l.place l.leaves) ≡ position_or_len (is_asked l.id) l.leaves
