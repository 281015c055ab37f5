use Rattle.std.proofs.Common.{◌≡◌, ◌+◌, drop}
use Rattle.std.specs.List.{position_or_len}
use Rattle.session_load.specs.Table.{is_of}
use Rattle.session_load.proofs.table.place_of.Given as goal

abbrev pub invariant-loop-place : goal.invariant-loop-place
invariant-loop-place l = l.place + position_or_len (is_of l.kind) (drop l.place l.rows) ≡ position_or_len (is_of l.kind) l.rows
