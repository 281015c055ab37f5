use Rattle.std.proofs.Common.{◌≡◌, ◌+◌, ◌*◌, ◌≤◌, drop, flat_map, length}
use Rattle.rev_engine.proofs.engine.added_chars.Given as goal

abbrev pub invariant-loop-one : goal.invariant-loop-one
invariant-loop-one l = record {
  counted : l.total + length (flat_map (λ one. one.text) (drop l.one-index l.added)) ≡ length (flat_map (λ one. one.text) l.added);
  small : l.total ≤ 18446744073709551615 * l.one-index;
}
