use Rattle.std.proofs.Common.{◌≤◌}
use Rattle.std.specs.Str.{chars, IsUtf8}
use Rattle.rope_tree.proofs.RopeLemmas.{IsTaken}
use Rattle.rope_tree.proofs.rope.fitting.Given as goal

abbrev pub invariant-loop-c : goal.invariant-loop-c
invariant-loop-c l = record {
  is_text : IsUtf8 l.c-iterator.rest.now;
  taken : IsTaken (chars l.text) l.gap l.place (chars l.c-iterator.rest.now);
  short : l.place ≤ 1024;
}
