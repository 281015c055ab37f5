use Rattle.std.proofs.Common.{◌≡◌, ◌+◌, ◌≤◌, length}
use Rattle.std.specs.Str.{chars, IsUtf8}
use Rattle.edit_ops.specs.Inner.{gaps_within}
use Rattle.edit_ops.proofs.points.gaps_within.Given as goal

abbrev pub invariant-loop-c : goal.invariant-loop-c
invariant-loop-c l = record {
  is_text : IsUtf8 l.c-iterator.rest.now;
  value : l.gaps + gaps_within l.left (chars l.c-iterator.rest.now) ≡ gaps_within l.bytes (chars l.text);
  room : l.gaps + length l.c-iterator.rest.now ≤ length l.text;
}
