use Rattle.std.proofs.Common.{◌≡◌, ◌+◌, ◌≤◌, length}
use Rattle.std.specs.Str.{chars, IsUtf8}
use Rattle.rope_node.specs.Lengths.{lf_count}
use Rattle.rope_node.proofs.chunk.lf_count.Given as goal

abbrev pub invariant-loop-c : goal.invariant-loop-c
invariant-loop-c l = record {
  is_text : IsUtf8 l.c-iterator.rest.now;
  rest : l.count + lf_count (chars l.c-iterator.rest.now) ≡ lf_count (chars l.text);
  room : l.count + length l.c-iterator.rest.now ≤ length l.text;
}
