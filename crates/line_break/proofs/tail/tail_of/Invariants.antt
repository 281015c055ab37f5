use Rattle.std.proofs.Common.{◌≡◌, ◌+◌, ◌≤◌, ◌++◌, length}
use Rattle.std.specs.Str.{chars, IsUtf8}
use Rattle.line_break.specs.Inner.{IsTail}
use Rattle.line_break.proofs.tail.tail_of.Given as goal

abbrev pub invariant-loop-c : goal.invariant-loop-c
invariant-loop-c l = record {
  is_text : IsUtf8 l.c-iterator.rest.now;
  parts : l.yielded ++ chars l.c-iterator.rest.now ≡ chars l.cluster;
  tail : IsTail l.yielded l.tail;
  room : l.tail.len + length l.c-iterator.rest.now ≤ length l.cluster;
}
