use Rattle.std.proofs.Common.{◌≡◌, ◌+◌, ◌≤◌, None, length}
use Rattle.std.specs.Str.{chars, IsUtf8}
use Rattle.movement_core.specs.Nearby.{first_apart}
use Rattle.movement_core.proofs.nearby.first_apart.Given as goal

abbrev pub invariant-loop-c : goal.invariant-loop-c
invariant-loop-c l = record {
  is_text : IsUtf8 l.c-iterator.rest.now;
  value : first_apart l.last l.at (chars l.c-iterator.rest.now) ≡ first_apart None 0 (chars l.text);
  room : l.at + length l.c-iterator.rest.now ≤ length l.text;
}
