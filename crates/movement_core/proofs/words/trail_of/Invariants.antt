use Rattle.std.proofs.Common.{◌≡◌, ◌+◌, ◌≤◌, ◌++◌, length}
use Rattle.std.specs.Str.{chars, IsUtf8}
use Rattle.movement_core.specs.Inner.{IsTrail}
use Rattle.movement_core.proofs.words.trail_of.Given as goal

abbrev pub invariant-loop-c : goal.invariant-loop-c
invariant-loop-c l = record {
  is_text : IsUtf8 l.c-iterator.rest.now;
  parts : l.yielded ++ chars l.c-iterator.rest.now ≡ chars l.text;
  trail : IsTrail l.yielded l.trail;
  room : length l.yielded + length l.c-iterator.rest.now ≤ length l.text;
}
