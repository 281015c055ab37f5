use Rattle.std.proofs.Common.{◌≡◌, ◌+◌, ◌≤◌, None, length}
use Rattle.std.specs.Str.{chars, IsUtf8}
use Rattle.movement_core.specs.Inner.{reach_from}
use Rattle.movement_core.proofs.words.reach.Given as goal

abbrev pub invariant-loop-c : goal.invariant-loop-c
invariant-loop-c l = record {
  is_text : IsUtf8 l.c-iterator.rest.now;
  value : l.len + reach_from l.first (chars l.c-iterator.rest.now) ≡ reach_from None (chars l.text);
  room : l.len + length l.c-iterator.rest.now ≤ length l.text;
}
