use Rattle.std.proofs.Common.{◌≡◌, ◌+◌, ◌≤◌, length}
use Rattle.std.specs.Str.{chars, IsUtf8}
use Rattle.movement_core.specs.Inner.{run_from}
use Rattle.movement_core.specs.Words.{run_len}
use Rattle.movement_core.proofs.words.run_ahead.Given as goal

abbrev pub invariant-loop-c : goal.invariant-loop-c
invariant-loop-c l = record {
  is_text : IsUtf8 l.c-iterator.rest.now;
  value : l.len + run_from l.first (chars l.c-iterator.rest.now) ≡ run_len (chars l.text);
  room : l.len + length l.c-iterator.rest.now ≤ length l.text;
}
