use Rattle.std.proofs.Common.{◌≡◌, ◌+◌, ◌≤◌, length}
use Rattle.std.specs.Str.{chars, IsUtf8}
use Rattle.plain_text.specs.Text.{place_of}
use Rattle.plain_text.proofs.text.place_in.Given as goal

abbrev pub invariant-loop-c : goal.invariant-loop-c
invariant-loop-c l = record {
  is_text : IsUtf8 l.c-iterator.rest.now;
  rest : l.place + place_of (chars l.c-iterator.rest.now) l.left ≡ place_of (chars l.text) l.gap;
  room : l.place + length l.c-iterator.rest.now ≤ length l.text;
}
