use Rattle.std.proofs.Common.{◌≡◌, ◌+◌, ◌≤◌, length}
use Rattle.std.specs.Str.{chars, IsUtf8}
use Rattle.plain_text.specs.Text.{gap_from, gap_at}
use Rattle.plain_text.proofs.text.gap_in.Given as goal

abbrev pub invariant-loop-c : goal.invariant-loop-c
invariant-loop-c l = record {
  is_text : IsUtf8 l.c-iterator.rest.now;
  rest : gap_from l.gap (chars l.c-iterator.rest.now) l.left ≡ gap_at (chars l.text) l.fn.at;
  room : l.gap + length l.c-iterator.rest.now ≤ length l.text;
}
