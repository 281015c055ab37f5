use Rattle.std.proofs.Common.{◌≡◌, ◌+◌, ◌≤◌, ◌++◌, length}
use Rattle.std.specs.Str.{chars, IsUtf8}
use Rattle.plain_screen.specs.View.{whole_lines}
use Rattle.plain_view.proofs.PieceLemmas.{rest_pieces}
use Rattle.plain_view.proofs.pieces.whole_pieces.Given as goal

abbrev pub invariant-loop-c : goal.invariant-loop-c
invariant-loop-c l = record {
  is_text : IsUtf8 l.c-iterator.rest.now;
  rest : l.pieces ++ rest_pieces l.number l.start l.end (chars l.c-iterator.rest.now) ≡ whole_lines (chars l.text);
  room : l.end + length l.c-iterator.rest.now ≤ length l.text;
  few : l.number ≤ l.end + 1;
}
