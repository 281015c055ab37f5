use Rattle.std.proofs.Common.{◌≡◌, ◌<◌, ◌≤◌, ◌^◌, ◌++◌, length, drop}
use Rattle.plain_text.specs.Text.{byte_len}
use Rattle.span_runs.specs.Triples.{LieInLine, triples_after}
use Rattle.span_runs.proofs.byte_triples.in_sequence.Given as goal

abbrev pub invariant-loop-span : goal.invariant-loop-span
invariant-loop-span l = record {
  so_far : l.made ++ triples_after l.line l.end (drop l.span-index l.sorted) ≡ triples_after l.line 0 l.sorted;
  inside : LieInLine (length l.line) (drop l.span-index l.sorted);
  low : l.end ≤ byte_len l.line;
  small : byte_len l.line < 2 ^ 63;
}
