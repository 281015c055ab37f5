use Rattle.std.proofs.Common.{◌≡◌, ◌≤◌, length, ◌+◌}
use Rattle.memchr.specs.Find.{is_byte, places}
use Rattle.rope_metrics.proofs.plain.long.Given as goal

abbrev pub invariant-loop : goal.invariant-loop
invariant-loop l = record {
  counted : l.count + length l.iterator' ≡ length (places (is_byte 10) l.text);
  few : length (places (is_byte 10) l.text) ≤ length l.text;
}
