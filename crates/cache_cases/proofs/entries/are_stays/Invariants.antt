use Rattle.std.proofs.Common.{◌≤◌, drop}
use Rattle.line_cache.specs.Stays.{AreStays, AreStaysFrom}
use Rattle.cache_cases.proofs.entries.are_stays.Given as goal

abbrev pub invariant-loop-stay : goal.invariant-loop-stay
invariant-loop-stay l = record {
  old : l.old ≤ l.count;
  new : l.new ≤ l.total;
  rest : AreStaysFrom l.old l.new l.count l.total (drop l.stay-index l.stays) → AreStays l.count l.total l.stays;
}
