use Rattle.std.proofs.Common.{ℕ, drop, length}
use Rattle.doc_layout.specs.Found.{RiseApart, is_found}
use Rattle.line_stays.proofs.FlagLemmas.{AreGathered}
use Rattle.line_stays.proofs.flags.found_in.Given as goal

abbrev pub invariant-loop-run : goal.invariant-loop-run
invariant-loop-run g l =
    (low : ℕ) × RiseApart (length l.shown.results.now.text) low (drop l.run-index l.run-items) ×
    AreGathered l.from l.n (is_found l.run-items) (is_found (drop l.run-index l.run-items)) low l.flags
