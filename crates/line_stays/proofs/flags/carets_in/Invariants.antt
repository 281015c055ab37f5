use Rattle.std.proofs.Common.{ℕ, drop}
use Rattle.plain_text.specs.Numbers.{has}
use Rattle.line_render.specs.Rendered.{carets_of}
use Rattle.line_stays.proofs.FlagLemmas.{AreGathered}
use Rattle.line_stays.proofs.RegionLemmas.{RegionsRise}
use Rattle.line_stays.proofs.flags.carets_in.Given as goal

abbrev pub invariant-loop-region : goal.invariant-loop-region
invariant-loop-region l =
    (low : ℕ) × RegionsRise low (drop l.region-index l.regions) ×
    AreGathered l.from l.n (has (carets_of l.regions)) (has (carets_of (drop l.region-index l.regions))) low l.flags
