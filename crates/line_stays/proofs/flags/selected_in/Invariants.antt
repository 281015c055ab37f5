use Rattle.std.proofs.Common.{ℕ, drop}
use Rattle.line_render.specs.Rendered.{is_selected}
use Rattle.line_stays.proofs.FlagLemmas.{AreGathered}
use Rattle.line_stays.proofs.RegionLemmas.{RegionsRise}
use Rattle.line_stays.proofs.flags.selected_in.Given as goal

abbrev pub invariant-loop-region : goal.invariant-loop-region
invariant-loop-region l =
    (low : ℕ) × RegionsRise low (drop l.region-index l.regions) ×
    AreGathered l.from l.n (is_selected l.regions) (is_selected (drop l.region-index l.regions)) low l.flags
