use Rattle.std.proofs.Common.{◌≡◌, ◌++◌, drop}
use Rattle.line_render.specs.Rendered.{carets_of}
use Rattle.line_render.specs.Inner.{shown_gaps}
use Rattle.line_render.proofs.carets.gaps_in.Given as goal

abbrev pub invariant-loop-region : goal.invariant-loop-region
invariant-loop-region l =
    l.shown ++ shown_gaps l.start l.gaps l.low (carets_of (drop l.region-index l.regions)) ≡ shown_gaps l.start l.gaps 0 (carets_of l.regions)
