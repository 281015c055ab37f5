use Rattle.std.proofs.Common.{◌≡◌, ◌++◌, drop}
use Rattle.line_render.specs.Inner.{onto_some, selected_runs}
use Rattle.line_render.proofs.selected.selected_in.Given as goal

abbrev pub invariant-loop-region : goal.invariant-loop-region
invariant-loop-region l =
    l.spans ++ onto_some l.last (selected_runs l.start l.end (drop l.region-index l.regions)) ≡ selected_runs l.start l.end l.regions
