use Rattle.std.proofs.Common.{◌≡◌, ◌++◌, map}
use Rattle.std.specs.Vec.Iter.{into_iter_items}
use Rattle.plain_screen.specs.Plan.{restyle_of}
use Rattle.line_cache.proofs.ops.restyles.Given as goal

abbrev pub invariant-loop-line : goal.invariant-loop-line
invariant-loop-line l = l.made ++ map restyle_of (into_iter_items l.line-iterator) ≡ map restyle_of l.fn.lines
