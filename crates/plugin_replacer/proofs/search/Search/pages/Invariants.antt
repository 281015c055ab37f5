use Rattle.std.proofs.Common.{◌≡◌}
use Rattle.plugin_replacer.specs.Turns.{in_utf8}
use Rattle.plugin_replacer.proofs.CourseLemmas.{SearchedSoFar}
use Rattle.plugin_replacer.proofs.search.Search.pages.Given as goal

abbrev pub invariant-loop-leaf : goal.invariant-loop-leaf
invariant-loop-leaf g l =
    record {
      found : g.M.Spot.found_in l.self.spot ≡ g.M.Spot.found_in l.fn.self.spot;
      new : l.self.new ≡ l.fn.self.new;
      so_far :
          SearchedSoFar (g.M.Spot.found_in l.fn.self.spot) l.fn.self.new l.fn.self.searched l.self.searched l.leaves l.leaf-index (in_utf8 l.fn.given) (in_utf8 l.given);
    }
