use Rattle.std.proofs.Common.{◌≡◌}
use Rattle.plugin_replacer.specs.Turns.{in_utf8}
use Rattle.plugin_replacer.proofs.CourseLemmas.{TakenSoFar}
use Rattle.plugin_replacer.proofs.replacer.Replacer.have.Given as goal

abbrev pub invariant-loop-line : goal.invariant-loop-line
invariant-loop-line g l =
    record {
      found : g.M.Spot.found_in l.self.spot ≡ g.M.Spot.found_in l.fn.self.spot;
      new : l.self.new ≡ l.fn.self.new;
      so_far : TakenSoFar (g.M.Spot.found_in l.fn.self.spot) l.fn.self.new l.fn.self.state l.self.state l.lines l.line-index (in_utf8 l.fn.given) (in_utf8 l.given);
    }
