use Rattle.std.proofs.Common.{◌≡◌, ◌-◌, ℕ, ◌≤◌, length, map}
use Rattle.std.specs.List.{range_with_len}
use Rattle.plain_screen.specs.Plan.{standing}
use Rattle.line_cache.specs.Ahead.{IsAheadOf, IsLeftOf}
use Rattle.line_cache.specs.Stays.{AreStays, if_true, partner_by}
use Rattle.line_cache.specs.Steps.{AreLongest, ArePlacedFrom, lines_in, standings_of}
use Rattle.line_cache.proofs.plan.planned.Given as goal

abbrev pub invariant-loop-at : goal.invariant-loop-at
invariant-loop-at l = record {
  within : l.at ≤ l.total;
  partners : (index : ℕ) → l.at ≤ index → partner_by l.rest index ≡ partner_by l.stays index;
  stays : AreStays (length l.lines) l.total l.rest;
  left : IsLeftOf l.lines l.ahead;
  behind : (index : ℕ) → l.at ≤ index → IsAheadOf l.stays index l.ahead.done;
  standings : standings_of l.plan
      ≡ map (λ index. standing l.window l.request index (if_true l.lines (partner_by l.stays index))) (range_with_len 0 l.at);
  count : lines_in l.plan ≡ l.at;
  longest : AreLongest l.plan;
  placed : ArePlacedFrom 0 l.plan;
}

abbrev pub decreases-loop-at : goal.decreases-loop-at
decreases-loop-at l = l.total - l.at
