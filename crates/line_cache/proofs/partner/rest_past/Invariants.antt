use Rattle.std.proofs.Common.{◌≡◌, ℕ, ◌≤◌, length}
use Rattle.line_cache.specs.Ahead.{FitsNumbers}
use Rattle.line_cache.specs.Stays.{AreStays, partner_by}
use Rattle.line_cache.proofs.partner.rest_past.Given as goal

abbrev pub invariant-loop-rest : goal.invariant-loop-rest
invariant-loop-rest l = record {
  partners : (index : ℕ) → l.at ≤ index → partner_by l.rest index ≡ partner_by l.stays index;
  stays : (count total : ℕ) → AreStays count total l.stays → AreStays count total l.rest;
  fits : FitsNumbers l.rest;
}

abbrev pub decreases-loop-rest : goal.decreases-loop-rest
decreases-loop-rest l = length l.rest
