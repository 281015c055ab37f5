use Rattle.std.proofs.Common.{◌≡◌, ℕ, ◌-◌, ◌<◌, ◌≤◌, true, length}
use Rattle.std.specs.Prelude.{slice_index}
use Rattle.line_break.specs.Breaks.{is_space_or_tab}
use Rattle.line_break.proofs.plain.first_shown.Given as goal

abbrev pub invariant-loop-at : goal.invariant-loop-at
invariant-loop-at l = record {
  past : l.from ≤ l.at;
  blank : (i : ℕ) → l.from ≤ i → i < l.at → is_space_or_tab (slice_index l.run i) ≡ true;
}

abbrev pub decreases-loop-at : goal.decreases-loop-at
decreases-loop-at l = length l.run - l.at
