use Rattle.std.proofs.Common.{◌≡◌, ◌-◌, ◌≤◌, length}
use Rattle.match_index.specs.Edited.{after_of}
use Rattle.match_index.specs.Inner.{IsWalked}
use Rattle.match_index.proofs.edit.Edit.met.Given as goal

abbrev pub invariant-loop-search : goal.invariant-loop-search
invariant-loop-search l = record {
  walked : IsWalked (after_of l.self) l.walked;
  from : l.walked.from ≡ l.fn.walked.from;
  start : l.walked.start ≡ l.fn.walked.start;
  past : l.self.new ≤ l.walked.at;
}

abbrev pub decreases-loop-search : goal.decreases-loop-search
decreases-loop-search l = length l.self.after.now - l.walked.at
