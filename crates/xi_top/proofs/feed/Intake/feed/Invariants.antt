use Rattle.std.proofs.Common.{◌≡◌, ◌+◌, ◌≤◌, ℕ, List, ◌++◌, length}
use Rattle.xi_top.specs.InnerRun.{HasTaken, IsSmall, weight, begun_of}
use Rattle.xi_top.proofs.feed.Intake.feed.Given as goal

abbrev pub invariant-loop-at : goal.invariant-loop-at
invariant-loop-at g l = record {
  ready : g.L.LineTaker.ready l.taker;
  later : g.L.LineTaker.later l.initial.taker l.taker;
  small : IsSmall (begun_of l.self);
  heavier : weight (begun_of l.initial.self) + length l.chunk ≤ weight (begun_of l.self) + length l.rest;
  done : (front : List ℕ) × (l.chunk ≡ front ++ l.rest) × ((taken : List ℕ) → HasTaken (g.L.LineTaker.seen l.initial.taker) taken (begun_of l.initial.self)
      → HasTaken (g.L.LineTaker.seen l.taker) (taken ++ front) (begun_of l.self));
}

abbrev pub decreases-loop-at : goal.decreases-loop-at
decreases-loop-at g l = length l.rest
