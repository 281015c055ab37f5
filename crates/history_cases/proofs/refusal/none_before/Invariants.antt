use Rattle.std.proofs.Common.{ℕ, ◌≤◌, drop}
use Rattle.std.specs.List.{AllByRecursion}
use Rattle.rev_engine.specs.Asked.{DiffersAt}
use Rattle.history_cases.proofs.refusal.none_before.Given as goal

abbrev pub invariant-loop-other : goal.invariant-loop-other
invariant-loop-other l =
    AllByRecursion (λ (other : ℕ). DiffersAt l.plain l.groups other → l.group ≤ other) (drop l.other-index l.other-items) →
    AllByRecursion (λ (other : ℕ). DiffersAt l.plain l.groups other → l.group ≤ other) l.plain.collected
