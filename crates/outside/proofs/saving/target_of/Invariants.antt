use Rattle.std.proofs.Common.{ℕ, string_bytes}
use Rattle.outside.specs.Paths.{LeadsTo}
use Rattle.outside.proofs.saving.target_of.Given as goal

-- so far the links that were followed lead to this path
abbrev pub invariant-loop : goal.invariant-loop
invariant-loop g l = (links : ℕ) × LeadsTo links l.initial.path (string_bytes l.reached)
