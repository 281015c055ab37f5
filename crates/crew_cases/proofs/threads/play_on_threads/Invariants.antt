use Rattle.std.specs.Prelude.{◌≡◌, ◌≤◌, vec_len, vec_capacity}
use Rattle.crew_cases.proofs.threads.play_on_threads.Given as goal

-- there are as many words as passes of the loop, and room for all
abbrev pub invariant-loop : goal.invariant-loop
invariant-loop g l = (vec_len l.said ≡ l.counter) × (l.count ≤ vec_capacity l.said)
