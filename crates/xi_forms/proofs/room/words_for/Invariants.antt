use Rattle.std.specs.Prelude.{◌≡◌, ◌≤◌, vec_len, vec_capacity}
use Rattle.xi_forms.proofs.room.words_for.Given as goal

-- there are as many words as passes of the loop, and room for all
abbrev pub invariant-loop : goal.invariant-loop
invariant-loop l = (vec_len l.said ≡ l.counter) × (l.count ≤ vec_capacity l.said)
