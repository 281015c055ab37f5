use Rattle.std.proofs.Common.{◌≡◌, ◌≤◌, ◌+◌, ◌++◌, length}
use Rattle.std.specs.Prelude.{vec_len, vec_capacity}
use Rattle.plugin_crew.specs.Member.{plugins_of}
use Rattle.plugin_crew.proofs.crew.Crew.into_plugins.Given as goal

-- the plugins of the first members stand there
abbrev pub invariant-loop-member : goal.invariant-loop-member
invariant-loop-member g l =
    (goal.iterator-loop-member g).can_next l.member-iterator × (goal.iterator-loop-member g).is_finite l.member-iterator
    × (vec_len l.back + length l.member-iterator.rest.items ≤ vec_capacity l.back)
    × (l.back.items ++ plugins_of l.member-iterator.rest.items ≡ plugins_of l.initial.member-iterator.rest.items)
