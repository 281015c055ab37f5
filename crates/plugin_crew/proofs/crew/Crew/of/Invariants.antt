use Rattle.std.proofs.Common.{◌≡◌, ◌≤◌, ◌+◌, List, ◌++◌, length}
use Rattle.std.specs.Prelude.{vec_len, vec_capacity}
use Rattle.plugin_crew.specs.Member.{AreNew}
use Rattle.plugin_crew.proofs.crew.Crew.of.Given as goal

-- the first plugins are members
abbrev pub invariant-loop-plugin : goal.invariant-loop-plugin
invariant-loop-plugin g l =
    (goal.iterator-loop-plugin g).can_next l.plugin-iterator × (goal.iterator-loop-plugin g).is_finite l.plugin-iterator
    × (vec_len l.members + length l.plugin-iterator.rest.items ≤ vec_capacity l.members)
    × (vec_len l.members + length l.plugin-iterator.rest.items ≡ vec_len l.fn.plugins)
    × (l.caller ≡ vec_len l.members + 1)
    × ((done : List g.row.P.Denot) × (l.fn.plugins.items ≡ done ++ l.plugin-iterator.rest.items) × AreNew 1 done l.members.items)
