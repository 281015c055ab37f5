use Rattle.std.proofs.Common.{◌≡◌, ◌≤◌, ◌+◌, [], ◌++◌, length}
use Rattle.std.specs.Prelude.{vec_len, vec_capacity}
use Rattle.plugin_crew.specs.Place.{givens_of}
use Rattle.plugin_crew.specs.Threads.{AreGiven, begun_in}
use Rattle.xi_forms.proofs.front.seat_all.Given as goal

-- the first plugins have their places, in the order of their callers
abbrev pub invariant-loop-plugin : goal.invariant-loop-plugin
invariant-loop-plugin g l =
    (goal.iterator-loop-plugin g).can_next l.plugin-iterator × (goal.iterator-loop-plugin g).is_finite l.plugin-iterator
    × (vec_len l.posts + length l.plugin-iterator.rest.items ≤ vec_capacity l.posts)
    × (vec_len l.posts + length l.plugin-iterator.rest.items ≡ vec_len l.fn.plugins)
    × (l.pass.room ≡ l.room.table.shared.table_id)
    × (l.pass.caller ≡ 0)
    × (l.pass.seen ≡ [])
    × (l.pass.made ≡ vec_len l.posts + 1)
    × (begun_in (givens_of l.posts.items) ++ l.plugin-iterator.rest.items ≡ l.fn.plugins.items)
    × AreGiven l.room.table.shared.table_id l.room.table.shared.key.first.value 1 (givens_of l.posts.items)
