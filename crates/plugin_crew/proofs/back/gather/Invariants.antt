use Rattle.std.proofs.Common.{◌≡◌, ◌≤◌, ◌+◌, List, ◌++◌, length}
use Rattle.std.specs.Prelude.{vec_len, vec_capacity}
use Rattle.plugin_crew.specs.declared.post.Gathered.{Gathered}
use Rattle.plugin_crew.specs.Place.{Posted, givens_of}
use Rattle.plugin_crew.specs.Threads.{HaveServed, all_in, passes_in, plugins_in}
use Rattle.plugin_crew.proofs.back.gather.Given as goal

-- those of the first posts stand there
abbrev pub invariant-loop-post : goal.invariant-loop-post
invariant-loop-post g l =
    (goal.iterator-loop-post g).can_next l.post-iterator × (goal.iterator-loop-post g).is_finite l.post-iterator
    × (vec_len l.back.passes + length l.post-iterator.rest.items ≤ vec_capacity l.back.passes)
    × (vec_len l.back.plugins + length l.post-iterator.rest.items ≤ vec_capacity l.back.plugins)
    × ((done : List (Posted g.row.O.Denot g.row.P.Denot)) × (cames : List (Gathered g.row.P.Denot)) × (l.initial.post-iterator.rest.items ≡ done ++ l.post-iterator.rest.items)
    × HaveServed g.O.Object.serves g.O.Object.answers g.P.Plugin.told (givens_of done) cames × (l.back.passes.items ≡ l.initial.back.passes.items ++ passes_in cames)
    × (l.back.plugins.items ≡ l.initial.back.plugins.items ++ plugins_in cames) × (l.back.all_served ≡ all_in cames))
