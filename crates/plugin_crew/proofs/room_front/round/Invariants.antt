use Rattle.std.proofs.Common.{◌≡◌, length}
use Rattle.plugin_crew.proofs.PlaceLemmas.{VisitedTo}
use Rattle.plugin_crew.proofs.room_front.round.Given as goal

-- those before this place had their turns
abbrev pub invariant-loop-at : goal.invariant-loop-at
invariant-loop-at g l =
    (length l.posts.items ≡ length l.fn.posts.items)
    × VisitedTo g.O.Object.serves g.O.Object.answers l.at l.fn.posts.items l.posts.items
