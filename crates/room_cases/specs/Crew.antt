-- WHAT COMES BACK from the workers of a room.
use Rattle.std.specs.Prelude.{List, [], ◌∷◌, ⊤}
use Rattle.room_lock.specs.Room.{Known, IsSamePass}

-- the same passes in the same order, each of which may have seen more
abbrev pub AreSame : List Known → List Known → Type 0
AreSame [] [] = ⊤
AreSame [] (after ∷ afters) = ⊥
AreSame (before ∷ befores) [] = ⊥
AreSame (before ∷ befores) (after ∷ afters) = IsSamePass before after × AreSame befores afters
