-- Passes in the order of their callers: one more, and all that came back.
use Rattle.std.proofs.Common.{◌≡◌, ℕ, ◌+◌, List, [], ◌∷◌, ◌++◌, length, ◌∙◌, arith, refl}
use Rattle.atomic_table.specs.Seated.{TableId}
use Rattle.room_lock.specs.Room.{Known, IsSamePass, AreAll, AreAllFrom}
use Rattle.room_cases.specs.Crew.{AreSame}

-- a pass of the next caller stands behind the others
pub all_snoc : (n : ℕ) (room : TableId) (xs : List Known) (k : Known) → AreAllFrom n room xs → k.room ≡ room → k.caller ≡ n + length xs → AreAllFrom n room (xs ++ k ∷ [])
all_snoc n room [] k all is caller = (is, omega arith, tt)
all_snoc n room (x ∷ xs) k all is caller = (all.0, all.1, all_snoc (n + 1) room xs k all.2 is (omega arith))

-- passes that came back are of the same callers
pub all_same : (n : ℕ) (room : TableId) (xs ys : List Known) → AreAllFrom n room xs → AreSame xs ys → AreAllFrom n room ys
all_same n room [] [] all same = tt
all_same n room [] (y ∷ ys) all same = absurd same
all_same n room (x ∷ xs) [] all same = absurd same
all_same n room (x ∷ xs) (y ∷ ys) all same = (same.0.room ∙ all.0, same.0.caller ∙ all.1, all_same (n + 1) room xs ys all.2 same.1)

-- and as many
pub same_length : (xs ys : List Known) → AreSame xs ys → length ys ≡ length xs
same_length [] [] same = refl
same_length [] (y ∷ ys) same = absurd same
same_length (x ∷ xs) [] same = absurd same
same_length (x ∷ xs) (y ∷ ys) same = let rest = same_length xs ys same.1 in omega arith

-- one more came back
pub same_snoc : (xs ys : List Known) (x y : Known) → AreSame xs ys → IsSamePass x y → AreSame (xs ++ x ∷ []) (ys ++ y ∷ [])
same_snoc [] [] x y same one = (one, tt)
same_snoc [] (z ∷ ys) x y same one = absurd same
same_snoc (z ∷ xs) [] x y same one = absurd same
same_snoc (z ∷ xs) (w ∷ ys) x y same one = (same.0, same_snoc xs ys x y same.1 one)

-- the front's pass, and those that came back of all others, are all passes
pub all_back : (room : TableId) (front : Known) (workers more : List Known) → front.room ≡ room → front.caller ≡ 0
    → front.made ≡ length workers + 1 → AreAllFrom 1 room workers → AreSame workers more → AreAll room (front ∷ more)
all_back room front workers more is caller made all same =
    let count = same_length workers more same in
    ((is, caller, all_same 1 room workers more all same), omega arith)
