-- Two ways through a list: weaving something into its gaps, and finding an item by its number among some of them.
use Rattle.std.specs.Prelude.{ℕ, zero, suc, ◌+◌, Bool, if◌then◌else◌, List, [], ◌∷◌, ◌++◌}

-- at each gap what stands `between` the items there, and `at` each index what becomes of the item, counted from `index` on
abbrev pub woven : {X Y : Type 0} → (ℕ → List Y) → (ℕ → X → List Y) → ℕ → List X → List Y
woven between at index [] = between index
woven between at index (x ∷ xs) = between index ++ (at index x ++ woven between at (index + 1) xs)

-- the index of the item that has `n` items left of it among those that pass, or the list's length
abbrev pub nth_index : {X : Type 0} → (X → Bool) → ℕ → List X → ℕ
nth_index passes n [] = 0
nth_index passes zero (x ∷ xs) = if passes x then 0 else nth_index passes zero xs + 1
nth_index passes (suc n) (x ∷ xs) = nth_index passes (if passes x then n else suc n) xs + 1
