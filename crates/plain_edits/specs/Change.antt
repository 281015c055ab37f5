-- What two revisions of one history show: which characters are the same, which stay, and which appear where.
use Rattle.std.specs.Prelude.{ℕ, zero, suc, ◌+◌, Bool, false, if◌then◌else◌, List, [], ◌∷◌, map}
use Rattle.std.specs.List.{filter}
use Rattle.plain_edits.specs.History.{History, is_visible, visible_at}

-- whether the item with this index passes; past the end none does
abbrev pub passes_at : {X : Type 0} → (X → Bool) → ℕ → List X → Bool
passes_at passes n [] = false
passes_at passes zero (x ∷ xs) = passes x
passes_at passes (suc n) (x ∷ xs) = passes_at passes n xs

-- the block of a gap: the items that stand after so many that pass, and before the next one that does
abbrev pub block : {X : Type 0} → (X → Bool) → ℕ → List X → List X
block passes gap [] = []
block passes zero (x ∷ xs) = if passes x then [] else x ∷ block passes zero xs
block passes (suc gap) (x ∷ xs) = block passes (if passes x then gap else suc gap) xs

-- the indices of the items that pass, counted from `index` on
abbrev pub indices_of : {X : Type 0} → (X → Bool) → ℕ → List X → List ℕ
indices_of passes index [] = []
indices_of passes index (x ∷ xs) = if passes x then index ∷ indices_of passes (index + 1) xs else indices_of passes (index + 1) xs

-- THE SAME CHARACTER at two revisions: what a revision shows, as indices of the list of characters
abbrev pub shown_indices : History → ℕ → List ℕ
shown_indices history rev = indices_of (is_visible history.revisions rev) 0 history.characters

-- THE CHANGE between two revisions: whether the character with this index in the one text stays, since the other revision shows it too
abbrev pub change_keeps : History → ℕ → ℕ → ℕ → Bool
change_keeps history from to index = passes_at (is_visible history.revisions to) index (visible_at history from)

-- and the characters that appear at a gap of the one text: of its block those that the other revision shows
abbrev pub change_adds : History → ℕ → ℕ → ℕ → List ℕ
change_adds history from to gap =
    map (λ tagged. tagged.character)
    (filter (is_visible history.revisions to) (block (is_visible history.revisions from) gap history.characters))
