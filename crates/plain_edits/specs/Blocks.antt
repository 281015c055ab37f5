-- The edit step by blocks: between two characters that the base shows stands a block, and an insertion goes into its own.
use Rattle.std.specs.Prelude.{ℕ, ◌+◌, ◌-◌, if◌then◌else◌, nat_lt, List, [], ◌∷◌, ◌++◌, length, map, take, drop}
use Rattle.std.specs.List.{suffix_len}
use Rattle.plain_text.specs.Woven.{woven}
use Rattle.plain_edits.specs.declared.rank.Rank.{Rank}
use Rattle.plain_edits.specs.History.{Tagged, inserted_by, Revision, History, head, is_visible, visible_at}
use Rattle.plain_edits.specs.Place.{left_in_run}
use Rattle.plain_edits.specs.Edits.{PlainEdit, with_deletion, insertion_rank}
use Rattle.plain_edits.specs.Change.{block}

-- the block of a gap of a revision's text
abbrev pub block_at : History → ℕ → ℕ → List Tagged
block_at history rev gap = block (is_visible history.revisions rev) gap history.characters

-- how many characters of a block come before those at its end that all came after the revision
abbrev pub older_len : ℕ → List Tagged → ℕ
older_len rev characters = length characters - suffix_len (λ tagged. nat_lt rev tagged.inserted) characters

-- how many characters of a block stay left of an insertion of this rank: the older ones, and of those at its end as many as the
-- eldest edit among them decides, again and again
abbrev pub left_in_block : List Revision → ℕ → Rank → List Tagged → ℕ
left_in_block revisions rev rank characters =
    older_len rev characters +
    left_in_run revisions rank (length (drop (older_len rev characters) characters)) (drop (older_len rev characters) characters)

-- a block with these characters behind so many
abbrev pub put_behind : {X : Type 0} → ℕ → List X → List X → List X
put_behind left new characters = take left characters ++ (new ++ drop left characters)

-- what an edit makes of the block of a gap: the text of the gap goes in
abbrev pub block_after : History → PlainEdit → ℕ → List Tagged
block_after history e gap =
    put_behind (left_in_block history.revisions e.base (insertion_rank e) (block_at history e.base gap))
    (map (inserted_by (head history + 1)) (e.added gap)) (block_at history e.base gap)

-- THE EDIT STEP by blocks: between the blocks, each character that the base shows, deleted where the edit does not keep it
abbrev pub edited_by_blocks : History → PlainEdit → List Tagged
edited_by_blocks history e =
    woven (block_after history e)
    (λ index tagged. (if e.kept index then tagged else with_deletion (head history + 1) tagged) ∷ []) 0 (visible_at history e.base)
