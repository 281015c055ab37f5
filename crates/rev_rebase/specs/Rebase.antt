-- What a stale edit comes to.
use Rattle.std.specs.Prelude.{◌≡◌, ℕ, ◌+◌, ◌^◌, ◌<◌, ◌≤◌, Bool, true, false, List, [], ◌∷◌, length, map}
use Rattle.std.specs.List.{flat_map, range_with_len}
use Rattle.plain_edits.specs.declared.delta.UnitDelta.{UnitDelta}
use Rattle.plain_edits.specs.UnitDelta.{unit_keeps, unit_adds}
use Rattle.plain_edits.specs.History.{History, head, visible_at}
use Rattle.plain_edits.specs.Edits.{PlainEdit, gap_count}

-- a unit delta against a revision; the group of an edit decides nothing about its places
abbrev pub unit_edit : ℕ → UnitDelta → ℕ → ℕ → PlainEdit
unit_edit base units priority author = record {
  base = base;
  kept = unit_keeps units;
  added = unit_adds units;
  group = 1;
  priority = priority;
  author = author;
}

-- the texts that a unit delta adds, joined in the order of their gaps
abbrev pub added_text : UnitDelta → List ℕ
added_text units = flat_map (unit_adds units) (range_with_len 0 (units.base + 1))

-- the same of an edit of a history
abbrev pub text_of_edit : History → PlainEdit → List ℕ
text_of_edit history e = flat_map e.added (range_with_len 0 (gap_count history e.base))

-- all characters that a history ever had, in order
abbrev pub characters_of : History → List ℕ
characters_of history = map (λ tagged. tagged.character) history.characters

-- a text, put in at the positions `at` of the longer list
abbrev pub put_in : List Bool → List ℕ → List ℕ → List ℕ
put_in [] text characters = []
put_in (true ∷ at) [] characters = []
put_in (true ∷ at) (c ∷ text) characters = c ∷ put_in at text characters
put_in (false ∷ at) text [] = []
put_in (false ∷ at) text (c ∷ characters) = c ∷ put_in at text characters

-- it can be asked where a delta against the revision goes
pub record MayRebase (history : History) (rev : ℕ) (units : UnitDelta) : Type 0 where
  pub base_kept : history.floor ≤ rev
  pub base_known : rev ≤ head history
  pub alive : units.base ≡ length (visible_at history rev)
  pub bound : length history.characters + length (added_text units) < 2 ^ 64
