-- How a caret moves where a revision is made.
use Rattle.std.specs.Prelude.{ℕ, zero, suc, ◌+◌, Bool, true, false, if◌then◌else◌, List, length, map, take}
use Rattle.std.specs.List.{count_by, range_with_len, sum_by}
use Rattle.plain_text.specs.declared.selection.Region.{Region}
use Rattle.plain_text.specs.Woven.{nth_index}
use Rattle.plain_edits.specs.History.{History, head, is_there, is_visible}
use Rattle.plain_edits.specs.Place.{index_right_of}

-- how many characters left of an index are visible at the head
abbrev pub visible_before : History → ℕ → ℕ
visible_before history index = count_by (is_visible history.revisions (head history)) (take index history.characters)

-- the index, in the list that a revision made, of the character with this index before, or the list's length
abbrev pub index_after : History → History → ℕ → ℕ
index_after before after index = nth_index (is_there (head before)) index after.characters

-- THE CARET RULE: a caret stands directly left of the visible character right of its gap, or at the end of the list; `after` it, it
-- stands directly right of the visible character left of its gap, or at the start of the list. There it stays.
abbrev pub moved_caret : History → History → Bool → ℕ → ℕ
moved_caret before after false gap = visible_before after (index_after before after (index_right_of before (head before) gap))
moved_caret before after true zero = 0
moved_caret before after true (suc gap) = visible_before after (index_after before after (index_right_of before (head before) gap) + 1)

-- the rule for both ends of a region, and for all regions of a selection; those that then meet are merged elsewhere
abbrev pub moved_region : History → History → Bool → Region → Region
moved_region before after stays_left region = record region {
  anchor = moved_caret before after stays_left region.anchor;
  caret = moved_caret before after stays_left region.caret;
}

abbrev pub moved_regions : History → History → Bool → List Region → List Region
moved_regions before after stays_left regions = map (moved_region before after stays_left) regions

-- the same over an edit in characters: what is kept left of the gap, what is added left of it, and at it unless `after`
abbrev pub mapped_gap : (ℕ → Bool) → (ℕ → List ℕ) → Bool → ℕ → ℕ
mapped_gap kept added after gap =
    count_by kept (range_with_len 0 gap) +
    sum_by (λ left. length (added left)) (range_with_len 0 (if after then gap else gap + 1))
