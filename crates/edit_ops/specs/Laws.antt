-- Laws: what replacements come to in plain lists, whatever the text.
use Rattle.std.specs.Prelude.{◌≡◌, ℕ, ◌+◌, ◌≤◌, List, [], ◌∷◌, ◌++◌, length, map, take, drop, get_or}
use Rattle.std.specs.List.{AllByRecursion, filter, range_with_len}
use Rattle.plain_text.specs.declared.selection.Region.{Region}
use Rattle.plain_edits.specs.declared.delta.UnitDelta.{UnitDelta}
use Rattle.plain_edits.specs.Delta.{applied}
use Rattle.plain_edits.specs.UnitDelta.{unit_adds, unit_keeps}
use Rattle.selection_core.specs.Selection.{caret_of, greater_end, lesser_end}
use Rattle.edit_ops.specs.declared.replacement.Replacement.{Replacement}
use Rattle.edit_ops.specs.Replacements.{IsEditOf, carets_with, gap_with, kept_by, replaced_by, text_with}

-- typing over one region gives what stood left of it, the characters, and what stood right of it; and the caret after them
abbrev pub TypingReplaces : Type 0
TypingReplaces = (text chars : List ℕ) (region : Region) → greater_end region ≤ length text →
    (text_with (replaced_by chars region ∷ []) text ≡ take (lesser_end region) text ++ (chars ++ drop (greater_end region) text)) ×
    (carets_with (replaced_by chars region ∷ []) ≡ caret_of (lesser_end region + length chars) ∷ [])

-- a deletion leaves the rest of the text, in order
abbrev pub DeletionsLeaveTheRest : Type 0
DeletionsLeaveTheRest = (text : List ℕ) (replacements : List Replacement) → AllByRecursion (λ r. r.text ≡ []) replacements →
    text_with replacements text ≡ map (λ index. get_or text index 0) (filter (kept_by replacements) (range_with_len 0 (length text)))

-- what keeps all leaves the text: where no range holds a character and no text is added
abbrev pub EmptyReplacementsLeaveTheText : Type 0
EmptyReplacementsLeaveTheText = (text : List ℕ) (replacements : List Replacement) →
    AllByRecursion (λ r. (r.range.end ≤ r.range.start) × (r.text ≡ [])) replacements → text_with replacements text ≡ text

-- the edit of replacements gives their text
abbrev pub EditsGiveTheText : Type 0
EditsGiveTheText = (text : List ℕ) (replacements : List Replacement) (units : UnitDelta) → IsEditOf (length text) replacements units →
    applied (unit_keeps units) (unit_adds units) text ≡ text_with replacements text

-- the end of a text goes where the text after it ends
abbrev pub EndsStayEnds : Type 0
EndsStayEnds = (text : List ℕ) (replacements : List Replacement) → length (text_with replacements text) ≡ gap_with replacements (length text)
