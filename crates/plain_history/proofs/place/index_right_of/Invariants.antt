use Rattle.std.proofs.Common.{◌≡◌, ◌+◌, drop}
use Rattle.plain_text.specs.Woven.{nth_index}
use Rattle.plain_edits.specs.History.{is_visible}
use Rattle.plain_history.proofs.place.index_right_of.Given as goal

abbrev pub invariant-loop-index : goal.invariant-loop-index
invariant-loop-index l =
    l.index + nth_index (is_visible l.revisions l.base) l.left (drop l.index l.characters) ≡
    nth_index (is_visible l.revisions l.base) l.fn.gap l.characters
