use Rattle.std.proofs.Common.{◌∙◌, ap}
use Rattle.std.specs.Str.{chars}
use Rattle.plain_text.proofs.callers.TextLemmas.{place_of-rises, IsCharBoundary-gap, chars-between}
use Rattle.plain_text.proofs.text.between.Goals as goal

pub range-requires-clause-start_le_end : goal.range-requires-clause-start_le_end
range-requires-clause-start_le_end c =
    rw (c.place_in.ensures, c.place_in-2.ensures) (place_of-rises _ _ _ c.requires.ordered)

pub range-requires-clause-start_boundary : goal.range-requires-clause-start_boundary
range-requires-clause-start_boundary c = λ _. rw c.place_in.ensures (IsCharBoundary-gap _ _ c.utf8.text)

pub range-requires-clause-end_boundary : goal.range-requires-clause-end_boundary
range-requires-clause-end_boundary c = rw c.place_in-2.ensures (IsCharBoundary-gap _ _ c.utf8.text)

pub returns : goal.returns
returns c =
    ap chars c.range.ensures.value ∙ rw (c.place_in.ensures, c.place_in-2.ensures) (chars-between _ _ _ c.utf8.text c.requires.ordered)
