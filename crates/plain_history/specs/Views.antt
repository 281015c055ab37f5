-- What contracts see of a revision.
use Rattle.std.specs.Prelude.{ℕ, List, Option, Some, None}
use Rattle.plain_edits.specs.History.{Revision, edit, undo}
use Rattle.plain_history.specs.declared.revision.Step.{Step}
use Rattle.plain_history.specs.declared.revision.Step.TheVariants.{Edit, Undo}

-- the revision that a step is
abbrev pub revision_of : Step → Revision
revision_of (Edit base group priority author) = edit base group priority author
revision_of (Undo groups) = undo groups

-- the groups that a revision says, where it is an undo
abbrev pub undone_by : Revision → Option (List ℕ)
undone_by (edit base group priority author) = None
undone_by (undo groups) = Some groups
