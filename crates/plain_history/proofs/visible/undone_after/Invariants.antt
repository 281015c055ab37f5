use Rattle.std.proofs.Common.{◌≡◌, drop, []}
use Rattle.plain_edits.specs.History.{undone_after}
use Rattle.plain_history.proofs.visible.undone_after.Given as goal

abbrev pub invariant-loop-revision : goal.invariant-loop-revision
invariant-loop-revision l = undone_after l.groups (drop l.revision-index l.revisions) ≡ undone_after [] l.revisions
