use Rattle.std.proofs.Common.{◌≡◌, length}
use Rattle.journal_replay.specs.Notes.{from_asked}
use Rattle.journal_replay.proofs.note_shelf.from_asked.Given as goal

abbrev pub invariant-loop-entry : goal.invariant-loop-entry
invariant-loop-entry l = from_asked l.rest ≡ from_asked l.fn.entries

abbrev pub decreases-loop-entry : goal.decreases-loop-entry
decreases-loop-entry l = length l.rest
