use Rattle.core_session.specs.GrownLaws.{IsGrown-same}
use Rattle.journal_replay.proofs.entering.enter.Goals as goal

pub returns-then-not-has_fitting_note-clause-grown : goal.returns-then-not-has_fitting_note-clause-grown
returns-then-not-has_fitting_note-clause-grown g c = IsGrown-same _

pub returns-then-entry-plugins-clause-grown : goal.returns-then-entry-plugins-clause-grown
returns-then-entry-plugins-clause-grown g c = IsGrown-same _
