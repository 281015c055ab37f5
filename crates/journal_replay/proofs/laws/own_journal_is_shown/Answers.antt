use Rattle.journal_replay.proofs.LawLemmas.{own_journal_is_shown}
use Rattle.journal_replay.proofs.laws.own_journal_is_shown.Goals as goal

pub returns : goal.returns
returns c = own_journal_is_shown c.lines_are_asked_again.ensures
