use Rattle.journal_replay.proofs.LawLemmas.{own_journal_follows}
use Rattle.journal_replay.proofs.laws.own_journal_follows.Goals as goal

pub returns : goal.returns
returns c = own_journal_follows c.lines_are_asked_again.ensures
