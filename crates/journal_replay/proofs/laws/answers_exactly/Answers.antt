use Rattle.journal_replay.proofs.LawLemmas.{answers_exactly}
use Rattle.journal_replay.proofs.laws.answers_exactly.Goals as goal

pub returns : goal.returns
returns c = answers_exactly
