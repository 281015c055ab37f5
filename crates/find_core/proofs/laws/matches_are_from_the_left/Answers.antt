use Rattle.find_core.proofs.MatchLemmas.{AreMatchesFrom-same, matches_of-are}
use Rattle.find_core.proofs.laws.matches_are_from_the_left.Goals as goal

pub returns : goal.returns
returns c = record { are = matches_of-are; alone = λ text chars from. AreMatchesFrom-same chars text from }
