use Rattle.macro_record.proofs.PlayedLemmas.{played-all}
use Rattle.macro_record.proofs.laws.all_once_is_the_tape.Goals as goal

pub returns : goal.returns
returns c = played-all
