use Rattle.macro_record.proofs.TapeLemmas.{was_whole}
use Rattle.macro_record.proofs.laws.a_whole_tape_was_whole.Goals as goal

pub returns : goal.returns
returns c = was_whole
