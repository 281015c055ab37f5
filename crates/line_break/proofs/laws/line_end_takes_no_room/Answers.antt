use Rattle.line_break.proofs.LineEndLemmas.{line_end-takes_no_room}
use Rattle.line_break.proofs.laws.line_end_takes_no_room.Goals as goal

pub returns : goal.returns
returns c = record { same = line_end-takes_no_room }
