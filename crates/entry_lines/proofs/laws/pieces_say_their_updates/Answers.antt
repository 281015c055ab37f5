use Rattle.entry_lines.proofs.Updates.{pieces_say_their_updates}
use Rattle.entry_lines.proofs.laws.pieces_say_their_updates.Goals as goal

pub returns : goal.returns
returns c = pieces_say_their_updates
