use Rattle.plain_screen.proofs.callers.ScreenLemmas.{lines_add_up}
use Rattle.plain_laws.proofs.laws.lines_add_up.Goals as goal

pub returns : goal.returns
returns c = λ screen ops. lines_add_up ops screen
