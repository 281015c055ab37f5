use Rattle.std.proofs.Common.{ap, sym}
use Rattle.xi_core.specs.Words.{said_text}
use Rattle.xi_core.proofs.texts.said_text.Goals as goal

pub returns-in-Help : goal.returns-in-Help
returns-in-Help c = ap said_text (sym c.in-Help.is)
