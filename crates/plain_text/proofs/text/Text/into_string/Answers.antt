use Rattle.std.proofs.Common.{sym}
use Rattle.plain_text.proofs.callers.TextLemmas.{encodes-string}
use Rattle.plain_text.proofs.text.Text.into_string.Goals as goal

pub returns-clause-utf8 : goal.returns-clause-utf8
returns-clause-utf8 c = rw (← c.self.view_is) (sym (encodes-string c.self.inside.utf8))
