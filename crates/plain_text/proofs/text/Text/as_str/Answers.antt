use Rattle.std.proofs.Common.{sym, ◌∙◌}
use Rattle.plain_text.proofs.callers.TextLemmas.{encodes-string, scalars-string}
use Rattle.plain_text.proofs.text.Text.as_str.Goals as goal

pub returns-clause-utf8 : goal.returns-clause-utf8
returns-clause-utf8 c = rw (← c.self.view_is) (c.as_str.ensures.value ∙ sym (encodes-string c.self.inside.utf8))

pub returns-clause-scalars : goal.returns-clause-scalars
returns-clause-scalars c = rw (← c.self.view_is) (scalars-string c.self.inside.utf8)
