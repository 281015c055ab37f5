use Rattle.std.proofs.Common.{rules}
use Rattle.plain_text.proofs.callers.TextLemmas.{is_empty-encodes}
use Rattle.plain_text.proofs.text.Text.is_empty.Goals as goal

pub returns : goal.returns
returns c = grind (rules, is_empty-encodes)
