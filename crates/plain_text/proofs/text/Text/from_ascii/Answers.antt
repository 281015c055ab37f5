use Rattle.std.proofs.Common.{rules}
use Rattle.std.proofs.lemmas.Str.{chars-IsAscii}
use Rattle.plain_text.proofs.text.Text.from_ascii.Goals as goal

pub returns : goal.returns
returns c = search (rules, chars-IsAscii _ c.requires)
