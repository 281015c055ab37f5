use Rattle.std.proofs.lemmas.Str.{IsUtf8-string_bytes}
use Rattle.journal_file.proofs.LinedLemmas.{IsPlain-string}
use Rattle.journal_file.proofs.writing.command_value.Goals as goal

pub returns-clause-plain : goal.returns-clause-plain
returns-clause-plain c = IsPlain-string _ _ c.from.ensures (IsUtf8-string_bytes c.into_string.result)
