use Rattle.std.proofs.Common.{take}
use Rattle.std.specs.Str.{encode_utf8_all}
use Rattle.journal_file.proofs.FileLemmas.{BeginsWith}
use Rattle.journal_file.proofs.writing.write_journal.Given as goal

abbrev pub invariant-loop-at : goal.invariant-loop-at
invariant-loop-at l = BeginsWith (encode_utf8_all l.text) (take l.at l.fn.journal)
