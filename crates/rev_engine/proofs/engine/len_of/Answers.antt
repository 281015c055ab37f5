use Rattle.plain_text.proofs.callers.TextLemmas.{length-encodes}
use Rattle.rev_engine.proofs.engine.len_of.Goals as goal

pub returns-clause-length : goal.returns-clause-length
returns-clause-length c = rw c.as_str-bytes.ensures.utf8 (length-encodes _)
