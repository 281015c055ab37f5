use Rattle.plain_text.proofs.callers.TextLemmas.{length-encodes}
use Rattle.plain_text.proofs.text.Text.byte_len.Goals as goal

pub returns : goal.returns
returns c = rw c.as_str.ensures.utf8 (length-encodes _)
