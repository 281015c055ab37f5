use Rattle.plain_text.proofs.callers.TextLemmas.{length-encodes}
use Rattle.rope_node.proofs.chunk.Chunk.new.Goals as goal

pub measured-lengths-requires : goal.measured-lengths-requires
measured-lengths-requires c = rw (c.as_str.ensures.utf8, length-encodes c.args.text) c.requires
