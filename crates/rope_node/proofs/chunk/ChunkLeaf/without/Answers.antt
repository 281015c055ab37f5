use Rattle.std.proofs.Common.{◌-◌, ◌≤◌, arith}
use Rattle.std.specs.Str.{chars}
use Rattle.plain_text.specs.Text.{byte_len}
use Rattle.rope_node.proofs.TextLemmas.{without-short}
use Rattle.rope_node.proofs.chunk.ChunkLeaf.without.Goals as goal

pub put-requires-clause-short : goal.put-requires-clause-short
put-requires-clause-short c =
    let text = c.args.self.now in
    let tail = rw c.cut.ensures.back at c.split_at_gap.ensures.back in
    let own : byte_len text ≤ 1024 = c.cut.ensures.short in
    rw (c.cut.ensures.front, tail, c.new.ensures) (omega (arith, own, without-short text c.args.from (c.args.to - c.args.from)))
