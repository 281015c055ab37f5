use Rattle.std.proofs.Common.{◌+◌, ◌≤◌, sym, arith}
use Rattle.plain_text.specs.Text.{byte_len}
use Rattle.rope_node.specs.Lengths.{byte_len-append, lengths_sum}
use Rattle.rope_node.proofs.TextLemmas.{both_fit}
use Rattle.rope_node.proofs.chunk.ChunkLeaf.glued.Goals as goal

pub plus-requires : goal.plus-requires
plus-requires c =
    let left = c.self.inside.text in
    let right = c.other.inside.text in
    let bytes : byte_len left + byte_len right ≤ 1024 = rw (c.self.invariant.0, c.other.invariant.0) at c.if-self-other-gt1024.false in
    rw (c.self.invariant.0, c.other.invariant.0) (both_fit left right bytes)

pub invariant_of-result : goal.invariant_of-result
invariant_of-result c =
    let left = c.self.inside.text in
    let right = c.other.inside.text in
    let bytes : byte_len left + byte_len right ≤ 1024 = rw (c.self.invariant.0, c.other.invariant.0) at c.if-self-other-gt1024.false in
    rw c.in-Ok.ensures (rw (c.plus.ensures, c.self.invariant.0, c.other.invariant.0) (sym (lengths_sum.joined left right)), omega (arith, byte_len-append left right))
