use Rattle.std.proofs.Common.{◌≡◌, ◌-◌, ◌≤◌, ◌++◌, length, take, drop, arith}
use Rattle.std.specs.Str.{chars}
use Rattle.plain_text.specs.Text.{byte_len}
use Rattle.plain_text.proofs.callers.TextLemmas.{length-encodes}
use Rattle.rope_node.specs.Lengths.{byte_len-append}
use Rattle.rope_node.proofs.TextLemmas.{back-short, bytes-chars, front-short}
use Rattle.rope_node.proofs.chunk.ChunkLeaf.spliced.Goals as goal

pub overflow_add-front-2 : goal.overflow_add-front-2
overflow_add-front-2 c =
    let text = c.args.self.now in
    let rest = drop c.args.from text in
    let front : length c.cut.result.0.now ≡ byte_len (take c.args.from text) = c.cut.ensures.bytes in
    let tail = rw c.cut.ensures.back at c.split_at_gap.ensures.back in
    let back : length c.split_at_gap.result.1.now ≡ byte_len (drop (c.args.to - c.args.from) rest) = rw (← tail) (bytes-chars c.split_at_gap.result.1.now c.split_at_gap.ensures.utf8) in
    let own : byte_len text ≤ 1024 = c.cut.ensures.short in
    let other : length c.as_str.result.now ≡ byte_len c.other.inside.text = rw c.as_str.ensures.utf8 (length-encodes c.other.inside.text) in
    omega (arith, c.other.invariant.1, front-short text c.args.from, back-short text c.args.from, back-short rest (c.args.to - c.args.from))

pub put-requires-clause-short : goal.put-requires-clause-short
put-requires-clause-short c =
    let text = c.args.self.now in
    let rest = drop c.args.from text in
    let front : length c.cut.result.0.now ≡ byte_len (take c.args.from text) = c.cut.ensures.bytes in
    let tail = rw c.cut.ensures.back at c.split_at_gap.ensures.back in
    let back : length c.split_at_gap.result.1.now ≡ byte_len (drop (c.args.to - c.args.from) rest) = rw (← tail) (bytes-chars c.split_at_gap.result.1.now c.split_at_gap.ensures.utf8) in
    let own : byte_len text ≤ 1024 = c.cut.ensures.short in
    let other : length c.as_str.result.now ≡ byte_len c.other.inside.text = rw c.as_str.ensures.utf8 (length-encodes c.other.inside.text) in
    rw (c.cut.ensures.front, tail) (omega (arith, byte_len-append (take c.args.from text) (c.other.inside.text ++ drop (c.args.to - c.args.from) rest), byte_len-append c.other.inside.text (drop (c.args.to - c.args.from) rest)))
