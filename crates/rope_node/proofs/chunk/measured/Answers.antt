use Rattle.std.proofs.Common.{arith}
use Rattle.std.specs.Prelude.{nat_le}
use Rattle.std.specs.Str.{chars}
use Rattle.rope_node.specs.Lengths.{same_lengths}
use Rattle.rope_node.proofs.TextLemmas.{bytes-chars, count-le-length, length-short}
use Rattle.rope_node.proofs.chunk.measured.Goals as goal

pub overflow_add-result : goal.overflow_add-result
overflow_add-result c =
    omega (arith, c.requires, c.char_count-chars.ensures, c.wide_count.ensures, bytes-chars c.args.text.now c.utf8.text, length-short (chars c.args.text.now), count-le-length (λ c. nat_le 65536 c) (chars c.args.text.now))

pub returns : goal.returns
returns c =
    same_lengths _ _ _ _ _ _ _ _ c.char_count-chars.ensures (bytes-chars c.args.text.now c.utf8.text) (omega (arith, c.char_count-chars.ensures, c.wide_count.ensures)) c.lf_count.ensures
