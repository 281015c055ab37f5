use Rattle.std.proofs.Common.{◌∙◌, ap, arith, take_all}
use Rattle.plain_text.proofs.CountLemmas.{starts, starts-chars}
use Rattle.plain_text.proofs.text.char_count.Goals as goal

pub returns : goal.returns
returns c =
    c.loop-byte.invariant ∙ ap starts (take_all c.loop-byte.byte-index c.as_bytes-bytes.result.now (omega (arith, c.loop-byte.auto.byte-index-end))) ∙
    ap starts c.as_bytes-bytes.ensures.value ∙ starts-chars c.args.text.now c.utf8.text
