use Rattle.std.proofs.Common.{◌≡◌, take}
use Rattle.plain_text.proofs.CountLemmas.{starts}
use Rattle.plain_text.proofs.text.char_count.Given as goal

abbrev pub invariant-loop-byte : goal.invariant-loop-byte
invariant-loop-byte l = l.count ≡ starts (take l.byte-index l.bytes)
