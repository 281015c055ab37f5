use Rattle.std.proofs.Common.{◌+◌, arith}
use Rattle.stale_spans.proofs.PlacedLemmas.{none-past}
use Rattle.stale_spans.proofs.places.gap_past.Goals as goal

pub returns-in-None : goal.returns-in-None
returns-in-None c = none-past c.args.text.now (c.args.from + c.args.more) (omega (arith, c.byte_len-bytes.ensures, c.byte_len-bytes.type_inv, c.in-None.ensures))
