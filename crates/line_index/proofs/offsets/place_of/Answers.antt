use Rattle.line_index.proofs.WholeLemmas.{place_of-converted, place_of-past}
use Rattle.line_index.proofs.offsets.place_of.Goals as goal

pub returns-in-Some : goal.returns-in-Some
returns-in-Some c = place_of-converted c.args.text.now c.args.gap c.in-Some.place c.in-Some.ensures.some

pub returns-in-None : goal.returns-in-None
returns-in-None c = place_of-past c.args.text.now c.args.gap c.byte_len.result c.in-None.ensures.none c.byte_len.ensures
