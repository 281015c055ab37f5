use Rattle.style_numbers.proofs.NumberLemmas.{absent}
use Rattle.style_numbers.proofs.numbered.define.Goals as goal

pub define-requires : goal.define-requires
define-requires c = absent c.args.table.now c.args.style c.requires
