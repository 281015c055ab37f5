use Rattle.style_numbers.proofs.NumberLemmas.{found_is}
use Rattle.style_numbers.proofs.numbered.id_of.Goals as goal

pub returns : goal.returns
returns c = found_is c.args.table.now c.args.style.now c.find.result c.find.ensures.found c.find.ensures.one c.find.ensures.absent
