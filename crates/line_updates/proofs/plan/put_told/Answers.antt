use Rattle.std.proofs.Common.{ap, arith}
use Rattle.line_cache.specs.Steps.{lines_of}
use Rattle.line_updates.proofs.plan.put_told.Goals as goal

pub overflow_add-at : goal.overflow_add-at
overflow_add-at g c = omega (arith, c.requires.inside, ap lines_of c.in-Restyle.is, c.lines-count.ensures.count, c.lines-count.type_inv)

pub overflow_add-at-in-Send : goal.overflow_add-at-in-Send
overflow_add-at-in-Send g c = omega (arith, c.requires.inside, ap lines_of c.in-Send.is, c.lines-count.ensures.count, c.lines-count.type_inv)
