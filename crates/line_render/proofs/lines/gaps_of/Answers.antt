use Rattle.std.proofs.Common.{rules, ◌<◌, ◌^◌, ap, arith, length}
use Rattle.std.specs.Str.{chars}
use Rattle.std.proofs.lemmas.Str.{length-le-encodes, encodes-chars}
use Rattle.line_render.proofs.lines.gaps_of.Goals as goal

pub overflow_add-result : goal.overflow_add-result
overflow_add-result c =
    let bound : length c.args.line.now < 2 ^ 63 = search rules in
    omega (arith, c.requires, length-le-encodes (chars c.args.line.now), ap length (encodes-chars c.args.line.now c.utf8.line))
