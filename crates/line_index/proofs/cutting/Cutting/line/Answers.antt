use Rattle.std.proofs.Common.{◌+◌, arith}
use Rattle.std.proofs.lemmas.Result.{IfOk-weaker}
use Rattle.line_index.proofs.CuttingLemmas.{line-slice, line_start-inside, line_start-rise}
use Rattle.line_index.proofs.WholeLemmas.{length-logical_lines, lf_count-le}
use Rattle.line_index.proofs.cutting.Cutting.line.Goals as goal

pub overflow_add-index : goal.overflow_add-index
overflow_add-index c =
    let text = c.args.self.now.rope.now in omega (arith, c.requires.inside, c.requires.small, length-logical_lines text, lf_count-le text)

pub slice-requires-clause-ordered : goal.slice-requires-clause-ordered
slice-requires-clause-ordered c =
    omega (arith, c.line_start-start.ensures, c.line_start-end.ensures, line_start-rise c.args.self.now.rope.now c.args.index (c.args.index + 1) (omega arith))

pub slice-requires-clause-inside : goal.slice-requires-clause-inside
slice-requires-clause-inside c = omega (arith, c.line_start-end.ensures, line_start-inside c.args.self.now.rope.now (c.args.index + 1))

pub returns : goal.returns
returns c = IfOk-weaker c.slice.result _ _
    (λ part is. line-slice c.args.self.now.rope.now c.args.index c.line_start-start.result c.line_start-end.result part c.requires.inside
    c.line_start-start.ensures c.line_start-end.ensures is) c.slice.ensures
