use Rattle.std.proofs.Common.{length, sym, ap, arith}
use Rattle.span_styles.proofs.ForCallers.{length_after-text}
use Rattle.line_cases.proofs.styles.edited.Goals as goal

pub map-requires-clause-bound : goal.map-requires-clause-bound
map-requires-clause-bound c =
    omega (arith, length_after-text c.in_ok-units.units c.args.text.now (sym c.in_ok-units.ensures.base), ap length c.in_ok-apply.ensures, c.char_count-len.ensures)
