use Rattle.std.proofs.Common.{sym, ◌∙◌, arith}
use Rattle.line_updates.proofs.NumberLemmas.{number-here}
use Rattle.line_updates.proofs.plan.first_number.Goals as goal

pub returns-in-Some-ln : goal.returns-in-Some-ln
returns-in-Some-ln g c =
    sym (number-here (g.T.TextView.pieces_of c.args.view.now) c.args.at c.args.n c.in-Some.piece c.in-Some-ln.number (sym c.line.ensures ∙ c.in-Some.is)
    (omega (arith, c.if-n-eq0.false)) c.in-Some-ln.is)
