use Rattle.std.proofs.Common.{◌≡◌, ℕ, subst}
use Rattle.std.specs.Prelude.{IfOk}
use Rattle.movement_core.proofs.FitLemmas.{above-top, above-up}
use Rattle.movement_core.proofs.columns.above.Goals as goal

pub returns-then-line-eq0 : goal.returns-then-line-eq0
returns-then-line-eq0 g c =
    above-top c.args.tab (g.T.TextView.text_of c.args.view.now) (g.T.TextView.pieces_of c.args.view.now) c.args.column c.args.gap c.line_of-line.result c.line_of-line.ensures.line c.if-line-eq0.true

pub returns : goal.returns
returns g c =
    subst (λ (wanted : ℕ). IfOk c.place_at_column.result (λ place. place ≡ wanted))
    (above-up c.args.tab (g.T.TextView.text_of c.args.view.now) (g.T.TextView.pieces_of c.args.view.now) c.args.column c.args.gap c.line_of-line.result c.line_of-line.ensures.line c.if-line-eq0.false)
    c.place_at_column.ensures
