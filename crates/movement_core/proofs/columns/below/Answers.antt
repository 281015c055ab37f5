use Rattle.std.proofs.Common.{◌≡◌, ℕ, subst, sym, ◌∙◌}
use Rattle.std.specs.Prelude.{IfOk}
use Rattle.movement_core.proofs.FitLemmas.{below-bottom, below-down}
use Rattle.movement_core.proofs.columns.below.Goals as goal

pub returns-then-line-lines : goal.returns-then-line-lines
returns-then-line-lines g c =
    below-bottom c.args.tab (g.T.TextView.text_of c.args.view.now) (g.T.TextView.pieces_of c.args.view.now) c.args.column c.args.gap c.line_of-line.result _ c.line_of-line.ensures.line
    (c.if-line-lines.true ∙ c.lines-lines.ensures.count) c.text_end.ensures

pub returns : goal.returns
returns g c =
    subst (λ (wanted : ℕ). IfOk c.place_at_column.result (λ place. place ≡ wanted))
    (below-down c.args.tab (g.T.TextView.text_of c.args.view.now) (g.T.TextView.pieces_of c.args.view.now) c.args.column c.args.gap c.line_of-line.result c.line_of-line.ensures.line
    (λ last. c.if-line-lines.false (last ∙ sym c.lines-lines.ensures.count)))
    c.place_at_column.ensures
