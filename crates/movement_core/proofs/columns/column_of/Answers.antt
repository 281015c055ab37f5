use Rattle.std.proofs.Common.{ℕ, ◌-◌, List, ap, ◌∙◌}
use Rattle.std.specs.Prelude.{min}
use Rattle.cluster_core.specs.Columns.{columns_between}
use Rattle.movement_core.proofs.FitLemmas.{column-inside, column-low, column-ordered, held-column, held-from-le, held-to-le}
use Rattle.movement_core.proofs.columns.column_of.Goals as goal

pub text_around-requires-clause-start : goal.text_around-requires-clause-start
text_around-requires-clause-start g c =
    column-low (g.T.TextView.text_of c.args.view.now) (g.T.TextView.pieces_of c.args.view.now) c.args.gap c.line_of-line.ensures.sound c.line_of-line.result c.line_of-line.ensures.line
    c.piece_at-start.result c.piece_at-start.ensures c.min.result (c.min.ensures ∙ ap (min c.args.gap) c.text_end.ensures)

pub text_around-requires-clause-ordered : goal.text_around-requires-clause-ordered
text_around-requires-clause-ordered g c =
    column-ordered (g.T.TextView.text_of c.args.view.now) (g.T.TextView.pieces_of c.args.view.now) c.args.gap c.line_of-line.ensures.sound c.line_of-line.result c.line_of-line.ensures.line
    c.piece_at-start.result c.piece_at-start.ensures c.min.result (c.min.ensures ∙ ap (min c.args.gap) c.text_end.ensures)

pub text_around-requires-clause-end : goal.text_around-requires-clause-end
text_around-requires-clause-end g c =
    column-inside (g.T.TextView.text_of c.args.view.now) (g.T.TextView.pieces_of c.args.view.now) c.args.gap c.line_of-line.ensures.sound c.line_of-line.result c.line_of-line.ensures.line
    c.piece_at-start.result c.piece_at-start.ensures c.min.result (c.min.ensures ∙ ap (min c.args.gap) c.text_end.ensures)

pub overflow_sub-from : goal.overflow_sub-from
overflow_sub-from g c =
    held-from-le (g.T.TextView.text_of c.args.view.now) (g.T.TextView.pieces_of c.args.view.now) c.args.gap c.line_of-line.ensures.sound c.line_of-line.result c.line_of-line.ensures.line
    c.piece_at-start.result c.piece_at-start.ensures c.min.result (c.min.ensures ∙ ap (min c.args.gap) c.text_end.ensures)
    c.requires c.in_ok-near.near c.in_ok-near.ensures

pub overflow_sub-to : goal.overflow_sub-to
overflow_sub-to g c =
    held-to-le (g.T.TextView.text_of c.args.view.now) (g.T.TextView.pieces_of c.args.view.now) c.args.gap c.line_of-line.ensures.sound c.line_of-line.result c.line_of-line.ensures.line
    c.piece_at-start.result c.piece_at-start.ensures c.min.result (c.min.ensures ∙ ap (min c.args.gap) c.text_end.ensures)
    c.requires c.in_ok-near.near c.in_ok-near.ensures

pub returns : goal.returns
returns g c =
    c.columns_between.ensures.value ∙ ap (λ (t : List ℕ). columns_between c.args.tab t (c.piece_at-start.result.start - c.in_ok-near.near.start) (c.args.gap - c.in_ok-near.near.start)) c.as_str.ensures.characters ∙
    held-column (g.T.TextView.text_of c.args.view.now) (g.T.TextView.pieces_of c.args.view.now) c.args.gap c.line_of-line.ensures.sound c.line_of-line.result c.line_of-line.ensures.line
    c.piece_at-start.result c.piece_at-start.ensures c.min.result (c.min.ensures ∙ ap (min c.args.gap) c.text_end.ensures)
    c.requires c.in_ok-near.near c.in_ok-near.ensures c.args.tab
