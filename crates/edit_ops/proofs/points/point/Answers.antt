use Rattle.std.proofs.Common.{arith, ap, ◌∙◌}
use Rattle.std.proofs.lemmas.Result.{IfOk-weaker}
use Rattle.movement_core.proofs.ForCallers.{place-inside, start_of-get}
use Rattle.edit_ops.specs.Inner.{gaps_within}
use Rattle.edit_ops.proofs.PointLemmas.{capped, held-inside, held-point, held-to, point-past}
use Rattle.edit_ops.proofs.points.point.Goals as goal

pub returns-then-line-lines-clause-value : goal.returns-then-line-lines-clause-value
returns-then-line-lines-clause-value g c =
    c.text_end-end.ensures ∙ point-past (g.T.TextView.text_of c.args.view.now) (g.T.TextView.pieces_of c.args.view.now) c.args.line c.args.column (omega (arith, c.lines.ensures.count, c.if-line-lines.true))

pub text-requires-clause-ordered : goal.text-requires-clause-ordered
text-requires-clause-ordered g c =
    (held-to (g.T.TextView.text_of c.args.view.now) (g.T.TextView.pieces_of c.args.view.now) c.args.line c.last_gap.result c.lines.ensures.sound c.requires.characters c.requires.starts (omega (arith, c.lines.ensures.count, c.if-line-lines.false)) c.last_gap.ensures
    c.piece_at-start.result.start c.min-to.result c.args.column (start_of-get (g.T.TextView.pieces_of c.args.view.now) c.args.line c.piece_at-start.result c.piece_at-start.ensures)
    (capped c.last_gap.result c.piece_at-start.result.start c.args.column _ _ c.last_gap.type_inv c.saturating_add.ensures c.min-to.ensures)).0

pub text-requires-clause-inside : goal.text-requires-clause-inside
text-requires-clause-inside g c =
    (held-to (g.T.TextView.text_of c.args.view.now) (g.T.TextView.pieces_of c.args.view.now) c.args.line c.last_gap.result c.lines.ensures.sound c.requires.characters c.requires.starts (omega (arith, c.lines.ensures.count, c.if-line-lines.false)) c.last_gap.ensures
    c.piece_at-start.result.start c.min-to.result c.args.column (start_of-get (g.T.TextView.pieces_of c.args.view.now) c.args.line c.piece_at-start.result c.piece_at-start.ensures)
    (capped c.last_gap.result c.piece_at-start.result.start c.args.column _ _ c.last_gap.type_inv c.saturating_add.ensures c.min-to.ensures)).1

pub overflow_add-start : goal.overflow_add-start
overflow_add-start g c =
    let bound = c.text_end-end.type_inv in
    let inside =
    held-inside (g.T.TextView.text_of c.args.view.now) (g.T.TextView.pieces_of c.args.view.now) c.args.line c.last_gap.result c.lines.ensures.sound c.requires.characters c.requires.starts (omega (arith, c.lines.ensures.count, c.if-line-lines.false)) c.last_gap.ensures
    c.piece_at-start.result.start c.min-to.result c.args.column c.gaps_within-gaps.result c.in_ok-text.text
    (start_of-get (g.T.TextView.pieces_of c.args.view.now) c.args.line c.piece_at-start.result c.piece_at-start.ensures)
    (capped c.last_gap.result c.piece_at-start.result.start c.args.column _ _ c.last_gap.type_inv c.saturating_add.ensures c.min-to.ensures) c.in_ok-text.ensures
    (c.gaps_within-gaps.ensures ∙ ap (gaps_within c.args.column) c.as_str.ensures.characters) in
    omega (arith, c.text_end-end.ensures)

pub outward_left-requires-clause-inside : goal.outward_left-requires-clause-inside
outward_left-requires-clause-inside g c =
    held-inside (g.T.TextView.text_of c.args.view.now) (g.T.TextView.pieces_of c.args.view.now) c.args.line c.last_gap.result c.lines.ensures.sound c.requires.characters c.requires.starts (omega (arith, c.lines.ensures.count, c.if-line-lines.false)) c.last_gap.ensures
    c.piece_at-start.result.start c.min-to.result c.args.column c.gaps_within-gaps.result c.in_ok-text.text
    (start_of-get (g.T.TextView.pieces_of c.args.view.now) c.args.line c.piece_at-start.result c.piece_at-start.ensures)
    (capped c.last_gap.result c.piece_at-start.result.start c.args.column _ _ c.last_gap.type_inv c.saturating_add.ensures c.min-to.ensures) c.in_ok-text.ensures
    (c.gaps_within-gaps.ensures ∙ ap (gaps_within c.args.column) c.as_str.ensures.characters)

pub returns-clause-value : goal.returns-clause-value
returns-clause-value g c =
    IfOk-weaker c.outward_left.result _ _
    (held-point (g.T.TextView.text_of c.args.view.now) (g.T.TextView.pieces_of c.args.view.now) c.args.line c.last_gap.result c.lines.ensures.sound c.requires.characters c.requires.starts (omega (arith, c.lines.ensures.count, c.if-line-lines.false)) c.last_gap.ensures
    c.piece_at-start.result.start c.min-to.result c.args.column c.gaps_within-gaps.result c.in_ok-text.text
    (start_of-get (g.T.TextView.pieces_of c.args.view.now) c.args.line c.piece_at-start.result c.piece_at-start.ensures)
    (capped c.last_gap.result c.piece_at-start.result.start c.args.column _ _ c.last_gap.type_inv c.saturating_add.ensures c.min-to.ensures) c.in_ok-text.ensures
    (c.gaps_within-gaps.ensures ∙ ap (gaps_within c.args.column) c.as_str.ensures.characters))
    c.outward_left.ensures.greatest

pub returns-clause-inside : goal.returns-clause-inside
returns-clause-inside g c =
    IfOk-weaker c.outward_left.result _ _ (λ place is. place-inside (g.T.TextView.text_of c.args.view.now) place c.requires.characters is.place) c.outward_left.ensures.greatest
