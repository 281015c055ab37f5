use Rattle.std.proofs.Common.{◌≡◌, ℕ, List, Bool, subst}
use Rattle.std.specs.Prelude.{IfOk, slice_range}
use Rattle.line_render.specs.Rendered.{rendered_piece}
use Rattle.line_render.proofs.lines.render.Goals as goal

pub returns : goal.returns
returns c =
    subst (λ (is_last : Bool). IfOk c.render_piece.result (λ made. made ≡ rendered_piece (slice_range c.args.text.now c.args.piece.now.start c.args.piece.now.end) c.args.piece.now is_last c.args.sel.now.regions c.args.spans.now))
    c.is_last-is_last.ensures
    (subst (λ (line : List ℕ). IfOk c.render_piece.result (λ made. made ≡ rendered_piece line c.args.piece.now c.is_last-is_last.result c.args.sel.now.regions c.args.spans.now))
    c.in_ok-line.ensures c.render_piece.ensures)
