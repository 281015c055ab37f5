use Rattle.std.proofs.Common.{ℕ, ◌-◌, List, ap, arith, ◌∙◌}
use Rattle.cluster_core.specs.Boundaries.{clusters_in}
use Rattle.cluster_core.specs.Walk.{counted_anew, placed}
use Rattle.movement_core.specs.Inner.{fitting, items_past}
use Rattle.movement_core.proofs.FitLemmas.{held-place, held-place-le, held-walk-from, held-walk-last, piece-inside, piece-low, piece-ordered}
use Rattle.movement_core.proofs.columns.place_at_column.Goals as goal

pub text_around-requires-clause-start : goal.text_around-requires-clause-start
text_around-requires-clause-start g c =
    piece-low (g.T.TextView.text_of c.args.view.now) (g.T.TextView.pieces_of c.args.view.now) c.args.line c.last_gap-end.result c.requires.sound c.requires.characters
    c.requires.starts c.requires.inside c.last_gap-end.ensures c.piece_at-start.result c.piece_at-start.ensures

pub text_around-requires-clause-ordered : goal.text_around-requires-clause-ordered
text_around-requires-clause-ordered g c =
    piece-ordered (g.T.TextView.text_of c.args.view.now) (g.T.TextView.pieces_of c.args.view.now) c.args.line c.last_gap-end.result c.requires.sound c.requires.characters
    c.requires.starts c.requires.inside c.last_gap-end.ensures c.piece_at-start.result c.piece_at-start.ensures

pub text_around-requires-clause-end : goal.text_around-requires-clause-end
text_around-requires-clause-end g c =
    piece-inside (g.T.TextView.text_of c.args.view.now) (g.T.TextView.pieces_of c.args.view.now) c.args.line c.last_gap-end.result c.requires.sound c.requires.characters
    c.requires.starts c.requires.inside c.last_gap-end.ensures c.piece_at-start.result c.piece_at-start.ensures

pub overflow_sub-last : goal.overflow_sub-last
overflow_sub-last g c =
    held-walk-last (g.T.TextView.text_of c.args.view.now) (g.T.TextView.pieces_of c.args.view.now) c.args.line c.last_gap-end.result c.requires.sound c.requires.characters
    c.requires.starts c.requires.inside c.last_gap-end.ensures c.piece_at-start.result c.piece_at-start.ensures
    c.in_ok-near.near c.in_ok-near.ensures

pub overflow_sub-from : goal.overflow_sub-from
overflow_sub-from g c =
    held-walk-from (g.T.TextView.text_of c.args.view.now) (g.T.TextView.pieces_of c.args.view.now) c.args.line c.last_gap-end.result c.requires.sound c.requires.characters
    c.requires.starts c.requires.inside c.last_gap-end.ensures c.piece_at-start.result c.piece_at-start.ensures
    c.in_ok-near.near c.in_ok-near.ensures

pub overflow_add-result : goal.overflow_add-result
overflow_add-result g c =
    let place =
    held-place (g.T.TextView.text_of c.args.view.now) (g.T.TextView.pieces_of c.args.view.now) c.args.line c.last_gap-end.result c.requires.sound c.requires.characters
    c.requires.starts c.requires.inside c.last_gap-end.ensures c.piece_at-start.result c.piece_at-start.ensures
    c.in_ok-near.near c.in_ok-near.ensures c.args.tab c.args.column c.last_fitting-found.result
    (c.last_fitting-found.ensures ∙
    ap (λ (t : List ℕ). fitting (c.last_gap-end.result - c.in_ok-near.near.start) c.args.column (c.piece_at-start.result.start - c.in_ok-near.near.start)
    (counted_anew c.args.tab 0 (items_past (c.piece_at-start.result.start - c.in_ok-near.near.start) 0 (placed c.args.tab 0 0 (clusters_in t)))))
    c.as_str.ensures.characters) in
    let le =
    held-place-le (g.T.TextView.text_of c.args.view.now) (g.T.TextView.pieces_of c.args.view.now) c.args.line c.last_gap-end.result c.requires.sound c.requires.characters
    c.requires.starts c.requires.inside c.last_gap-end.ensures c.piece_at-start.result c.piece_at-start.ensures c.args.tab c.args.column in
    let bound = c.last_gap-end.type_inv in
    omega arith

pub returns : goal.returns
returns g c =
    held-place (g.T.TextView.text_of c.args.view.now) (g.T.TextView.pieces_of c.args.view.now) c.args.line c.last_gap-end.result c.requires.sound c.requires.characters
    c.requires.starts c.requires.inside c.last_gap-end.ensures c.piece_at-start.result c.piece_at-start.ensures
    c.in_ok-near.near c.in_ok-near.ensures c.args.tab c.args.column c.last_fitting-found.result
    (c.last_fitting-found.ensures ∙
    ap (λ (t : List ℕ). fitting (c.last_gap-end.result - c.in_ok-near.near.start) c.args.column (c.piece_at-start.result.start - c.in_ok-near.near.start)
    (counted_anew c.args.tab 0 (items_past (c.piece_at-start.result.start - c.in_ok-near.near.start) 0 (placed c.args.tab 0 0 (clusters_in t)))))
    c.as_str.ensures.characters)
