use Rattle.std.proofs.Common.{arith}
use Rattle.match_index.specs.Found.{runs_in}
use Rattle.line_stays.proofs.GapLemmas.{gaps-inside, gaps-ordered, gaps-twin, marks-count, marks-plain, marks-reach}
use Rattle.line_stays.proofs.parts.marks_of.Goals as goal

pub returns-clause-reach : goal.returns-clause-reach
returns-clause-reach g c =
    let text = g.T.TextView.text_of c.args.before.now.view.now in
    let other = g.T.TextView.text_of c.args.after.now.view.now in
    let pieces = g.T.TextView.pieces_of c.args.before.now.view.now in
    let parts = g.T.TextView.pieces_of c.args.after.now.view.now in
    marks-reach text other pieces parts c.args.before.now.sel.now.regions c.args.after.now.sel.now.regions (runs_in c.args.before.now.results.now)
    (runs_in c.args.after.now.results.now) c.args.before.now.layers.now c.args.after.now.layers.now c.lines-lines.ensures.sound c.lines-counterparts.ensures.sound
    c.args.part.old c.args.part.new c.args.part.n c.requires.part c.requires.some c.piece_at-old.result c.piece_at-end.result c.piece_at-new.result
    c.piece_at-old.ensures c.piece_at-end.ensures c.piece_at-new.ensures c.in_ok-marks.marks c.in_ok-marks.ensures.count

pub returns-clause-count : goal.returns-clause-count
returns-clause-count g c =
    let text = g.T.TextView.text_of c.args.before.now.view.now in
    let other = g.T.TextView.text_of c.args.after.now.view.now in
    let pieces = g.T.TextView.pieces_of c.args.before.now.view.now in
    let parts = g.T.TextView.pieces_of c.args.after.now.view.now in
    marks-count text other pieces parts c.args.before.now.sel.now.regions c.args.after.now.sel.now.regions (runs_in c.args.before.now.results.now)
    (runs_in c.args.after.now.results.now) c.args.before.now.layers.now c.args.after.now.layers.now c.lines-lines.ensures.sound c.lines-counterparts.ensures.sound
    c.args.part.old c.args.part.new c.args.part.n c.requires.part c.requires.some c.piece_at-old.result c.piece_at-end.result c.piece_at-new.result
    c.piece_at-old.ensures c.piece_at-end.ensures c.piece_at-new.ensures c.in_ok-marks.marks c.in_ok-marks.ensures.count

pub returns-clause-plain : goal.returns-clause-plain
returns-clause-plain g c =
    let text = g.T.TextView.text_of c.args.before.now.view.now in
    let other = g.T.TextView.text_of c.args.after.now.view.now in
    let pieces = g.T.TextView.pieces_of c.args.before.now.view.now in
    let parts = g.T.TextView.pieces_of c.args.after.now.view.now in
    marks-plain text other pieces parts c.args.before.now.sel.now.regions c.args.after.now.sel.now.regions (runs_in c.args.before.now.results.now)
    (runs_in c.args.after.now.results.now) c.args.before.now.layers.now c.args.after.now.layers.now c.lines-lines.ensures.sound c.lines-counterparts.ensures.sound
    c.args.part.old c.args.part.new c.args.part.n c.requires.part c.requires.some c.piece_at-old.result c.piece_at-end.result c.piece_at-new.result
    c.piece_at-old.ensures c.piece_at-end.ensures c.piece_at-new.ensures c.in_ok-marks.marks c.in_ok-marks.ensures.count c.args.change c.requires.styled c.pieces_read.ensures c.in_ok-marks.ensures.alike
    c.in_ok-marks.ensures.styled

pub marks_in-requires-clause-fits : goal.marks_in-requires-clause-fits
marks_in-requires-clause-fits g c =
    let text = g.T.TextView.text_of c.args.before.now.view.now in
    let other = g.T.TextView.text_of c.args.after.now.view.now in
    let pieces = g.T.TextView.pieces_of c.args.before.now.view.now in
    let parts = g.T.TextView.pieces_of c.args.after.now.view.now in
    let inside = gaps-inside text other pieces parts c.args.before.now.sel.now.regions c.args.after.now.sel.now.regions (runs_in c.args.before.now.results.now)
    (runs_in c.args.after.now.results.now) c.args.before.now.layers.now c.args.after.now.layers.now c.lines-lines.ensures.sound c.lines-counterparts.ensures.sound
    c.args.part.old c.args.part.new c.args.part.n c.requires.part c.requires.some c.piece_at-old.result c.piece_at-end.result c.piece_at-new.result
    c.piece_at-old.ensures c.piece_at-end.ensures c.piece_at-new.ensures in
    let ordered = gaps-ordered text other pieces parts c.args.before.now.sel.now.regions c.args.after.now.sel.now.regions (runs_in c.args.before.now.results.now)
    (runs_in c.args.after.now.results.now) c.args.before.now.layers.now c.args.after.now.layers.now c.lines-lines.ensures.sound c.lines-counterparts.ensures.sound
    c.args.part.old c.args.part.new c.args.part.n c.requires.part c.requires.some c.piece_at-old.result c.piece_at-end.result c.piece_at-new.result
    c.piece_at-old.ensures c.piece_at-end.ensures c.piece_at-new.ensures in
    let twin = gaps-twin text other pieces parts c.args.before.now.sel.now.regions c.args.after.now.sel.now.regions (runs_in c.args.before.now.results.now)
    (runs_in c.args.after.now.results.now) c.args.before.now.layers.now c.args.after.now.layers.now c.lines-lines.ensures.sound c.lines-counterparts.ensures.sound
    c.args.part.old c.args.part.new c.args.part.n c.requires.part c.requires.some c.piece_at-old.result c.piece_at-end.result c.piece_at-new.result
    c.piece_at-old.ensures c.piece_at-end.ensures c.piece_at-new.ensures in
    (omega (arith, inside, ordered, c.requires.fits), omega (arith, twin, ordered, c.requires.fits_after))

pub overflow_sub-gaps : goal.overflow_sub-gaps
overflow_sub-gaps g c =
    let text = g.T.TextView.text_of c.args.before.now.view.now in
    let other = g.T.TextView.text_of c.args.after.now.view.now in
    let pieces = g.T.TextView.pieces_of c.args.before.now.view.now in
    let parts = g.T.TextView.pieces_of c.args.after.now.view.now in
    gaps-ordered text other pieces parts c.args.before.now.sel.now.regions c.args.after.now.sel.now.regions (runs_in c.args.before.now.results.now)
    (runs_in c.args.after.now.results.now) c.args.before.now.layers.now c.args.after.now.layers.now c.lines-lines.ensures.sound c.lines-counterparts.ensures.sound
    c.args.part.old c.args.part.new c.args.part.n c.requires.part c.requires.some c.piece_at-old.result c.piece_at-end.result c.piece_at-new.result
    c.piece_at-old.ensures c.piece_at-end.ensures c.piece_at-new.ensures

pub overflow_add-gaps : goal.overflow_add-gaps
overflow_add-gaps g c =
    let text = g.T.TextView.text_of c.args.before.now.view.now in
    let other = g.T.TextView.text_of c.args.after.now.view.now in
    let pieces = g.T.TextView.pieces_of c.args.before.now.view.now in
    let parts = g.T.TextView.pieces_of c.args.after.now.view.now in
    let inside = gaps-inside text other pieces parts c.args.before.now.sel.now.regions c.args.after.now.sel.now.regions (runs_in c.args.before.now.results.now)
    (runs_in c.args.after.now.results.now) c.args.before.now.layers.now c.args.after.now.layers.now c.lines-lines.ensures.sound c.lines-counterparts.ensures.sound
    c.args.part.old c.args.part.new c.args.part.n c.requires.part c.requires.some c.piece_at-old.result c.piece_at-end.result c.piece_at-new.result
    c.piece_at-old.ensures c.piece_at-end.ensures c.piece_at-new.ensures in
    omega (arith, inside, c.requires.fits)
