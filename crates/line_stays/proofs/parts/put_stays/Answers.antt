use Rattle.std.proofs.Common.{◌-◌, List, arith}
use Rattle.match_index.specs.Found.{runs_in}
use Rattle.plain_screen.specs.declared.screen.Line.{Line}
use Rattle.doc_layout.specs.Layout.{layout}
use Rattle.line_stays.proofs.PutLemmas.{first-high, first-low, lines-high, lines-whole, part-within, past-low, put-all, put-more, put-none, styled-within}
use Rattle.line_stays.proofs.parts.put_stays.Goals as goal

pub loop-run-init : goal.loop-run-init
loop-run-init g c =
    let text = g.T.TextView.text_of c.args.before.now.view.now in
    let pieces = g.T.TextView.pieces_of c.args.before.now.view.now in
    let before : List Line = layout text pieces c.args.before.now.sel.now.regions (runs_in c.args.before.now.results.now) c.args.before.now.layers.now in
    let after : List Line = layout (g.T.TextView.text_of c.args.after.now.view.now) (g.T.TextView.pieces_of c.args.after.now.view.now) c.args.after.now.sel.now.regions
    (runs_in c.args.after.now.results.now) c.args.after.now.layers.now in
    put-none text pieces before after c.args.had.now c.args.part.old c.args.part.new c.args.part.n c.args.stays.now c.requires.part.whole

pub overflow_sub-lines : goal.overflow_sub-lines
overflow_sub-lines g c =
    let text = g.T.TextView.text_of c.args.before.now.view.now in
    let pieces = g.T.TextView.pieces_of c.args.before.now.view.now in
    let before : List Line = layout text pieces c.args.before.now.sel.now.regions (runs_in c.args.before.now.results.now) c.args.before.now.layers.now in
    let after : List Line = layout (g.T.TextView.text_of c.args.after.now.view.now) (g.T.TextView.pieces_of c.args.after.now.view.now) c.args.after.now.sel.now.regions
    (runs_in c.args.after.now.results.now) c.args.after.now.layers.now in
    let low = first-low text pieces before after c.lines-lines.ensures.sound c.args.had.now c.args.part.old c.args.part.new c.args.part.n c.loop-run.at c.in-Some.run'.start c.in-Some.run'.end
    c.args.stays.now c.loop-run.stays c.loop-run.stays c.requires.part.inside c.requires.part.whole c.loop-run.invariant c.in-Some.ensures.some.0 c.in-Some.ensures.some.1
    c.in-Some.ensures.some.2 c.in-Some.ensures.before c.first_piece-first.result c.past_piece-past.result c.first_piece-first.ensures c.past_piece-past.ensures in
    omega (arith, low, c.loop-run.invariant.low)

pub overflow_add-lines : goal.overflow_add-lines
overflow_add-lines g c =
    let text = g.T.TextView.text_of c.args.before.now.view.now in
    let pieces = g.T.TextView.pieces_of c.args.before.now.view.now in
    let before : List Line = layout text pieces c.args.before.now.sel.now.regions (runs_in c.args.before.now.results.now) c.args.before.now.layers.now in
    let after : List Line = layout (g.T.TextView.text_of c.args.after.now.view.now) (g.T.TextView.pieces_of c.args.after.now.view.now) c.args.after.now.sel.now.regions
    (runs_in c.args.after.now.results.now) c.args.after.now.layers.now in
    let one = first-high text pieces before after c.lines-lines.ensures.sound c.args.had.now c.args.part.old c.args.part.new c.args.part.n c.loop-run.at c.in-Some.run'.start c.in-Some.run'.end
    c.args.stays.now c.loop-run.stays c.loop-run.stays c.requires.part.inside c.requires.part.whole c.loop-run.invariant c.in-Some.ensures.some.0 c.in-Some.ensures.some.1
    c.in-Some.ensures.some.2 c.in-Some.ensures.before c.first_piece-first.result c.past_piece-past.result c.first_piece-first.ensures c.past_piece-past.ensures in
    omega (
      arith,
      one,
      c.in-Some.ensures.some.1,
      c.in-Some.ensures.some.2,
      c.requires.part.too,
      c.lines-counterparts.ensures.count,
      c.lines-counterparts.type_inv,
    )

pub overflow_sub-lines-in-Some : goal.overflow_sub-lines-in-Some
overflow_sub-lines-in-Some g c =
    let text = g.T.TextView.text_of c.args.before.now.view.now in
    let pieces = g.T.TextView.pieces_of c.args.before.now.view.now in
    let before : List Line = layout text pieces c.args.before.now.sel.now.regions (runs_in c.args.before.now.results.now) c.args.before.now.layers.now in
    let after : List Line = layout (g.T.TextView.text_of c.args.after.now.view.now) (g.T.TextView.pieces_of c.args.after.now.view.now) c.args.after.now.sel.now.regions
    (runs_in c.args.after.now.results.now) c.args.after.now.layers.now in
    let one = first-high text pieces before after c.lines-lines.ensures.sound c.args.had.now c.args.part.old c.args.part.new c.args.part.n c.loop-run.at c.in-Some.run'.start c.in-Some.run'.end
    c.args.stays.now c.loop-run.stays c.loop-run.stays c.requires.part.inside c.requires.part.whole c.loop-run.invariant c.in-Some.ensures.some.0 c.in-Some.ensures.some.1
    c.in-Some.ensures.some.2 c.in-Some.ensures.before c.first_piece-first.result c.past_piece-past.result c.first_piece-first.ensures c.past_piece-past.ensures in
    let two = past-low text pieces before after c.lines-lines.ensures.sound c.args.had.now c.args.part.old c.args.part.new c.args.part.n c.loop-run.at c.in-Some.run'.start c.in-Some.run'.end
    c.args.stays.now c.loop-run.stays c.loop-run.stays c.requires.part.inside c.requires.part.whole c.loop-run.invariant c.in-Some.ensures.some.0 c.in-Some.ensures.some.1
    c.in-Some.ensures.some.2 c.in-Some.ensures.before c.first_piece-first.result c.past_piece-past.result c.first_piece-first.ensures c.past_piece-past.ensures in
    omega (arith, one, two, c.in-Some.ensures.some.1)

pub marks_of-requires-clause-some : goal.marks_of-requires-clause-some
marks_of-requires-clause-some g c =
    let text = g.T.TextView.text_of c.args.before.now.view.now in
    let pieces = g.T.TextView.pieces_of c.args.before.now.view.now in
    let before : List Line = layout text pieces c.args.before.now.sel.now.regions (runs_in c.args.before.now.results.now) c.args.before.now.layers.now in
    let after : List Line = layout (g.T.TextView.text_of c.args.after.now.view.now) (g.T.TextView.pieces_of c.args.after.now.view.now) c.args.after.now.sel.now.regions
    (runs_in c.args.after.now.results.now) c.args.after.now.layers.now in
    let one = first-high text pieces before after c.lines-lines.ensures.sound c.args.had.now c.args.part.old c.args.part.new c.args.part.n c.loop-run.at c.in-Some.run'.start c.in-Some.run'.end
    c.args.stays.now c.loop-run.stays c.loop-run.stays c.requires.part.inside c.requires.part.whole c.loop-run.invariant c.in-Some.ensures.some.0 c.in-Some.ensures.some.1
    c.in-Some.ensures.some.2 c.in-Some.ensures.before c.first_piece-first.result c.past_piece-past.result c.first_piece-first.ensures c.past_piece-past.ensures in
    let two = past-low text pieces before after c.lines-lines.ensures.sound c.args.had.now c.args.part.old c.args.part.new c.args.part.n c.loop-run.at c.in-Some.run'.start c.in-Some.run'.end
    c.args.stays.now c.loop-run.stays c.loop-run.stays c.requires.part.inside c.requires.part.whole c.loop-run.invariant c.in-Some.ensures.some.0 c.in-Some.ensures.some.1
    c.in-Some.ensures.some.2 c.in-Some.ensures.before c.first_piece-first.result c.past_piece-past.result c.first_piece-first.ensures c.past_piece-past.ensures in
    omega (arith, one, two, c.in-Some.ensures.some.1)

pub marks_of-requires-clause-part : goal.marks_of-requires-clause-part
marks_of-requires-clause-part g c =
    let text = g.T.TextView.text_of c.args.before.now.view.now in
    let pieces = g.T.TextView.pieces_of c.args.before.now.view.now in
    let before : List Line = layout text pieces c.args.before.now.sel.now.regions (runs_in c.args.before.now.results.now) c.args.before.now.layers.now in
    let after : List Line = layout (g.T.TextView.text_of c.args.after.now.view.now) (g.T.TextView.pieces_of c.args.after.now.view.now) c.args.after.now.sel.now.regions
    (runs_in c.args.after.now.results.now) c.args.after.now.layers.now in
    let low = first-low text pieces before after c.lines-lines.ensures.sound c.args.had.now c.args.part.old c.args.part.new c.args.part.n c.loop-run.at c.in-Some.run'.start c.in-Some.run'.end
    c.args.stays.now c.loop-run.stays c.loop-run.stays c.requires.part.inside c.requires.part.whole c.loop-run.invariant c.in-Some.ensures.some.0 c.in-Some.ensures.some.1
    c.in-Some.ensures.some.2 c.in-Some.ensures.before c.first_piece-first.result c.past_piece-past.result c.first_piece-first.ensures c.past_piece-past.ensures in
    let high = lines-high text pieces before after c.lines-lines.ensures.sound c.args.had.now c.args.part.old c.args.part.new c.args.part.n c.loop-run.at c.in-Some.run'.start c.in-Some.run'.end
    c.args.stays.now c.loop-run.stays c.loop-run.stays c.requires.part.inside c.requires.part.whole c.loop-run.invariant c.in-Some.ensures.some.0 c.in-Some.ensures.some.1
    c.in-Some.ensures.some.2 c.in-Some.ensures.before c.first_piece-first.result c.past_piece-past.result c.first_piece-first.ensures c.past_piece-past.ensures in
    let whole = lines-whole text pieces before after c.lines-lines.ensures.sound c.args.had.now c.args.part.old c.args.part.new c.args.part.n c.loop-run.at c.in-Some.run'.start c.in-Some.run'.end
    c.args.stays.now c.loop-run.stays c.loop-run.stays c.requires.part.inside c.requires.part.whole c.loop-run.invariant c.in-Some.ensures.some.0 c.in-Some.ensures.some.1
    c.in-Some.ensures.some.2 c.in-Some.ensures.before c.first_piece-first.result c.past_piece-past.result c.first_piece-first.ensures c.past_piece-past.ensures in
    let part = part-within text (g.T.TextView.text_of c.args.after.now.view.now) pieces (g.T.TextView.pieces_of c.args.after.now.view.now) c.args.part.old c.args.part.new
    c.args.part.n c.first_piece-first.result (c.past_piece-past.result - c.first_piece-first.result) c.requires.part (omega (arith, low, c.loop-run.invariant.low)) high whole in
    part

pub marks_of-requires-clause-styled : goal.marks_of-requires-clause-styled
marks_of-requires-clause-styled g c =
    let text = g.T.TextView.text_of c.args.before.now.view.now in
    let pieces = g.T.TextView.pieces_of c.args.before.now.view.now in
    let before : List Line = layout text pieces c.args.before.now.sel.now.regions (runs_in c.args.before.now.results.now) c.args.before.now.layers.now in
    let after : List Line = layout (g.T.TextView.text_of c.args.after.now.view.now) (g.T.TextView.pieces_of c.args.after.now.view.now) c.args.after.now.sel.now.regions
    (runs_in c.args.after.now.results.now) c.args.after.now.layers.now in
    let low = first-low text pieces before after c.lines-lines.ensures.sound c.args.had.now c.args.part.old c.args.part.new c.args.part.n c.loop-run.at c.in-Some.run'.start c.in-Some.run'.end
    c.args.stays.now c.loop-run.stays c.loop-run.stays c.requires.part.inside c.requires.part.whole c.loop-run.invariant c.in-Some.ensures.some.0 c.in-Some.ensures.some.1
    c.in-Some.ensures.some.2 c.in-Some.ensures.before c.first_piece-first.result c.past_piece-past.result c.first_piece-first.ensures c.past_piece-past.ensures in
    let high = lines-high text pieces before after c.lines-lines.ensures.sound c.args.had.now c.args.part.old c.args.part.new c.args.part.n c.loop-run.at c.in-Some.run'.start c.in-Some.run'.end
    c.args.stays.now c.loop-run.stays c.loop-run.stays c.requires.part.inside c.requires.part.whole c.loop-run.invariant c.in-Some.ensures.some.0 c.in-Some.ensures.some.1
    c.in-Some.ensures.some.2 c.in-Some.ensures.before c.first_piece-first.result c.past_piece-past.result c.first_piece-first.ensures c.past_piece-past.ensures in
    styled-within c.args.change pieces (g.T.TextView.pieces_of c.args.after.now.view.now) c.args.before.now.layers.now c.args.after.now.layers.now c.args.part.old c.args.part.new
    c.args.part.n c.first_piece-first.result (c.past_piece-past.result - c.first_piece-first.result) c.requires.styled (omega (arith, low, c.loop-run.invariant.low)) high

pub put_marked-requires-clause-inside : goal.put_marked-requires-clause-inside
put_marked-requires-clause-inside g c =
    let text = g.T.TextView.text_of c.args.before.now.view.now in
    let pieces = g.T.TextView.pieces_of c.args.before.now.view.now in
    let before : List Line = layout text pieces c.args.before.now.sel.now.regions (runs_in c.args.before.now.results.now) c.args.before.now.layers.now in
    let after : List Line = layout (g.T.TextView.text_of c.args.after.now.view.now) (g.T.TextView.pieces_of c.args.after.now.view.now) c.args.after.now.sel.now.regions
    (runs_in c.args.after.now.results.now) c.args.after.now.layers.now in
    let low = first-low text pieces before after c.lines-lines.ensures.sound c.args.had.now c.args.part.old c.args.part.new c.args.part.n c.loop-run.at c.in-Some.run'.start c.in-Some.run'.end
    c.args.stays.now c.loop-run.stays c.loop-run.stays c.requires.part.inside c.requires.part.whole c.loop-run.invariant c.in-Some.ensures.some.0 c.in-Some.ensures.some.1
    c.in-Some.ensures.some.2 c.in-Some.ensures.before c.first_piece-first.result c.past_piece-past.result c.first_piece-first.ensures c.past_piece-past.ensures in
    let high = lines-high text pieces before after c.lines-lines.ensures.sound c.args.had.now c.args.part.old c.args.part.new c.args.part.n c.loop-run.at c.in-Some.run'.start c.in-Some.run'.end
    c.args.stays.now c.loop-run.stays c.loop-run.stays c.requires.part.inside c.requires.part.whole c.loop-run.invariant c.in-Some.ensures.some.0 c.in-Some.ensures.some.1
    c.in-Some.ensures.some.2 c.in-Some.ensures.before c.first_piece-first.result c.past_piece-past.result c.first_piece-first.ensures c.past_piece-past.ensures in
    let whole = lines-whole text pieces before after c.lines-lines.ensures.sound c.args.had.now c.args.part.old c.args.part.new c.args.part.n c.loop-run.at c.in-Some.run'.start c.in-Some.run'.end
    c.args.stays.now c.loop-run.stays c.loop-run.stays c.requires.part.inside c.requires.part.whole c.loop-run.invariant c.in-Some.ensures.some.0 c.in-Some.ensures.some.1
    c.in-Some.ensures.some.2 c.in-Some.ensures.before c.first_piece-first.result c.past_piece-past.result c.first_piece-first.ensures c.past_piece-past.ensures in
    let part = part-within text (g.T.TextView.text_of c.args.after.now.view.now) pieces (g.T.TextView.pieces_of c.args.after.now.view.now) c.args.part.old c.args.part.new
    c.args.part.n c.first_piece-first.result (c.past_piece-past.result - c.first_piece-first.result) c.requires.part (omega (arith, low, c.loop-run.invariant.low)) high whole in
    part.inside

pub put_marked-requires-clause-too : goal.put_marked-requires-clause-too
put_marked-requires-clause-too g c =
    let text = g.T.TextView.text_of c.args.before.now.view.now in
    let pieces = g.T.TextView.pieces_of c.args.before.now.view.now in
    let before : List Line = layout text pieces c.args.before.now.sel.now.regions (runs_in c.args.before.now.results.now) c.args.before.now.layers.now in
    let after : List Line = layout (g.T.TextView.text_of c.args.after.now.view.now) (g.T.TextView.pieces_of c.args.after.now.view.now) c.args.after.now.sel.now.regions
    (runs_in c.args.after.now.results.now) c.args.after.now.layers.now in
    let low = first-low text pieces before after c.lines-lines.ensures.sound c.args.had.now c.args.part.old c.args.part.new c.args.part.n c.loop-run.at c.in-Some.run'.start c.in-Some.run'.end
    c.args.stays.now c.loop-run.stays c.loop-run.stays c.requires.part.inside c.requires.part.whole c.loop-run.invariant c.in-Some.ensures.some.0 c.in-Some.ensures.some.1
    c.in-Some.ensures.some.2 c.in-Some.ensures.before c.first_piece-first.result c.past_piece-past.result c.first_piece-first.ensures c.past_piece-past.ensures in
    let high = lines-high text pieces before after c.lines-lines.ensures.sound c.args.had.now c.args.part.old c.args.part.new c.args.part.n c.loop-run.at c.in-Some.run'.start c.in-Some.run'.end
    c.args.stays.now c.loop-run.stays c.loop-run.stays c.requires.part.inside c.requires.part.whole c.loop-run.invariant c.in-Some.ensures.some.0 c.in-Some.ensures.some.1
    c.in-Some.ensures.some.2 c.in-Some.ensures.before c.first_piece-first.result c.past_piece-past.result c.first_piece-first.ensures c.past_piece-past.ensures in
    let whole = lines-whole text pieces before after c.lines-lines.ensures.sound c.args.had.now c.args.part.old c.args.part.new c.args.part.n c.loop-run.at c.in-Some.run'.start c.in-Some.run'.end
    c.args.stays.now c.loop-run.stays c.loop-run.stays c.requires.part.inside c.requires.part.whole c.loop-run.invariant c.in-Some.ensures.some.0 c.in-Some.ensures.some.1
    c.in-Some.ensures.some.2 c.in-Some.ensures.before c.first_piece-first.result c.past_piece-past.result c.first_piece-first.ensures c.past_piece-past.ensures in
    let part = part-within text (g.T.TextView.text_of c.args.after.now.view.now) pieces (g.T.TextView.pieces_of c.args.after.now.view.now) c.args.part.old c.args.part.new
    c.args.part.n c.first_piece-first.result (c.past_piece-past.result - c.first_piece-first.result) c.requires.part (omega (arith, low, c.loop-run.invariant.low)) high whole in
    part.too

pub put_marked-requires-clause-whole : goal.put_marked-requires-clause-whole
put_marked-requires-clause-whole g c =
    let text = g.T.TextView.text_of c.args.before.now.view.now in
    let pieces = g.T.TextView.pieces_of c.args.before.now.view.now in
    let before : List Line = layout text pieces c.args.before.now.sel.now.regions (runs_in c.args.before.now.results.now) c.args.before.now.layers.now in
    let after : List Line = layout (g.T.TextView.text_of c.args.after.now.view.now) (g.T.TextView.pieces_of c.args.after.now.view.now) c.args.after.now.sel.now.regions
    (runs_in c.args.after.now.results.now) c.args.after.now.layers.now in
    let low = first-low text pieces before after c.lines-lines.ensures.sound c.args.had.now c.args.part.old c.args.part.new c.args.part.n c.loop-run.at c.in-Some.run'.start c.in-Some.run'.end
    c.args.stays.now c.loop-run.stays c.loop-run.stays c.requires.part.inside c.requires.part.whole c.loop-run.invariant c.in-Some.ensures.some.0 c.in-Some.ensures.some.1
    c.in-Some.ensures.some.2 c.in-Some.ensures.before c.first_piece-first.result c.past_piece-past.result c.first_piece-first.ensures c.past_piece-past.ensures in
    let high = lines-high text pieces before after c.lines-lines.ensures.sound c.args.had.now c.args.part.old c.args.part.new c.args.part.n c.loop-run.at c.in-Some.run'.start c.in-Some.run'.end
    c.args.stays.now c.loop-run.stays c.loop-run.stays c.requires.part.inside c.requires.part.whole c.loop-run.invariant c.in-Some.ensures.some.0 c.in-Some.ensures.some.1
    c.in-Some.ensures.some.2 c.in-Some.ensures.before c.first_piece-first.result c.past_piece-past.result c.first_piece-first.ensures c.past_piece-past.ensures in
    let whole = lines-whole text pieces before after c.lines-lines.ensures.sound c.args.had.now c.args.part.old c.args.part.new c.args.part.n c.loop-run.at c.in-Some.run'.start c.in-Some.run'.end
    c.args.stays.now c.loop-run.stays c.loop-run.stays c.requires.part.inside c.requires.part.whole c.loop-run.invariant c.in-Some.ensures.some.0 c.in-Some.ensures.some.1
    c.in-Some.ensures.some.2 c.in-Some.ensures.before c.first_piece-first.result c.past_piece-past.result c.first_piece-first.ensures c.past_piece-past.ensures in
    let part = part-within text (g.T.TextView.text_of c.args.after.now.view.now) pieces (g.T.TextView.pieces_of c.args.after.now.view.now) c.args.part.old c.args.part.new
    c.args.part.n c.first_piece-first.result (c.past_piece-past.result - c.first_piece-first.result) c.requires.part (omega (arith, low, c.loop-run.invariant.low)) high whole in
    (part.whole, c.in_ok-marks.ensures.reach)

pub put_marked-requires-clause-some : goal.put_marked-requires-clause-some
put_marked-requires-clause-some g c =
    let text = g.T.TextView.text_of c.args.before.now.view.now in
    let pieces = g.T.TextView.pieces_of c.args.before.now.view.now in
    let before : List Line = layout text pieces c.args.before.now.sel.now.regions (runs_in c.args.before.now.results.now) c.args.before.now.layers.now in
    let after : List Line = layout (g.T.TextView.text_of c.args.after.now.view.now) (g.T.TextView.pieces_of c.args.after.now.view.now) c.args.after.now.sel.now.regions
    (runs_in c.args.after.now.results.now) c.args.after.now.layers.now in
    let one = first-high text pieces before after c.lines-lines.ensures.sound c.args.had.now c.args.part.old c.args.part.new c.args.part.n c.loop-run.at c.in-Some.run'.start c.in-Some.run'.end
    c.args.stays.now c.loop-run.stays c.loop-run.stays c.requires.part.inside c.requires.part.whole c.loop-run.invariant c.in-Some.ensures.some.0 c.in-Some.ensures.some.1
    c.in-Some.ensures.some.2 c.in-Some.ensures.before c.first_piece-first.result c.past_piece-past.result c.first_piece-first.ensures c.past_piece-past.ensures in
    let two = past-low text pieces before after c.lines-lines.ensures.sound c.args.had.now c.args.part.old c.args.part.new c.args.part.n c.loop-run.at c.in-Some.run'.start c.in-Some.run'.end
    c.args.stays.now c.loop-run.stays c.loop-run.stays c.requires.part.inside c.requires.part.whole c.loop-run.invariant c.in-Some.ensures.some.0 c.in-Some.ensures.some.1
    c.in-Some.ensures.some.2 c.in-Some.ensures.before c.first_piece-first.result c.past_piece-past.result c.first_piece-first.ensures c.past_piece-past.ensures in
    omega (arith, one, two, c.in-Some.ensures.some.1)

pub loop-run-preserved : goal.loop-run-preserved
loop-run-preserved g c =
    let text = g.T.TextView.text_of c.args.before.now.view.now in
    let pieces = g.T.TextView.pieces_of c.args.before.now.view.now in
    let before : List Line = layout text pieces c.args.before.now.sel.now.regions (runs_in c.args.before.now.results.now) c.args.before.now.layers.now in
    let after : List Line = layout (g.T.TextView.text_of c.args.after.now.view.now) (g.T.TextView.pieces_of c.args.after.now.view.now) c.args.after.now.sel.now.regions
    (runs_in c.args.after.now.results.now) c.args.after.now.layers.now in
    put-more text pieces before after c.lines-lines.ensures.sound c.args.had.now c.args.part.old c.args.part.new c.args.part.n c.loop-run.at c.in-Some.run'.start c.in-Some.run'.end
    c.args.stays.now c.loop-run.stays _ c.requires.part.inside c.requires.part.whole c.loop-run.invariant c.in-Some.ensures.some.0 c.in-Some.ensures.some.1
    c.in-Some.ensures.some.2 c.in-Some.ensures.before c.first_piece-first.result c.past_piece-past.result c.first_piece-first.ensures c.past_piece-past.ensures
    c.in_ok-put_marked.ensures

pub loop-run-smaller : goal.loop-run-smaller
loop-run-smaller g c =
    let text = g.T.TextView.text_of c.args.before.now.view.now in
    let pieces = g.T.TextView.pieces_of c.args.before.now.view.now in
    let before : List Line = layout text pieces c.args.before.now.sel.now.regions (runs_in c.args.before.now.results.now) c.args.before.now.layers.now in
    let after : List Line = layout (g.T.TextView.text_of c.args.after.now.view.now) (g.T.TextView.pieces_of c.args.after.now.view.now) c.args.after.now.sel.now.regions
    (runs_in c.args.after.now.results.now) c.args.after.now.layers.now in
    let low = past-low text pieces before after c.lines-lines.ensures.sound c.args.had.now c.args.part.old c.args.part.new c.args.part.n c.loop-run.at c.in-Some.run'.start c.in-Some.run'.end
    c.args.stays.now c.loop-run.stays c.loop-run.stays c.requires.part.inside c.requires.part.whole c.loop-run.invariant c.in-Some.ensures.some.0 c.in-Some.ensures.some.1
    c.in-Some.ensures.some.2 c.in-Some.ensures.before c.first_piece-first.result c.past_piece-past.result c.first_piece-first.ensures c.past_piece-past.ensures in
    omega (arith, low, c.in-Some.ensures.some.0, c.in-Some.ensures.some.1, c.in-Some.ensures.some.2)

pub returns : goal.returns
returns g c = λ partner partners settled.
    let text = g.T.TextView.text_of c.args.before.now.view.now in
    let pieces = g.T.TextView.pieces_of c.args.before.now.view.now in
    let before : List Line = layout text pieces c.args.before.now.sel.now.regions (runs_in c.args.before.now.results.now) c.args.before.now.layers.now in
    let after : List Line = layout (g.T.TextView.text_of c.args.after.now.view.now) (g.T.TextView.pieces_of c.args.after.now.view.now) c.args.after.now.sel.now.regions
    (runs_in c.args.after.now.results.now) c.args.after.now.layers.now in
    put-all text pieces before after c.args.had.now c.args.part.old c.args.part.new c.args.part.n c.loop-run.at c.args.stays.now c.loop-run.stays c.loop-run.invariant
    (c.in_default.ensures.none) partner partners settled
