use Rattle.std.proofs.Common.{◌≡◌, ◌+◌, ◌-◌, List, refl, sym, arith}
use Rattle.match_index.specs.Found.{runs_in}
use Rattle.plain_screen.specs.declared.screen.Line.{Line}
use Rattle.plain_screen.specs.View.{start_of}
use Rattle.plain_screen.proofs.callers.OwnLemmas.{start_of-get}
use Rattle.doc_layout.specs.Layout.{layout}
use Rattle.line_stays.specs.Edges.{past_piece}
use Rattle.line_stays.specs.Inner.{is_same_logical}
use Rattle.line_stays.proofs.SettledLemmas.{settled-at}
use Rattle.line_stays.proofs.PutLemmas.{before-same, mark-before, marked-begins, marked-low, marked-more, marked-none, past-fits, past-more, rest-same, walk-reaches}
use Rattle.line_stays.proofs.parts.put_marked.Goals as goal

pub loop-at-init : goal.loop-at-init
loop-at-init g c =
    let text = g.T.TextView.text_of c.args.before.now.view.now in
    let pieces = g.T.TextView.pieces_of c.args.before.now.view.now in
    let before : List Line = layout text pieces c.args.before.now.sel.now.regions (runs_in c.args.before.now.results.now) c.args.before.now.layers.now in
    let after : List Line = layout (g.T.TextView.text_of c.args.after.now.view.now) (g.T.TextView.pieces_of c.args.after.now.view.now) c.args.after.now.sel.now.regions
    (runs_in c.args.after.now.results.now) c.args.after.now.layers.now in
    marked-none text pieces before after c.args.marks.now c.args.part.old c.args.part.new c.args.part.n (start_of pieces c.args.part.old) c.piece_at-gap.result.start
    c.walk-walk.result c.args.stays.now c.requires.whole.0 refl (sym (start_of-get pieces c.args.part.old c.piece_at-gap.result (sym c.piece_at-gap.ensures))) c.walk-walk.ensures.all

pub put_compared-requires-clause-low : goal.put_compared-requires-clause-low
put_compared-requires-clause-low g c =
    let text = g.T.TextView.text_of c.args.before.now.view.now in
    let pieces = g.T.TextView.pieces_of c.args.before.now.view.now in
    let before : List Line = layout text pieces c.args.before.now.sel.now.regions (runs_in c.args.before.now.results.now) c.args.before.now.layers.now in
    let after : List Line = layout (g.T.TextView.text_of c.args.after.now.view.now) (g.T.TextView.pieces_of c.args.after.now.view.now) c.args.after.now.sel.now.regions
    (runs_in c.args.after.now.results.now) c.args.after.now.layers.now in
    let old = c.args.part.old in
    let new = c.args.part.new in
    let n = c.args.part.n in
    let are = c.lines-lines.ensures.sound in
    let low = marked-low text pieces before after are c.args.marks.now old new n (start_of pieces old) c.loop-at.at c.loop-at.gap c.loop-at.walk c.args.stays.now c.loop-at.stays
    c.requires.inside c.requires.whole.0 refl c.requires.whole.1 c.requires.count c.requires.plain c.loop-at.invariant c.loop-at-test.true c.in-Some.marked.gap
    c.in-Some.ensures.rest.0 c.in-Some.ensures.rest.1 c.in-Some.ensures.gone c.in-Some.marked.first (past_piece pieces c.in-Some.marked.first) c.in-Some.ensures.some
    c.in-Some.ensures.before refl in
    omega (arith, low, c.loop-at.invariant.low)

pub put_compared-requires-clause-begins : goal.put_compared-requires-clause-begins
put_compared-requires-clause-begins g c =
    let text = g.T.TextView.text_of c.args.before.now.view.now in
    let pieces = g.T.TextView.pieces_of c.args.before.now.view.now in
    let before : List Line = layout text pieces c.args.before.now.sel.now.regions (runs_in c.args.before.now.results.now) c.args.before.now.layers.now in
    let after : List Line = layout (g.T.TextView.text_of c.args.after.now.view.now) (g.T.TextView.pieces_of c.args.after.now.view.now) c.args.after.now.sel.now.regions
    (runs_in c.args.after.now.results.now) c.args.after.now.layers.now in
    let old = c.args.part.old in
    let new = c.args.part.new in
    let n = c.args.part.n in
    let are = c.lines-lines.ensures.sound in
    marked-begins text pieces before after are c.args.marks.now old new n (start_of pieces old) c.loop-at.at c.loop-at.gap c.loop-at.walk c.args.stays.now c.loop-at.stays
    c.requires.inside c.requires.whole.0 refl c.requires.whole.1 c.requires.count c.requires.plain c.loop-at.invariant c.loop-at-test.true c.in-Some.marked.gap
    c.in-Some.ensures.rest.0 c.in-Some.ensures.rest.1 c.in-Some.ensures.gone c.in-Some.marked.first (past_piece pieces c.in-Some.marked.first) c.in-Some.ensures.some
    c.in-Some.ensures.before refl

pub put_compared-requires-clause-whole : goal.put_compared-requires-clause-whole
put_compared-requires-clause-whole g c = c.requires.whole.0

pub put_same-requires-in-Some-clause-ordered : goal.put_same-requires-in-Some-clause-ordered
put_same-requires-in-Some-clause-ordered g c =
    let text = g.T.TextView.text_of c.args.before.now.view.now in
    let pieces = g.T.TextView.pieces_of c.args.before.now.view.now in
    let before : List Line = layout text pieces c.args.before.now.sel.now.regions (runs_in c.args.before.now.results.now) c.args.before.now.layers.now in
    let after : List Line = layout (g.T.TextView.text_of c.args.after.now.view.now) (g.T.TextView.pieces_of c.args.after.now.view.now) c.args.after.now.sel.now.regions
    (runs_in c.args.after.now.results.now) c.args.after.now.layers.now in
    let old = c.args.part.old in
    let new = c.args.part.new in
    let n = c.args.part.n in
    let are = c.lines-lines.ensures.sound in
    marked-low text pieces before after are c.args.marks.now old new n (start_of pieces old) c.loop-at.at c.loop-at.gap c.loop-at.walk c.args.stays.now c.loop-at.stays
    c.requires.inside c.requires.whole.0 refl c.requires.whole.1 c.requires.count c.requires.plain c.loop-at.invariant c.loop-at-test.true c.in-Some.marked.gap
    c.in-Some.ensures.rest.0 c.in-Some.ensures.rest.1 c.in-Some.ensures.gone c.in-Some.marked.first (past_piece pieces c.in-Some.marked.first) c.in-Some.ensures.some
    c.in-Some.ensures.before refl

pub piece_at-gap-requires-in-Some : goal.piece_at-gap-requires-in-Some
piece_at-gap-requires-in-Some g c =
    let text = g.T.TextView.text_of c.args.before.now.view.now in
    let pieces = g.T.TextView.pieces_of c.args.before.now.view.now in
    let before : List Line = layout text pieces c.args.before.now.sel.now.regions (runs_in c.args.before.now.results.now) c.args.before.now.layers.now in
    let after : List Line = layout (g.T.TextView.text_of c.args.after.now.view.now) (g.T.TextView.pieces_of c.args.after.now.view.now) c.args.after.now.sel.now.regions
    (runs_in c.args.after.now.results.now) c.args.after.now.layers.now in
    let old = c.args.part.old in
    let new = c.args.part.new in
    let n = c.args.part.n in
    let are = c.lines-lines.ensures.sound in
    let fits = past-fits text pieces before after are c.args.marks.now old new n (start_of pieces old) c.loop-at.at c.loop-at.gap c.loop-at.walk c.args.stays.now c.loop-at.stays
    c.requires.inside c.requires.whole.0 refl c.requires.whole.1 c.requires.count c.requires.plain c.loop-at.invariant c.loop-at-test.true c.in-Some.marked.gap
    c.in-Some.ensures.rest.0 c.in-Some.ensures.rest.1 c.in-Some.ensures.gone c.in-Some.marked.first c.in_ok-at-in-Some.at c.in-Some.ensures.some c.in-Some.ensures.before
    c.in_ok-at-in-Some.ensures.past in
    let more = past-more text pieces before after are c.args.marks.now old new n (start_of pieces old) c.loop-at.at c.loop-at.gap c.loop-at.walk c.args.stays.now c.loop-at.stays
    c.requires.inside c.requires.whole.0 refl c.requires.whole.1 c.requires.count c.requires.plain c.loop-at.invariant c.loop-at-test.true c.in-Some.marked.gap
    c.in-Some.ensures.rest.0 c.in-Some.ensures.rest.1 c.in-Some.ensures.gone c.in-Some.marked.first c.in_ok-at-in-Some.at c.in-Some.ensures.some c.in-Some.ensures.before
    c.in_ok-at-in-Some.ensures.past in
    omega (arith, fits, more, c.requires.inside)

pub overflow_sub-gap : goal.overflow_sub-gap
overflow_sub-gap g c =
    let text = g.T.TextView.text_of c.args.before.now.view.now in
    let pieces = g.T.TextView.pieces_of c.args.before.now.view.now in
    let before : List Line = layout text pieces c.args.before.now.sel.now.regions (runs_in c.args.before.now.results.now) c.args.before.now.layers.now in
    let after : List Line = layout (g.T.TextView.text_of c.args.after.now.view.now) (g.T.TextView.pieces_of c.args.after.now.view.now) c.args.after.now.sel.now.regions
    (runs_in c.args.after.now.results.now) c.args.after.now.layers.now in
    let old = c.args.part.old in
    let new = c.args.part.new in
    let n = c.args.part.n in
    let are = c.lines-lines.ensures.sound in
    mark-before text pieces before after are c.args.marks.now old new n (start_of pieces old) c.loop-at.at c.loop-at.gap c.loop-at.walk c.args.stays.now c.loop-at.stays
    c.requires.inside c.requires.whole.0 refl c.requires.whole.1 c.requires.count c.requires.plain c.loop-at.invariant c.loop-at-test.true c.in-Some.marked.gap
    c.in-Some.ensures.rest.0 c.in-Some.ensures.rest.1 c.in-Some.ensures.gone c.in-Some.marked.first c.in_ok-at-in-Some.at c.in-Some.ensures.some c.in-Some.ensures.before
    c.in_ok-at-in-Some.ensures.past c.piece_at-gap-in-Some.result (sym c.piece_at-gap-in-Some.ensures)

pub skip-requires : goal.skip-requires
skip-requires g c =
    let text = g.T.TextView.text_of c.args.before.now.view.now in
    let pieces = g.T.TextView.pieces_of c.args.before.now.view.now in
    let before : List Line = layout text pieces c.args.before.now.sel.now.regions (runs_in c.args.before.now.results.now) c.args.before.now.layers.now in
    let after : List Line = layout (g.T.TextView.text_of c.args.after.now.view.now) (g.T.TextView.pieces_of c.args.after.now.view.now) c.args.after.now.sel.now.regions
    (runs_in c.args.after.now.results.now) c.args.after.now.layers.now in
    let old = c.args.part.old in
    let new = c.args.part.new in
    let n = c.args.part.n in
    let are = c.lines-lines.ensures.sound in
    walk-reaches text pieces before after are c.args.marks.now old new n (start_of pieces old) c.loop-at.at c.loop-at.gap c.loop-at.walk c.args.stays.now c.loop-at.stays
    c.requires.inside c.requires.whole.0 refl c.requires.whole.1 c.requires.count c.requires.plain c.loop-at.invariant c.loop-at-test.true c.in-Some.marked.gap
    c.in-Some.ensures.rest.0 c.in-Some.ensures.rest.1 c.in-Some.ensures.gone c.in-Some.marked.first c.in_ok-at-in-Some.at c.in-Some.ensures.some c.in-Some.ensures.before
    c.in_ok-at-in-Some.ensures.past c.piece_at-gap-in-Some.result _ (sym c.piece_at-gap-in-Some.ensures) c.in-Some.ensures.rest.2

pub loop-at-preserved : goal.loop-at-preserved
loop-at-preserved g c =
    let text = g.T.TextView.text_of c.args.before.now.view.now in
    let pieces = g.T.TextView.pieces_of c.args.before.now.view.now in
    let before : List Line = layout text pieces c.args.before.now.sel.now.regions (runs_in c.args.before.now.results.now) c.args.before.now.layers.now in
    let after : List Line = layout (g.T.TextView.text_of c.args.after.now.view.now) (g.T.TextView.pieces_of c.args.after.now.view.now) c.args.after.now.sel.now.regions
    (runs_in c.args.after.now.results.now) c.args.after.now.layers.now in
    let old = c.args.part.old in
    let new = c.args.part.new in
    let n = c.args.part.n in
    let are = c.lines-lines.ensures.sound in
    marked-more text pieces before after are c.args.marks.now old new n (start_of pieces old) c.loop-at.at c.loop-at.gap c.loop-at.walk c.args.stays.now c.loop-at.stays
    c.requires.inside c.requires.whole.0 refl c.requires.whole.1 c.requires.count c.requires.plain c.loop-at.invariant c.loop-at-test.true c.in-Some.marked.gap
    c.in-Some.ensures.rest.0 c.in-Some.ensures.rest.1 c.in-Some.ensures.gone c.in-Some.marked.first c.in_ok-at-in-Some.at c.in-Some.ensures.some c.in-Some.ensures.before
    c.in_ok-at-in-Some.ensures.past c.piece_at-gap-in-Some.result _ _ _ _ (sym c.piece_at-gap-in-Some.ensures) c.in-Some.ensures.rest.2 c.skip.ensures
    (λ had partner partners settled.
    c.in_ok-put_same-in-Some.ensures had partner (is_same_logical text pieces before after old new)
    (λ k less. partners k (omega (arith, less, c.in-Some.ensures.before)))
    (before-same text pieces before after are c.args.marks.now old new n (start_of pieces old) c.loop-at.at c.loop-at.gap c.loop-at.walk c.args.stays.now c.loop-at.stays
    c.requires.inside c.requires.whole.0 refl c.requires.whole.1 c.requires.count c.requires.plain c.loop-at.invariant c.loop-at-test.true c.in-Some.marked.gap
    c.in-Some.ensures.rest.0 c.in-Some.ensures.rest.1 c.in-Some.ensures.gone c.in-Some.marked.first c.in_ok-at-in-Some.at c.in-Some.ensures.some c.in-Some.ensures.before
    c.in_ok-at-in-Some.ensures.past) settled)
    c.in_ok-at-in-Some.ensures.settled

pub loop-at-smaller : goal.loop-at-smaller
loop-at-smaller g c =
    let text = g.T.TextView.text_of c.args.before.now.view.now in
    let pieces = g.T.TextView.pieces_of c.args.before.now.view.now in
    let before : List Line = layout text pieces c.args.before.now.sel.now.regions (runs_in c.args.before.now.results.now) c.args.before.now.layers.now in
    let after : List Line = layout (g.T.TextView.text_of c.args.after.now.view.now) (g.T.TextView.pieces_of c.args.after.now.view.now) c.args.after.now.sel.now.regions
    (runs_in c.args.after.now.results.now) c.args.after.now.layers.now in
    let old = c.args.part.old in
    let new = c.args.part.new in
    let n = c.args.part.n in
    let are = c.lines-lines.ensures.sound in
    let low = marked-low text pieces before after are c.args.marks.now old new n (start_of pieces old) c.loop-at.at c.loop-at.gap c.loop-at.walk c.args.stays.now c.loop-at.stays
    c.requires.inside c.requires.whole.0 refl c.requires.whole.1 c.requires.count c.requires.plain c.loop-at.invariant c.loop-at-test.true c.in-Some.marked.gap
    c.in-Some.ensures.rest.0 c.in-Some.ensures.rest.1 c.in-Some.ensures.gone c.in-Some.marked.first c.in_ok-at-in-Some.at c.in-Some.ensures.some c.in-Some.ensures.before
    c.in_ok-at-in-Some.ensures.past in
    let more = past-more text pieces before after are c.args.marks.now old new n (start_of pieces old) c.loop-at.at c.loop-at.gap c.loop-at.walk c.args.stays.now c.loop-at.stays
    c.requires.inside c.requires.whole.0 refl c.requires.whole.1 c.requires.count c.requires.plain c.loop-at.invariant c.loop-at-test.true c.in-Some.marked.gap
    c.in-Some.ensures.rest.0 c.in-Some.ensures.rest.1 c.in-Some.ensures.gone c.in-Some.marked.first c.in_ok-at-in-Some.at c.in-Some.ensures.some c.in-Some.ensures.before
    c.in_ok-at-in-Some.ensures.past in
    omega (arith, low, more, c.loop-at-test.true)

pub returns-in-None : goal.returns-in-None
returns-in-None g c = λ had partner partners settled.
    let text = g.T.TextView.text_of c.args.before.now.view.now in
    let pieces = g.T.TextView.pieces_of c.args.before.now.view.now in
    let before : List Line = layout text pieces c.args.before.now.sel.now.regions (runs_in c.args.before.now.results.now) c.args.before.now.layers.now in
    let after : List Line = layout (g.T.TextView.text_of c.args.after.now.view.now) (g.T.TextView.pieces_of c.args.after.now.view.now) c.args.after.now.sel.now.regions
    (runs_in c.args.after.now.results.now) c.args.after.now.layers.now in
    let old = c.args.part.old in
    let new = c.args.part.new in
    let n = c.args.part.n in
    let are = c.lines-lines.ensures.sound in
    let same = rest-same text pieces before after are c.args.marks.now old new n (start_of pieces old) c.loop-at.at c.loop-at.gap c.loop-at.walk c.args.stays.now c.loop-at.stays
    c.requires.inside c.requires.whole.0 refl c.requires.whole.1 c.requires.count c.requires.plain c.loop-at.invariant c.loop-at-test.true c.in-None.ensures.none in
    let all : new + (old + n - old) ≡ new + n = omega arith in
    settled-at had partner _ (old + n) (new + (old + n - old)) (old + n) (new + n) refl all
    (c.in_ok-put_same-in-None.ensures had partner (is_same_logical text pieces before after old new) (λ k less. partners k (omega (arith, less))) same
    (c.loop-at.invariant.settled had partner partners settled))

pub returns : goal.returns
returns g c = λ had partner partners settled.
    let text = g.T.TextView.text_of c.args.before.now.view.now in
    let pieces = g.T.TextView.pieces_of c.args.before.now.view.now in
    let before : List Line = layout text pieces c.args.before.now.sel.now.regions (runs_in c.args.before.now.results.now) c.args.before.now.layers.now in
    let after : List Line = layout (g.T.TextView.text_of c.args.after.now.view.now) (g.T.TextView.pieces_of c.args.after.now.view.now) c.args.after.now.sel.now.regions
    (runs_in c.args.after.now.results.now) c.args.after.now.layers.now in
    let old = c.args.part.old in
    let new = c.args.part.new in
    let n = c.args.part.n in
    let are = c.lines-lines.ensures.sound in
    let done : c.loop-at.at ≡ old + n = omega (arith, c.loop-at.invariant.high, c.loop-at-test.false) in
    settled-at had partner c.loop-at.stays _ _ _ _ done (omega (arith, done)) (c.loop-at.invariant.settled had partner partners settled)
