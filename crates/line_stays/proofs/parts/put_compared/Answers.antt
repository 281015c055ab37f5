use Rattle.std.proofs.Common.{◌≡◌, ◌<◌, ◌≤◌, List, length, ap₂, sym, ◌∙◌, arith}
use Rattle.match_index.specs.Found.{runs_in}
use Rattle.plain_screen.specs.declared.screen.Line.{Line}
use Rattle.doc_layout.specs.Layout.{layout}
use Rattle.line_stays.specs.Edges.{first_piece, past_piece}
use Rattle.line_stays.specs.Inner.{are_same_lines}
use Rattle.line_stays.proofs.SettledLemmas.{stays-said}
use Rattle.line_stays.proofs.WholeLemmas.{first-same, own-at, past-same}
use Rattle.line_stays.proofs.parts.put_compared.Goals as goal

pub returns-clause-settled : goal.returns-clause-settled
returns-clause-settled g c = λ had partner partners so_far.
    let text = g.T.TextView.text_of c.args.before.now.view.now in
    let pieces = g.T.TextView.pieces_of c.args.before.now.view.now in
    let before : List Line = layout text pieces c.args.before.now.sel.now.regions (runs_in c.args.before.now.results.now) c.args.before.now.layers.now in
    let after : List Line = layout (g.T.TextView.text_of c.args.after.now.view.now) (g.T.TextView.pieces_of c.args.after.now.view.now) c.args.after.now.sel.now.regions
    (runs_in c.args.after.now.results.now) c.args.after.now.layers.now in
    let are = c.lines-lines.ensures.sound in
    let first = c.args.first in
    let past = c.past_piece-past.result in
    let is : past ≡ past_piece pieces first = c.past_piece-past.ensures in
    let there : first < length pieces = omega (arith, c.requires.high, c.requires.inside) in
    let own = own-at text pieces are first there in
    let old = c.args.part.old in
    let new = c.args.part.new in
    stays-said had partner _ old new c.args.part.n first past c.in_ok-same.same c.args.stays.now _ c.stay_in.result c.stay_in.ensures c.in_ok-push.ensures.pushed
    c.requires.low (omega (arith, own.high, is)) (omega (arith, is, (c.requires.whole first c.requires.low c.requires.high).1)) partners
    (λ x low high.
    let from : first_piece text pieces first ≤ x = omega (arith, low, c.requires.begins) in
    let below : x < past_piece pieces first = omega (arith, high, is) in
    ap₂ (are_same_lines before after old new) (first-same text pieces are first x there from below ∙ c.requires.begins)
    (past-same text pieces are first x there from below ∙ sym is) ∙
    sym c.in_ok-same.ensures)
    so_far
