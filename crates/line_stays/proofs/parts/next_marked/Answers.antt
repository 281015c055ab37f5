use Rattle.std.proofs.Common.{◌≡◌, ℕ, ◌+◌, ◌-◌, drop, ap, sym, ◌∙◌, arith}
use Rattle.std.proofs.lemmas.Bool.{false≢true}
use Rattle.line_stays.specs.Edges.{first_piece}
use Rattle.line_stays.proofs.WholeLemmas.{marks-gone, walk-done, walk-more}
use Rattle.line_stays.proofs.parts.next_marked.Goals as goal

pub returns-then-is_empty-clause-none : goal.returns-then-is_empty-clause-none
returns-then-is_empty-clause-none g c = λ k less below.
    let done = walk-done c.args.walk.now _ c.to_mark-n.result c.to_mark-n.ensures.rest (c.is_empty.ensures.0 c.if-is_empty.true) in
    c.to_mark-n.ensures.gone k (omega (arith, less, done))

pub returns-then-first-end-clause-some : goal.returns-then-first-end-clause-some
returns-then-first-end-clause-some g c =
    c.first_piece-first.ensures ∙ ap (first_piece (g.T.TextView.text_of c.args.view.now) (g.T.TextView.pieces_of c.args.view.now)) c.line_of.ensures.line

pub returns-then-first-end-clause-gone : goal.returns-then-first-end-clause-gone
returns-then-first-end-clause-gone g c = λ k less. c.to_mark-n.ensures.gone k (omega (arith, less))

pub returns-then-first-end-clause-rest : goal.returns-then-first-end-clause-rest
returns-then-first-end-clause-rest g c =
    let more = walk-more c.args.walk.now _ c.to_mark-n.result c.to_mark-n.ensures.rest
    (λ none. false≢true (sym c.if-is_empty.false ∙ c.is_empty.ensures.1 none)) in
    let on : c.to_mark-n.result ≡ c.args.from + c.to_mark-n.result - c.args.from = omega arith in
    (omega arith, omega (arith, more), c.to_mark-n.ensures.rest ∙ ap (λ (k : ℕ). drop k c.args.walk.now) on)

pub returns-else-first-end-clause-none : goal.returns-else-first-end-clause-none
returns-else-first-end-clause-none g c = λ k less below.
    let at = c.first_piece-first.ensures ∙ ap (first_piece (g.T.TextView.text_of c.args.view.now) (g.T.TextView.pieces_of c.args.view.now)) c.line_of.ensures.line in
    marks-gone (g.T.TextView.text_of c.args.view.now) (g.T.TextView.pieces_of c.args.view.now) c.line_of.ensures.sound c.args.walk.now c.args.from c.to_mark-n.result c.args.end
    c.to_mark-n.ensures.gone (omega (arith, at, c.if-first-end.false)) k below
