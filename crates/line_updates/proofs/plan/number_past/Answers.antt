use Rattle.std.proofs.Common.{ap, sym, ◌∙◌, arith}
use Rattle.plain_screen.specs.View.{layout_line_of}
use Rattle.doc_layout.proofs.ForCallers.{slice-there}
use Rattle.line_updates.proofs.NumberLemmas.{number-later, number-next}
use Rattle.line_updates.proofs.plan.number_past.Goals as goal

pub overflow_add-at : goal.overflow_add-at
overflow_add-at g c = omega (arith, c.requires.inside, c.lines-count.ensures.count, c.lines-count.type_inv)

pub unreachable-requires : goal.unreachable-requires
unreachable-requires g c =
    slice-there (g.T.TextView.pieces_of c.args.view.now) c.line_of-next.result (omega (arith, c.if-next-at.true, c.requires.inside)) (sym c.line.ensures ∙ c.in-None.is)

pub returns-in-Some : goal.returns-in-Some
returns-in-Some g c =
    sym (number-next (g.T.TextView.text_of c.args.view.now) (g.T.TextView.pieces_of c.args.view.now) c.args.at c.args.n c.line_of-next.result c.line_of-next.ensures.sound
    c.requires.some c.requires.inside c.requires.none
    (c.line_of-next.ensures.line ∙ ap (λ run. layout_line_of (g.T.TextView.pieces_of c.args.view.now) run.end) c.logical_of.ensures) c.in-Some.piece c.if-next-at.true
    (sym c.line.ensures ∙ c.in-Some.is))

pub returns-else-next-at : goal.returns-else-next-at
returns-else-next-at g c =
    sym (number-later (g.T.TextView.text_of c.args.view.now) (g.T.TextView.pieces_of c.args.view.now) c.args.at c.args.n c.line_of-next.result c.line_of-next.ensures.sound
    c.requires.some c.requires.inside c.requires.none
    (c.line_of-next.ensures.line ∙ ap (λ run. layout_line_of (g.T.TextView.pieces_of c.args.view.now) run.end) c.logical_of.ensures)
    (omega (arith, c.if-next-at.false)))
