use Rattle.std.proofs.Common.{◌<◌, ◌^◌, length, sym, subst, arith}
use Rattle.std.specs.Prelude.{IfOk}
use Rattle.std.proofs.lemmas.List.{length-map}
use Rattle.plain_text.specs.Lines.{logical_lines}
use Rattle.doc_layout.specs.Layout.{layout_line}
use Rattle.doc_view.specs.Search.{results}
use Rattle.doc_view.specs.View.{View, pieces_in}
use Rattle.doc_session.specs.declared.event.Body.TheVariants.{Lines}
use Rattle.doc_session.specs.Inner.{IsStepped}
use Rattle.doc_session.specs.InMemory.{Doc}
use Rattle.doc_session.specs.Stands.{DocStandsFor}
use Rattle.doc_session.specs.Step.{answered_step}
use Rattle.doc_session.proofs.PieceLemmas.{lines-within}
use Rattle.doc_session.proofs.doc.Doc.count.Goals as goal

pub line_count-lines-requires : goal.line_count-lines-requires
line_count-lines-requires c =
    let view : View = c.self.inside.view in
    let layout_is = length-map (pieces_in view) (layout_line view.text view.regions (results view.text view.query) view.layers) in
    let few = lines-within view.config.width view.config.tab view.text in
    subst (λ text. length (logical_lines text) < 2 ^ 64) c.self.invariant.shown_is
    (omega (arith, few, layout_is, c.lines-layout.ensures, c.lines-layout.type_inv))

pub returns-clause-stepped : goal.returns-clause-stepped
returns-clause-stepped c = λ plain stands.
    let was = subst (λ (d : Doc). DocStandsFor d plain) (sym c.self.view_is) stands in
    subst (λ lines. IfOk c.answered.result (IsStepped (answered_step plain (Lines lines)))) (c.line_count-lines.ensures plain.text was.text)
    (c.answered.ensures.stepped plain stands)
