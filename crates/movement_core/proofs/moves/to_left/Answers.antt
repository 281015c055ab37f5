use Rattle.std.proofs.Common.{◌≡◌, ℕ, arith, subst, sym, ◌∙◌}
use Rattle.std.specs.Prelude.{IfOk}
use Rattle.selection_core.specs.Selection.{lesser_end}
use Rattle.movement_core.specs.Inner.{moves_caret}
use Rattle.movement_core.specs.Places.{left_of}
use Rattle.movement_core.proofs.MoveLemmas.{if-no, if-yes}
use Rattle.movement_core.proofs.moves.to_left.Goals as goal

pub left_of-requires-clause-inside : goal.left_of-requires-clause-inside
left_of-requires-clause-inside g c = let le = c.requires.inside in omega arith

pub returns-then-moves_caret : goal.returns-then-moves_caret
returns-then-moves_caret g c =
    let text = g.T.TextView.text_of c.args.view.now in
    let region = c.args.region in
    subst (λ (wanted : ℕ). IfOk c.left_of.result (λ gap. gap ≡ wanted))
    (if-yes (moves_caret c.args.extend region) (left_of text region.caret) (lesser_end region) (sym c.moves_caret.ensures ∙ c.if-moves_caret.true))
    c.left_of.ensures

pub returns : goal.returns
returns g c =
    let text = g.T.TextView.text_of c.args.view.now in
    let region = c.args.region in
    c.lesser.ensures ∙
    if-no (moves_caret c.args.extend region) (left_of text region.caret) (lesser_end region) (sym c.moves_caret.ensures ∙ c.if-moves_caret.false)
