use Rattle.std.proofs.Common.{◌≡◌, ℕ, arith, drop, length-drop, subst}
use Rattle.std.specs.Prelude.{IfOk}
use Rattle.movement_core.specs.Places.{outward_right}
use Rattle.movement_core.proofs.WordLemmas.{word_len-le}
use Rattle.movement_core.proofs.words.word_right.Goals as goal

pub outward_right-requires-clause-inside : goal.outward_right-requires-clause-inside
outward_right-requires-clause-inside g c =
    let text = g.T.TextView.text_of c.args.view.now in
    let inside = c.requires.inside in
    omega (arith, c.in_ok-to.ensures, word_len-le (drop c.args.gap text), length-drop c.args.gap text)

pub returns : goal.returns
returns g c =
    let text = g.T.TextView.text_of c.args.view.now in
    subst (λ (n : ℕ). IfOk c.outward_right.result (λ place. place ≡ outward_right text n)) c.in_ok-to.ensures c.outward_right.ensures
