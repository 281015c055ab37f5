use Rattle.std.proofs.Common.{◌≡◌, ◌+◌, ◌-◌, ◌≤◌, ℕ, arith, ap, ap₂, length, take, drop, reverse, ◌∙◌}
use Rattle.std.specs.Prelude.{min, true}
use Rattle.selection_core.specs.Selection.{spanning}
use Rattle.movement_core.specs.Words.{run_len}
use Rattle.edit_ops.proofs.PointLemmas.{run_left-le, run_right-le, word-inside, word_around-is}
use Rattle.edit_ops.proofs.points.word_at.Goals as goal

pub run_left-requires : goal.run_left-requires
run_left-requires g c = omega (arith, c.end_at-up_to.ensures, c.text_end.ensures)

pub run_right-requires : goal.run_right-requires
run_right-requires g c = omega (arith, c.end_at-up_to.ensures, c.text_end.ensures)

pub overflow_sub-result : goal.overflow_sub-result
overflow_sub-result g c =
    let inside : c.end_at-up_to.result ≤ length (g.T.TextView.text_of c.args.view.now) = omega (arith, c.end_at-up_to.ensures, c.text_end.ensures) in
    omega (arith, c.in_ok-before.ensures, run_left-le (g.T.TextView.text_of c.args.view.now) c.end_at-up_to.result inside)

pub overflow_add-result : goal.overflow_add-result
overflow_add-result g c =
    let index = c.saturating_sub-index.ensures in
    let inside : c.end_at-up_to.result - 1 ≤ length (g.T.TextView.text_of c.args.view.now) = omega (arith, c.end_at-up_to.ensures, c.text_end.ensures) in
    let bound = c.text_end.type_inv in
    omega (arith, c.in_ok-after.ensures, c.text_end.ensures, ap (λ (n : ℕ). n + run_len (drop n (g.T.TextView.text_of c.args.view.now))) index, run_right-le (g.T.TextView.text_of c.args.view.now) (c.end_at-up_to.result - 1) inside)

pub returns-clause-value : goal.returns-clause-value
returns-clause-value g c =
    let text = g.T.TextView.text_of c.args.view.now in
    let up_to : c.end_at-up_to.result ≡ _ = c.end_at-up_to.ensures ∙ ap (λ (n : ℕ). min (c.args.gap + 1) n) c.text_end.ensures in
    ap₂ (λ (before after : ℕ). spanning true (c.end_at-up_to.result - before) (c.saturating_sub-index.result + after)) c.in_ok-before.ensures c.in_ok-after.ensures ∙
    ap (λ (n : ℕ). spanning true (c.end_at-up_to.result - run_len (reverse (take c.end_at-up_to.result text))) (n + run_len (drop n text))) c.saturating_sub-index.ensures ∙
    word_around-is text c.args.gap c.end_at-up_to.result up_to

pub returns-clause-inside : goal.returns-clause-inside
returns-clause-inside g c =
    let text = g.T.TextView.text_of c.args.view.now in
    let inside : c.end_at-up_to.result ≤ length text = omega (arith, c.end_at-up_to.ensures, c.text_end.ensures) in
    let word = word-inside text c.end_at-up_to.result inside in
    let index = ap (λ (n : ℕ). n + run_len (drop n text)) c.saturating_sub-index.ensures in omega (arith, c.in_ok-before.ensures, c.in_ok-after.ensures)
