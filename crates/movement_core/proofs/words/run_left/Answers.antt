use Rattle.std.proofs.Common.{◌≡◌, ◌-◌, ℕ, List, ap, arith, reverse, ◌∙◌}
use Rattle.std.specs.Prelude.{slice_range}
use Rattle.movement_core.specs.Words.{run_len}
use Rattle.movement_core.proofs.WordLemmas.{run-behind-all, run-behind-part}
use Rattle.movement_core.proofs.words.run_left.Goals as goal

pub returns-then-found-len : goal.returns-then-found-len
returns-then-found-len g c =
    let text = g.T.TextView.text_of c.args.view.now in
    let same : c.run_back-found.result ≡ run_len (reverse (slice_range text (c.args.gap - c.loop-part.len) c.args.gap)) =
    c.run_back-found.ensures ∙ ap (λ (cs : List ℕ). run_len (reverse cs)) (c.as_str.ensures.characters ∙ c.in_ok-part.ensures) in
    same ∙ run-behind-part text c.args.gap c.loop-part.len c.loop-part.invariant.inside c.requires (omega (arith, same, c.if-found-len.true))

pub returns-then-len-gap : goal.returns-then-len-gap
returns-then-len-gap g c =
    let text = g.T.TextView.text_of c.args.view.now in
    let same : c.run_back-found.result ≡ run_len (reverse (slice_range text (c.args.gap - c.loop-part.len) c.args.gap)) =
    c.run_back-found.ensures ∙ ap (λ (cs : List ℕ). run_len (reverse cs)) (c.as_str.ensures.characters ∙ c.in_ok-part.ensures) in
    same ∙ run-behind-all text c.args.gap c.loop-part.len c.loop-part.invariant.inside c.requires c.if-len-gap.true
