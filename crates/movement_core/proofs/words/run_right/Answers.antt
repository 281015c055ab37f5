use Rattle.std.proofs.Common.{◌≡◌, ◌+◌, ◌≤◌, ℕ, List, ap, arith, length, ◌∙◌}
use Rattle.std.specs.Prelude.{slice_range}
use Rattle.movement_core.specs.Words.{run_len}
use Rattle.movement_core.proofs.WordLemmas.{run-ahead-all, run-ahead-part}
use Rattle.movement_core.proofs.words.run_right.Goals as goal

pub returns-then-found-len : goal.returns-then-found-len
returns-then-found-len g c =
    let text = g.T.TextView.text_of c.args.view.now in
    let inv = c.loop-part.invariant in
    let inside : c.args.gap + c.loop-part.len ≤ length text = omega (arith, inv.inside, inv.room) in
    let same : c.run_ahead-found.result ≡ run_len (slice_range text c.args.gap (c.args.gap + c.loop-part.len)) =
    c.run_ahead-found.ensures ∙ ap (λ (cs : List ℕ). run_len cs) (c.as_str.ensures.characters ∙ c.in_ok-part.ensures) in
    same ∙ run-ahead-part text c.args.gap c.loop-part.len inside (omega (arith, same, c.if-found-len.true))

pub returns-then-len-room : goal.returns-then-len-room
returns-then-len-room g c =
    let text = g.T.TextView.text_of c.args.view.now in
    let inv = c.loop-part.invariant in
    let inside : c.args.gap + c.loop-part.len ≤ length text = omega (arith, inv.inside, inv.room) in
    let same : c.run_ahead-found.result ≡ run_len (slice_range text c.args.gap (c.args.gap + c.loop-part.len)) =
    c.run_ahead-found.ensures ∙ ap (λ (cs : List ℕ). run_len cs) (c.as_str.ensures.characters ∙ c.in_ok-part.ensures) in
    same ∙ run-ahead-all text c.args.gap c.loop-part.len inside (omega (arith, inv.room, c.if-len-room.true))
