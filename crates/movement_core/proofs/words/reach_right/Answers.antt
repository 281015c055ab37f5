use Rattle.std.proofs.Common.{◌≡◌, ◌+◌, ◌≤◌, ℕ, List, ap, arith, length, ◌∙◌}
use Rattle.std.specs.Prelude.{slice_range}
use Rattle.movement_core.specs.Words.{word_len}
use Rattle.movement_core.proofs.WordLemmas.{ahead-all, ahead-long, ahead-part, word_len-le}
use Rattle.movement_core.proofs.words.reach_right.Goals as goal

pub returns-then-found-len : goal.returns-then-found-len
returns-then-found-len g c =
    let text = g.T.TextView.text_of c.args.view.now in
    let inv = c.loop-part.invariant in
    let inside : c.args.gap + c.loop-part.len ≤ length text = omega (arith, inv.inside, inv.room) in
    let same : c.reach-found.result ≡ word_len (slice_range text c.args.gap (c.args.gap + c.loop-part.len)) =
    c.reach-found.ensures ∙ ap (λ (cs : List ℕ). word_len cs) (c.as_str.ensures.characters ∙ c.in_ok-part.ensures) in
    ap (λ (n : ℕ). c.args.gap + n) (same ∙ ahead-part text c.args.gap c.loop-part.len inside (omega (arith, same, c.if-found-len.true)))

pub returns-then-len-room : goal.returns-then-len-room
returns-then-len-room g c =
    let text = g.T.TextView.text_of c.args.view.now in
    let inv = c.loop-part.invariant in
    let inside : c.args.gap + c.loop-part.len ≤ length text = omega (arith, inv.inside, inv.room) in
    let same : c.reach-found.result ≡ word_len (slice_range text c.args.gap (c.args.gap + c.loop-part.len)) =
    c.reach-found.ensures ∙ ap (λ (cs : List ℕ). word_len cs) (c.as_str.ensures.characters ∙ c.in_ok-part.ensures) in
    ap (λ (n : ℕ). c.args.gap + n) (same ∙ ahead-all text c.args.gap c.loop-part.len inside (omega (arith, inv.room, c.if-len-room.true)))

pub overflow_add-result-then-len-room : goal.overflow_add-result-then-len-room
overflow_add-result-then-len-room g c =
    let text = g.T.TextView.text_of c.args.view.now in
    let inv = c.loop-part.invariant in
    let inside : c.args.gap + c.loop-part.len ≤ length text = omega (arith, inv.inside, inv.room) in
    let same : c.reach-found.result ≡ word_len (slice_range text c.args.gap (c.args.gap + c.loop-part.len)) =
    c.reach-found.ensures ∙ ap (λ (cs : List ℕ). word_len cs) (c.as_str.ensures.characters ∙ c.in_ok-part.ensures) in
    omega
    (arith, inv.inside, inv.bound, same, word_len-le (slice_range text c.args.gap (c.args.gap + c.loop-part.len)), ahead-long text c.args.gap c.loop-part.len inside)
