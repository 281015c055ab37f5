use Rattle.std.proofs.Common.{◌≡◌, ap, arith, ◌∙◌}
use Rattle.match_index.specs.declared.search.Walked.{Walked}
use Rattle.match_index.specs.Found.{Found}
use Rattle.match_index.proofs.MatchLemmas.{not-empty}
use Rattle.match_index.proofs.WindowLemmas.{has-walked}
use Rattle.match_index.proofs.search.Search.all.Goals as goal

pub returns : goal.returns
returns c =
    let own : Found = record { text = c.self.inside.rope.now; chars = c.self.inside.chars.now; fold = c.self.inside.fold } in
    let walked = c.go_on.new.walked in
    let reached = c.in_ok-go_on.ensures.reached in
    let from : walked.from ≡ 0 = c.in_ok-go_on.ensures.same.0 ∙ ap (λ (w : Walked). w.from) c.new-walked.ensures in
    let start : walked.start ≡ 0 = c.in_ok-go_on.ensures.same.1 ∙ ap (λ (w : Walked). w.start) c.new-walked.ensures in
    let is = rw (← c.self.view_is) at c.in_ok-go_on.ensures.walked in
    let some = not-empty c.self.inside.chars.now c.is_empty.result c.is_empty.ensures.1 c.if-is_empty.false in
    rw (← c.self.view_is) (has-walked own walked is from start some (omega (arith, reached, c.len.ensures.count)))
