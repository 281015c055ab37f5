use Rattle.std.proofs.Common.{None, ◌+◌, ap, arith, ◌∙◌}
use Rattle.movement_core.specs.Nearby.{first_apart}
use Rattle.movement_core.proofs.ApartLemmas.{EndsPast-found, part-found}
use Rattle.movement_core.proofs.nearby.end_past.Goals as goal

pub overflow_add-result : goal.overflow_add-result
overflow_add-result g c =
    let low = c.loop-part.invariant.low in
    let high = c.loop-part.invariant.high in
    let inside = c.requires.inside in
    let less =
    part-found (g.T.TextView.text_of c.args.view.now) c.loop-part.low (c.loop-part.low + c.min.result) c.in-Some.at c.in_ok-part.part
    (omega arith) (omega (arith, c.min.ensures)) c.in_ok-part.ensures
    (c.in-Some.ensures ∙ ap (first_apart None 0) c.as_str.ensures.characters) in omega (arith, c.min.ensures)

pub returns-in-Some : goal.returns-in-Some
returns-in-Some g c =
    let low = c.loop-part.invariant.low in
    let high = c.loop-part.invariant.high in
    let inside = c.requires.inside in
    EndsPast-found (g.T.TextView.text_of c.args.view.now) c.loop-part.low (c.loop-part.low + c.min.result) c.in-Some.at c.in_ok-part.part
    (omega arith) (omega (arith, c.min.ensures)) c.in_ok-part.ensures
    (c.in-Some.ensures ∙ ap (first_apart None 0) c.as_str.ensures.characters) c.args.gap c.args.end low (omega (arith, c.min.ensures))
