use Rattle.std.proofs.Common.{None, ap, arith, ◌∙◌}
use Rattle.movement_core.specs.Nearby.{first_apart}
use Rattle.movement_core.proofs.ApartLemmas.{StartsBy-found, part-found}
use Rattle.movement_core.proofs.nearby.start_by.Goals as goal

pub overflow_add-result : goal.overflow_add-result
overflow_add-result g c =
    let low = c.loop-part.invariant.low in
    let high = c.loop-part.invariant.high in
    let inside = c.requires.inside in
    let less =
    part-found (g.T.TextView.text_of c.args.view.now) c.max-low.result c.loop-part.high c.in-Some.at c.in_ok-part.part
    (omega (arith, c.max-low.ensures, c.saturating_sub.ensures)) (omega arith) c.in_ok-part.ensures
    (c.in-Some.ensures ∙ ap (first_apart None 0) c.as_str.ensures.characters) in omega arith

pub returns-in-Some : goal.returns-in-Some
returns-in-Some g c =
    let low = c.loop-part.invariant.low in
    let high = c.loop-part.invariant.high in
    let inside = c.requires.inside in
    StartsBy-found (g.T.TextView.text_of c.args.view.now) c.max-low.result c.loop-part.high c.in-Some.at c.in_ok-part.part
    (omega (arith, c.max-low.ensures, c.saturating_sub.ensures)) (omega arith) c.in_ok-part.ensures
    (c.in-Some.ensures ∙ ap (first_apart None 0) c.as_str.ensures.characters) c.args.start c.args.gap (omega (arith, c.max-low.ensures)) high
