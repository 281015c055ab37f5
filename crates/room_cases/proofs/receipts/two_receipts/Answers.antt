use Rattle.std.proofs.Common.{rules, ◌≡◌, [], ◌∷◌, ◌++◌, ap, ◌∙◌, subst}
use Rattle.std.specs.List.{AllByRecursion}
use Rattle.room_lock.specs.Room.{Known, IsKnownOf}
use Rattle.room_cases.proofs.Told.{stands}
use Rattle.room_cases.proofs.receipts.two_receipts.Goals as goal

pub returns : goal.returns
returns g c =
    let journal = c.close-tally.result.entries.items in
    let front = c.both_ask-front.result.0.0 in
    let a = c.both_ask-front.result.1.0 in
    let none : c.in_ok-passes.passes.items ≡ [] = search rules in
    let items = c.push_reserved-2.ensures.items ∙ ap (λ l. l ++ a ∷ []) (c.push_reserved.ensures.items ∙ ap (λ l. l ++ front ∷ []) none) in
    let known = subst (λ l. AllByRecursion (IsKnownOf journal) l) items c.close-tally.ensures.known in
    let made = c.in-Ok.ensures.pass in
    let first = ap (λ (p : Known). p.caller) c.split-a.ensures.same ∙ ap (λ (p : Known). p.caller) made in
    let second = ap (λ (p : Known). p.caller) c.split-a.ensures.next ∙ ap (λ (p : Known). p.made) made in (
      stands journal 0 c.both_ask-front.result.0.1 _ front first c.both_ask-front.ensures.0 known.0,
      stands journal 1 c.both_ask-front.result.1.1 _ a second c.both_ask-front.ensures.1 known.1.0,
    )
