use Rattle.std.proofs.Common.{rules, ◌≡◌, get_or, not, true, false, sym, ◌∙◌, subst, arith}
use Rattle.plugin_crew.specs.Standing.{is_served}
use Rattle.plugin_crew.proofs.MemberLemmas.{served_step, served_stop}
use Rattle.plugin_crew.proofs.crew.Crew.all_served.Goals as goal

pub loop-member-preserved : goal.loop-member-preserved
loop-member-preserved g c =
    let items = c.args.self.now.members.items in
    let at = c.loop-member.member-index in
    let item = c.member-item.result in
    let here : item ≡ get_or items at item = search rules in
    served_step items at item (omega (arith, c.loop-member-test.true))
    (subst (λ m. not (is_served m.standing) ≡ false) here (sym c.is_short.ensures ∙ c.if-is_short.false)) ∙ c.loop-member.invariant

pub returns-then-is_short : goal.returns-then-is_short
returns-then-is_short g c =
    let items = c.args.self.now.members.items in
    let at = c.loop-member.member-index in
    let item = c.member-item.result in
    let here : item ≡ get_or items at item = search rules in
    sym (served_stop items at item (omega (arith, c.loop-member-test.true))
    (subst (λ m. not (is_served m.standing) ≡ true) here (sym c.is_short.ensures ∙ c.if-is_short.true))) ∙ c.loop-member.invariant
