use Rattle.std.proofs.Common.{◌≡◌, ◌+◌, [], ◌∷◌, ◌++◌, length, refl, ap, sym, ◌∙◌, subst, arith}
use Rattle.std.proofs.lemmas.List.{append_assoc}
use Rattle.plugin_crew.specs.Member.{AreNew, IsNew}
use Rattle.plugin_crew.proofs.MemberLemmas.{new_snoc}
use Rattle.plugin_crew.proofs.crew.Crew.of.Goals as goal

pub loop-plugin-preserved : goal.loop-plugin-preserved
loop-plugin-preserved g c =
    let step = c.in-Some.ensures.steps.0 in
    let plugin = c.in-Some.plugin in
    let rest = c.next.new.self.rest.items in
    let inv = c.loop-plugin.invariant in
    let members = c.loop-plugin.members in
    let (done, first, new) = inv.5 in
    let place : c.loop-plugin.caller ≡ 1 + length members.items = omega (arith, inv.4, members.ok.0) in (
      tt,
      tt,
      omega (arith, ap length step, c.push_reserved.ensures.len, c.push_reserved.ensures.capacity, inv.2),
      omega (arith, ap length step, c.push_reserved.ensures.len, inv.3),
      omega (arith, c.push_reserved.ensures.len, inv.4),
      (
        done ++ plugin ∷ [],
        first ∙ (ap (λ l. done ++ l) step ∙ sym (append_assoc done (plugin ∷ []) rest)),
        subst (AreNew 1 (done ++ plugin ∷ [])) (sym c.push_reserved.ensures.items)
            (new_snoc 1 (length members.items) done members.items plugin c.new.result refl new
            (subst (λ n. IsNew n plugin c.new.result) place c.new.ensures)),
      ),
    )
