use Rattle.std.proofs.Common.{[], ◌∷◌, ◌++◌, length, ap, sym, ◌∙◌, arith}
use Rattle.std.proofs.lemmas.List.{append_assoc}
use Rattle.plugin_crew.specs.Member.{plugins_of}
use Rattle.plugin_crew.proofs.crew.Crew.into_plugins.Goals as goal

pub loop-member-preserved : goal.loop-member-preserved
loop-member-preserved g c =
    let step = c.in-Some.ensures.steps.0 in
    let member = c.in-Some.member in
    let rest = c.next.new.self.rest.items in
    let inv = c.loop-member.invariant in (
      tt,
      tt,
      omega (arith, ap length step, c.push_reserved.ensures.len, c.push_reserved.ensures.capacity, inv.2),
      ap (λ l. l ++ plugins_of rest) c.push_reserved.ensures.items ∙ append_assoc c.loop-member.back.items (member.plugin ∷ []) (plugins_of rest)
          ∙ ap (λ l. c.loop-member.back.items ++ plugins_of l) (sym step) ∙ inv.3,
    )
