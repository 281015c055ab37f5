use Rattle.std.proofs.Common.{◌<◌, ◌+◌, ◌∷◌, length, drop, ap, sym, ◌∙◌, arith}
use Rattle.std.proofs.lemmas.List.{drop_more, drop-set}
use Rattle.plugin_crew.proofs.crew.visit_at.Goals as goal

pub returns-clause-visited : goal.returns-clause-visited
returns-clause-visited g c =
    let items = c.args.members.now.items in
    let at = c.args.at in
    let member = c.index_mut.result.now in
    let inside : at < length items = omega (arith, c.requires.inside, c.args.members.now.ok.0) in (
      member,
      c.visit.new.member,
      drop_more items at member inside ∙ ap (λ m. m ∷ drop (at + 1) items) (sym c.index_mut.ensures.value),
      drop-set items at c.visit.new.member inside,
      c.visit.ensures.same.0,
      c.visit.ensures.same.1,
      c.visit.ensures.adds,
      c.visit.ensures.visited,
    )
