use Rattle.std.proofs.Common.{◌≡◌, length, ap, sym, ◌∙◌, subst, arith}
use Rattle.std.proofs.lemmas.List.{length-map}
use Rattle.plugin_crew.specs.Place.{givens_of}
use Rattle.plugin_crew.specs.Threads.{IsStaffed}
use Rattle.crew_cases.proofs.threads.all_in_scope.Goals as goal

pub front_works-requires-clause-staffed : goal.front_works-requires-clause-staffed
front_works-requires-clause-staffed g c =
    let taker = c.hire_all-taker.result in
    subst (λ room. IsStaffed room.table.shared.table_id room.table.shared.key.first.value taker.pass (givens_of taker.posts.items)) (sym c.hire_all-taker.ensures.room)
    c.hire_all-taker.ensures.ready.0

pub front_works-requires-clause-reserved : goal.front_works-requires-clause-reserved
front_works-requires-clause-reserved g c =
    let posts = c.hire_all-taker.result.posts.items in
    let players = c.args.players in
    let same : length posts ≡ length players.items =
    sym (length-map posts (λ post. post.given)) ∙ sym (length-map (givens_of posts) (λ given. given.plugin)) ∙ ap length c.hire_all-taker.ensures.begun in
    (omega (arith, same, players.ok.0, c.requires.reserved.0), omega (arith, same, players.ok.0, c.requires.reserved.1))
