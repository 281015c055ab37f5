use Rattle.std.proofs.Common.{sym, subst}
use Rattle.plugin_crew.specs.Place.{IsPlaced, place_by}
use Rattle.plugin_crew.proofs.post.Post.of.Goals as goal

pub returns-clause-placed : goal.returns-clause-placed
returns-clause-placed g c =
    subst (λ given. IsPlaced (record { given = given; here = place_by c.work_of-work.result })) (sym c.of-given.ensures) c.work_of-work.ensures.place
