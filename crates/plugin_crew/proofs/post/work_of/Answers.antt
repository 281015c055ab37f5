use Rattle.std.proofs.Common.{ap, sym, ◌∙◌}
use Rattle.plugin_crew.specs.Place.{place_for}
use Rattle.plugin_crew.proofs.post.work_of.Goals as goal

pub stay-requires-clause-leaves : goal.stay-requires-clause-leaves
stay-requires-clause-leaves g c = sym c.errand.ensures ∙ c.in-Leave.is

pub returns-in-Serve-clause-place : goal.returns-in-Serve-clause-place
returns-in-Serve-clause-place g c = ap (λ errand. place_for errand c.args.hired.pass) (sym c.in-Serve.is ∙ c.errand.ensures)

pub returns-in-Leave-clause-place : goal.returns-in-Leave-clause-place
returns-in-Leave-clause-place g c =
    c.stay.ensures.place ∙ ap (λ errand. place_for errand c.args.hired.pass) (sym c.in-Leave.is ∙ c.errand.ensures)
