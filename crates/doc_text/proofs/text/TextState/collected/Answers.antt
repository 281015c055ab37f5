use Rattle.std.proofs.Common.{◌≡◌, Some, None, ap, sym, ◌∙◌}
use Rattle.plain_edits.specs.Collection.{Collection}
use Rattle.rev_collect.specs.Choice.{collection_said}
use Rattle.doc_text.specs.Collecting.{collection_after}
use Rattle.doc_text.proofs.CollectLemmas.{TextStandsFor-collected, floor-collected}
use Rattle.doc_text.proofs.text.TextState.collected.Goals as goal

pub returns-in_ok-without-in-Some-clause-stands : goal.returns-in_ok-without-in-Some-clause-stands
returns-in_ok-without-in-Some-clause-stands c = λ plain stands.
    let found : Collection = record { floor = c.in-Some.floor; groups = c.in-Some.groups.keys } in
    let is : Some found ≡ collection_after plain = ap collection_said (sym c.in-Some.is) ∙ c.in_ok-floor.ensures.found plain stands in
    TextStandsFor-collected c.args.self.now plain stands (Some found) is _ (c.in_ok-without-in-Some.ensures.stands plain stands (floor-collected plain found is))

pub returns-in-None-clause-stands : goal.returns-in-None-clause-stands
returns-in-None-clause-stands c = λ plain stands.
    TextStandsFor-collected c.args.self.now plain stands None (ap collection_said (sym c.in-None.is) ∙ c.in_ok-floor.ensures.found plain stands) c.args.self.now stands
