use Rattle.std.proofs.Common.{◌≡◌}
use Rattle.plain_edits.specs.History.{head}
use Rattle.plain_edits.specs.Collection.{collection_of}
use Rattle.rev_collect.specs.Choice.{collection_said}
use Rattle.revision_cases.proofs.TakenLemmas.{taken_said}
use Rattle.revision_cases.proofs.collections.taken.Goals as goal

pub returns-in-Ok : goal.returns-in-Ok
returns-in-Ok c =
    let history = c.args.revs.now in
    let said : collection_said c.in-Ok.found ≡ collection_of history c.args.retired.now.keys (head history) = rw c.head.ensures at c.in-Ok.ensures in
    taken_said history c.args.retired.now.keys c.in-Ok.found c.floor-floor.ensures.known said
