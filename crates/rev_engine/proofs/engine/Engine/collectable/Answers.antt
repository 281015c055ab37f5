use Rattle.std.proofs.Common.{◌≤◌, IfSome, ap, subst, sym, ◌∙◌}
use Rattle.std.proofs.lemmas.Result.{IfOk-weaker}
use Rattle.plain_edits.specs.History.{head}
use Rattle.plain_edits.specs.Collection.{collection_of}
use Rattle.rev_engine.specs.Asked.{IsCollectionTaken}
use Rattle.rev_engine.specs.State.{State}
use Rattle.rev_engine.proofs.CollectLemmas.{collection_of-stands, taken-said}
use Rattle.rev_engine.proofs.engine.Engine.collectable.Goals as goal

pub returns-clause-collected : goal.returns-clause-collected
returns-clause-collected c = λ history stands.
    IfOk-weaker c.collectable.result _ _
    (λ found said. said ∙ ap (λ (s : State). collection_of s.revisions c.args.retired.now.keys c.args.acknowledged) c.self.view_is ∙
    collection_of-stands c.args.self.now history stands c.args.retired.now.keys c.args.acknowledged c.requires.reached)
    c.collectable.ensures

pub returns-clause-may : goal.returns-clause-may
returns-clause-may c =
    IfOk-weaker c.collectable.result _ _
    (λ found said. subst (λ (s : State). IfSome found (λ some. IsCollectionTaken s.revisions some.0 some.1.keys)) c.self.view_is
    (taken-said c.self.inside.revs c.args.retired.now.keys c.args.acknowledged c.floor-floor.ensures.clean
    (subst (λ (s : State). s.revisions.floor ≤ c.args.acknowledged) (sym c.self.view_is) c.requires.reached)
    (subst (λ (s : State). c.args.acknowledged ≤ head s.revisions) (sym c.self.view_is) c.requires.known) found said))
    c.collectable.ensures
