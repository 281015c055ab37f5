use Rattle.std.proofs.Common.{◌≡◌, ◌<◌, ℕ, ◌↔◌, subst, Err}
use Rattle.rev_list.specs.declared.fault.RevFault.TheVariants as Rev
use Rattle.rev_list.specs.Hidden.{IsCollected}
use Rattle.rev_engine.proofs.SinceLemmas.{since-answered}
use Rattle.rev_engine.proofs.StandLemmas.{head-stands}
use Rattle.rev_engine.proofs.engine.Engine.since.Goals as goal

pub returns-clause-since : goal.returns-clause-since
returns-clause-since c = λ history stands.
    since-answered c.args.self.now history c.args.rev stands c.units_since.result c.units_since.ensures.between c.units_since.ensures.kept

pub returns-clause-unknown : goal.returns-clause-unknown
returns-clause-unknown c = λ history stands n.
    subst (λ (last : ℕ). (c.units_since.result ≡ Err (Rev.Unknown n)) ↔ ((last < c.args.rev) × (n ≡ last))) (head-stands c.args.self.now history stands)
    (c.units_since.ensures.unknown n)

pub returns-clause-collected : goal.returns-clause-collected
returns-clause-collected c = λ history stands n.
    subst (λ revisions. (c.units_since.result ≡ Err (Rev.Collected n)) ↔ IsCollected revisions c.args.rev n) stands.revisions (c.units_since.ensures.collected n)
