use Rattle.std.proofs.Common.{◌≡◌, ◌<◌, ℕ, ◌↔◌, subst, Err}
use Rattle.rev_list.specs.declared.fault.RevFault.TheVariants as Rev
use Rattle.rev_list.specs.Hidden.{IsCollected}
use Rattle.rev_engine.proofs.StandLemmas.{head-stands, text-shown}
use Rattle.rev_engine.proofs.engine.Engine.rope_at.Goals as goal

pub returns-clause-text : goal.returns-clause-text
returns-clause-text c = λ history stands.
    text-shown c.args.self.now history c.args.rev stands c.shown_rope.result c.shown_rope.ensures.text c.shown_rope.ensures.kept

pub returns-clause-unknown : goal.returns-clause-unknown
returns-clause-unknown c = λ history stands n.
    subst (λ (last : ℕ). (c.shown_rope.result ≡ Err (Rev.Unknown n)) ↔ ((last < c.args.rev) × (n ≡ last))) (head-stands c.args.self.now history stands)
    (c.shown_rope.ensures.unknown n)

pub returns-clause-collected : goal.returns-clause-collected
returns-clause-collected c = λ history stands n.
    subst (λ revisions. (c.shown_rope.result ≡ Err (Rev.Collected n)) ↔ IsCollected revisions c.args.rev n) stands.revisions (c.shown_rope.ensures.collected n)
