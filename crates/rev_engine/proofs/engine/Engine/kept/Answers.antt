use Rattle.std.proofs.Common.{◌∙◌, ap, length}
use Rattle.rev_engine.specs.State.{State}
use Rattle.rev_engine.proofs.StandLemmas.{kept-stands}
use Rattle.rev_engine.proofs.engine.Engine.kept.Goals as goal

pub returns : goal.returns
returns c = λ history stands.
    kept-stands c.args.self.now history stands c.union_len.result (c.union_len.ensures ∙ ap (λ (s : State). length s.revisions.characters) c.self.view_is)
