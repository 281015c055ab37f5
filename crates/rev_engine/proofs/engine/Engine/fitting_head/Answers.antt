use Rattle.std.proofs.Common.{arith, ap}
use Rattle.rev_engine.specs.State.{State}
use Rattle.rev_engine.proofs.DoneLemmas.{refused-said}
use Rattle.rev_engine.proofs.engine.Engine.fitting_head.Goals as goal

pub returns-then-from-total-clause-refused : goal.returns-then-from-total-clause-refused
returns-then-from-total-clause-refused c = λ history asked stands said _.
    refused-said c.args.self.now history c.args.edit asked stands said _
    (omega (arith, c.from.ensures, c.added_len.ensures.total, ap (λ (s : State). s.spent) c.self.view_is))
    (omega (arith, c.if-from-total.true, c.from-2.ensures, ap (λ (s : State). s.limit) c.self.view_is))
