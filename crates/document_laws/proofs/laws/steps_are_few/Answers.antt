use Rattle.std.proofs.Common.{arith}
use Rattle.document_laws.proofs.RedoLemmas.{head-undos}
use Rattle.document_laws.proofs.laws.steps_are_few.Goals as goal

pub returns : goal.returns
returns c = λ doc plain n stands. omega (arith, head-undos n plain, stands.text.parts.agree.stack.reached, stands.text.parts.agree.stack.few)
