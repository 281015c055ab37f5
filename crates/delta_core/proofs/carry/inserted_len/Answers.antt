use Rattle.std.proofs.Common.{sym}
use Rattle.delta_core.proofs.CarryLemmas.{here-front}
use Rattle.delta_core.proofs.carry.inserted_len.Goals as goal

pub returns-then-front : goal.returns-then-front
returns-then-front c = sym (here-front _ _ c.front-front.ensures c.if-front.true)
