use Rattle.std.proofs.Common.{length, refl, ap, arith}
use Rattle.rev_engine.specs.State.{State}
use Rattle.doc_layout.proofs.ForCallers.{length-byte_len}
use Rattle.doc_text.specs.InMemory.{head_shown}
use Rattle.doc_text.proofs.engine_step.shared_step.Goals as goal

pub returns-clause-shared : goal.returns-clause-shared
returns-clause-shared c = record { engine_is = c.in_ok-engine.ensures.ok; change_is = refl }

pub returns-clause-counted : goal.returns-clause-counted
returns-clause-counted c =
    omega (
      arith,
      length-byte_len c.head_rope.result.now,
      c.byte_len-counted.ensures,
      c.byte_len-counted.type_inv,
      ap length c.head_rope.ensures.shown,
      ap (λ (e : State). length (head_shown e)) c.deref.ensures,
    )
