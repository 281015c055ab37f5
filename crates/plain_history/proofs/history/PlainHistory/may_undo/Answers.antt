use Rattle.std.proofs.Common.{refl}
use Rattle.std.proofs.lemmas.Bool.{false≢true}
use Rattle.plain_history.proofs.history.PlainHistory.may_undo.Goals as goal

pub returns-then-all_known : goal.returns-then-all_known
returns-then-all_known c =
    (λ t. record { known = c.if-all_known.ensures.0 refl; frozen = c.all_frozen.ensures.0 t }, λ m. c.all_frozen.ensures.1 m.frozen)

pub returns-else-all_known : goal.returns-else-all_known
returns-else-all_known c =
    let false_is = c.if-all_known.false in
    (λ t. absurd (false≢true (rw false_is at t)), λ m. c.all_known.ensures.1 m.known)
