use Rattle.std.proofs.Common.{map, replicate, arith, ap}
use Rattle.delta_core.specs.UnitStep.{part_steps, Dropped, New}
use Rattle.delta_core.specs.Inner.{base_count}
use Rattle.line_index.proofs.ChangedLemmas.{base_count-kept}
use Rattle.line_index.proofs.SeenLemmas.{base_count-added, base_count-dropped, changes-added, changes-dropped, seen-kept}
use Rattle.line_index.proofs.touched.Seen.after.Goals as goal

pub overflow_add-result : goal.overflow_add-result
overflow_add-result c = omega (arith, c.requires, ap (λ p. base_count (part_steps p)) c.in-Keep.is, base_count-kept c.in-Keep.n)

pub overflow_add-self : goal.overflow_add-self
overflow_add-self c = omega (arith, c.requires, ap (λ p. base_count (part_steps p)) c.in-Drop.is, base_count-dropped c.in-Drop.n)

pub returns-in-Keep-clause-seen : goal.returns-in-Keep-clause-seen
returns-in-Keep-clause-seen c = rw c.in-Keep.is (λ done some seen. seen-kept done c.args.self.changed c.args.self.at c.in-Keep.n seen)

pub returns-in-Keep-clause-at : goal.returns-in-Keep-clause-at
returns-in-Keep-clause-at c = omega (arith, ap (λ p. base_count (part_steps p)) c.in-Keep.is, base_count-kept c.in-Keep.n)

pub returns-in-Drop-clause-seen : goal.returns-in-Drop-clause-seen
returns-in-Drop-clause-seen c =
    rw c.in-Drop.is (λ done some seen.
    c.changed_to.ensures.seen done (replicate c.in-Drop.n Dropped) some (changes-dropped c.in-Drop.n) (omega (arith, base_count-dropped c.in-Drop.n)) seen)

pub returns-in-Drop-clause-at : goal.returns-in-Drop-clause-at
returns-in-Drop-clause-at c =
    omega (arith, c.changed_to.ensures.at, ap (λ p. base_count (part_steps p)) c.in-Drop.is, base_count-dropped c.in-Drop.n)

pub returns-in-Add-clause-seen : goal.returns-in-Add-clause-seen
returns-in-Add-clause-seen c =
    rw c.in-Add.is (λ done some seen.
    c.changed_to-in-Add.ensures.seen done (map New c.in-Add.field-0.now) some (changes-added c.in-Add.field-0.now) (omega (arith, base_count-added c.in-Add.field-0.now)) seen)

pub returns-in-Add-clause-at : goal.returns-in-Add-clause-at
returns-in-Add-clause-at c =
    omega (arith, c.changed_to-in-Add.ensures.at, ap (λ p. base_count (part_steps p)) c.in-Add.is, base_count-added c.in-Add.field-0.now)
