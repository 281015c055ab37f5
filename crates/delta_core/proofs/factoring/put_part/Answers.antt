use Rattle.std.proofs.Common.{ap, sym, ◌∙◌, ◌++◌, List, Bool, arith, append-nil, replicate, true, ℕ}
use Rattle.delta_core.specs.UnitStep.{drops}
use Rattle.delta_core.specs.Inner.{base_count, part_steps, news}
use Rattle.delta_core.proofs.StepLemmas.{drops_of_kept, drops_of_dropped, drops_of_added, news_of_kept, news_of_dropped, news_of_added, count_of_kept, count_of_dropped}
use Rattle.delta_core.proofs.factoring.put_part.Goals as goal

pub append-requires : goal.append-requires
append-requires c = omega (arith, c.requires.base_room, ap (λ p. base_count (part_steps p)) c.in-Keep.is, count_of_kept c.in-Keep.n)

pub append-requires-in-Drop : goal.append-requires-in-Drop
append-requires-in-Drop c = omega (arith, c.requires.base_room, ap (λ p. base_count (part_steps p)) c.in-Drop.is, count_of_dropped c.in-Drop.n)

pub returns-in_ok-append-in-Keep-2-clause-dropped : goal.returns-in_ok-append-in-Keep-2-clause-dropped
returns-in_ok-append-in-Keep-2-clause-dropped c =
    c.in_ok-append-in-Keep.ensures.ok ∙ ap (λ (s : List Bool). c.args.dropped.now ++ s) (sym (ap (λ p. drops (part_steps p)) c.in-Keep.is ∙ drops_of_kept c.in-Keep.n))

pub returns-in_ok-append-in-Keep-2-clause-inserted : goal.returns-in_ok-append-in-Keep-2-clause-inserted
returns-in_ok-append-in-Keep-2-clause-inserted c =
    c.in_ok-append-in-Keep-2.ensures.ok ∙ ap (λ (s : List Bool). c.args.inserted.now ++ s) (sym (ap (λ p. news (part_steps p)) c.in-Keep.is ∙ news_of_kept c.in-Keep.n))

pub returns-in_ok-append-in-Drop-2-clause-dropped : goal.returns-in_ok-append-in-Drop-2-clause-dropped
returns-in_ok-append-in-Drop-2-clause-dropped c =
    c.in_ok-append-in-Drop.ensures.ok ∙ ap (λ (s : List Bool). c.args.dropped.now ++ s) (sym (ap (λ p. drops (part_steps p)) c.in-Drop.is ∙ drops_of_dropped c.in-Drop.n))

pub returns-in_ok-append-in-Drop-2-clause-inserted : goal.returns-in_ok-append-in-Drop-2-clause-inserted
returns-in_ok-append-in-Drop-2-clause-inserted c =
    c.in_ok-append-in-Drop-2.ensures.ok ∙ ap (λ (s : List Bool). c.args.inserted.now ++ s) (sym (ap (λ p. news (part_steps p)) c.in-Drop.is ∙ news_of_dropped c.in-Drop.n))

pub returns-in_ok-append-in-Add-clause-dropped : goal.returns-in_ok-append-in-Add-clause-dropped
returns-in_ok-append-in-Add-clause-dropped c =
    sym (ap (λ (s : List Bool). c.args.dropped.now ++ s) (ap (λ p. drops (part_steps p)) c.in-Add.is ∙ drops_of_added c.in-Add.text.now) ∙ append-nil c.args.dropped.now)

pub returns-in_ok-append-in-Add-clause-inserted : goal.returns-in_ok-append-in-Add-clause-inserted
returns-in_ok-append-in-Add-clause-inserted c =
    c.in_ok-append-in-Add.ensures.ok ∙ ap (λ (n : ℕ). c.args.inserted.now ++ replicate n true) c.char_count.ensures ∙
    ap (λ (s : List Bool). c.args.inserted.now ++ s) (sym (ap (λ p. news (part_steps p)) c.in-Add.is ∙ news_of_added c.in-Add.text.now))
