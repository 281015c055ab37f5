use Rattle.std.proofs.Common.{rules, ◌≡◌, get_or, true, false, sym, ◌∙◌, subst, arith}
use Rattle.xi_top.proofs.WrittenLemmas.{sent_step, sent_stop}
use Rattle.xi_top.proofs.status.are_sent.Goals as goal

pub loop-entry-preserved : goal.loop-entry-preserved
loop-entry-preserved c =
    let items = c.args.journal.now in
    let at = c.loop-entry.entry-index in
    let item = c.entry-item.result in
    let here : item ≡ get_or items at item = search rules in
    sent_step items at item (omega (arith, c.loop-entry-test.true)) (subst (λ e. e.sent ≡ true) here c.if-not-entry.false) ∙ c.loop-entry.invariant

pub returns-then-not-entry : goal.returns-then-not-entry
returns-then-not-entry c =
    let items = c.args.journal.now in
    let at = c.loop-entry.entry-index in
    let item = c.entry-item.result in
    let here : item ≡ get_or items at item = search rules in
    sym (sent_stop items at item (omega (arith, c.loop-entry-test.true)) (subst (λ e. e.sent ≡ false) here c.if-not-entry.true)) ∙ c.loop-entry.invariant
