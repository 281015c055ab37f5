use Rattle.std.proofs.Common.{◌≡◌, ◌≤◌, true, sym, ◌∙◌, arith}
use Rattle.plain_edits.specs.History.{head}
use Rattle.plain_edits.specs.Collection.{is_clean}
use Rattle.rev_collect.proofs.RestLemmas.{may_iff}
use Rattle.rev_collect.proofs.rest.may_collect.Goals as goal

pub returns : goal.returns
returns c =
    let h = c.args.revs.now in
    let rises : h.floor ≤ c.args.floor = omega (arith, c.floor.ensures.floor, c.head.ensures) in
    let known : c.args.floor ≤ head h = omega (arith, c.floor.ensures.floor, c.head.ensures) in
    let clean : is_clean h.revisions c.args.floor ≡ true = sym c.clean.ensures ∙ c.if-not-clean.false in
    let iff = may_iff h c.args.floor c.in_ok-moving.moving c.args.groups.now.keys c.in_ok-moving.ensures rises known clean in
    (λ yes. iff.0 (c.all_rest.ensures.0 yes), λ may. c.all_rest.ensures.1 (iff.1 may))
