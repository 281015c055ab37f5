use Rattle.std.proofs.Common.{◌≡◌, ◌⊎◌, ◌+◌, Bool, Some, length, sym, subst}
use Rattle.line_cache.specs.Ahead.{EndsPast, IsAheadOf, moved_by}
use Rattle.line_cache.specs.Stays.{AreStays, if_true, partner_by}
use Rattle.line_cache.proofs.AheadLemmas.{first-ahead, first-done}
use Rattle.line_cache.proofs.StayLemmas.{partners-ahead, stay-within, stays-first}
use Rattle.line_cache.proofs.partner.partner_from.Goals as goal

pub partner_in-requires-clause-behind : goal.partner_in-requires-clause-behind
partner_in-requires-clause-behind c =
    let done = c.args.lines.now.done in
    let first = stays-first c.args.stays.now c.in-Some.stay.now (sym c.in-Some.ensures.value) in
    first-ahead c.in-Some.stay.now first.0 c.args.at done (subst (EndsPast c.args.at) first.1 c.requires.ahead)
    (subst (λ stays. IsAheadOf stays c.args.at done) first.1 c.requires.behind)

pub partner_in-requires-clause-within : goal.partner_in-requires-clause-within
partner_in-requires-clause-within c =
    let count = c.args.lines.now.done + length c.args.lines.now.truths in
    let total = c.args.at + c.args.most in
    let first = stays-first c.args.stays.now c.in-Some.stay.now (sym c.in-Some.ensures.value) in
    stay-within count total c.in-Some.stay.now first.0 (subst (AreStays count total) first.1 c.requires.partners)

pub returns-in-Some-clause-done : goal.returns-in-Some-clause-done
returns-in-Some-clause-done c =
    let first = stays-first c.args.stays.now c.in-Some.stay.now (sym c.in-Some.ensures.value) in
    let next = c.partner_in.new.lines.done in
    subst (λ stays. (next ≡ c.args.lines.now.done) ⊎ ((same : Bool) × (partner_by stays c.args.at ≡ Some (next, same)))) (sym first.1)
    (first-done c.in-Some.stay.now first.0 c.args.at c.args.lines.now.done next (subst (EndsPast c.args.at) first.1 c.requires.ahead)
    (λ before. (c.partner_in.ensures.before before).2) (λ inside. (c.partner_in.ensures.inside inside).1))

pub returns-in-Some-clause-partners : goal.returns-in-Some-clause-partners
returns-in-Some-clause-partners c = λ all left k lt.
    let count = c.args.lines.now.done + length c.args.lines.now.truths in
    let total = c.args.at + c.args.most in
    let first = stays-first c.args.stays.now c.in-Some.stay.now (sym c.in-Some.ensures.value) in
    let result = c.partner_in.result in
    subst (λ stays. if_true all (partner_by stays (c.args.at + k)) ≡ moved_by k result.partner) (sym first.1)
    (partners-ahead all count total c.in-Some.stay.now first.0 c.args.at result.n result.partner
    (subst (AreStays count total) first.1 c.requires.partners)
    (λ before. let own = c.partner_in.ensures.before before in (own.0, own.1))
    (λ inside. ((c.partner_in.ensures.inside inside).0, c.partner_in.ensures.partners all left inside)) k lt)
