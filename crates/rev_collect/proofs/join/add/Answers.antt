use Rattle.std.proofs.Common.{rules, ◌≡◌, ◌<◌, false, Ok, is_ok, length, get_or, slice_set, ap, sym, ◌∙◌, subst, arith}
use Rattle.std.proofs.lemmas.List.{length-map}
use Rattle.std.proofs.lemmas.List.Sorted.{searched}
use Rattle.number_set.proofs.ForCallers.{rises}
use Rattle.plain_text.specs.Numbers.{has, IsRising}
use Rattle.plain_text.proofs.callers.NumberLemmas.{has-searched}
use Rattle.rev_list.specs.declared.settled.SettledGroup.{SettledGroup}
use Rattle.rev_collect.specs.Joined.{joined}
use Rattle.rev_collect.proofs.LoopLemmas.{all_at, nothing_own, set_own}
use Rattle.rev_collect.proofs.join.add.Goals as goal

pub index-requires : goal.index-requires
index-requires c =
    let place = searched c.args.numbers.now c.args.edit.now.group (Ok c.in-Ok.at) c.in-Ok.ensures.place (rises c.args.numbers.now c.in-Ok.ensures.rising) in
    let lt : c.in-Ok.at < length c.args.groups.now.items =
    omega (arith, place.0, ap length c.requires.numbers, length-map c.args.groups.now.items (λ g. g.group)) in
    search (rules, arith)

pub joined-requires-clause-inserted : goal.joined-requires-clause-inserted
joined-requires-clause-inserted c =
    let place = searched c.args.numbers.now c.args.edit.now.group (Ok c.in-Ok.at) c.in-Ok.ensures.place (rises c.args.numbers.now c.in-Ok.ensures.rising) in
    let lt : c.in-Ok.at < length c.args.groups.now.items =
    omega (arith, place.0, ap length c.requires.numbers, length-map c.args.groups.now.items (λ g. g.group)) in
    ap (λ (g : SettledGroup). length g.inserted) c.index.ensures ∙
    all_at (λ g. length g.inserted ≡ length c.args.edit.now.inserted) c.args.groups.now.items c.in-Ok.at c.index.result.now c.requires.inserted lt

pub joined-requires-clause-deleted : goal.joined-requires-clause-deleted
joined-requires-clause-deleted c =
    let place = searched c.args.numbers.now c.args.edit.now.group (Ok c.in-Ok.at) c.in-Ok.ensures.place (rises c.args.numbers.now c.in-Ok.ensures.rising) in
    let lt : c.in-Ok.at < length c.args.groups.now.items =
    omega (arith, place.0, ap length c.requires.numbers, length-map c.args.groups.now.items (λ g. g.group)) in
    ap (λ (g : SettledGroup). length g.deleted) c.index.ensures ∙
    all_at (λ g. length g.deleted ≡ length c.args.edit.now.deleted) c.args.groups.now.items c.in-Ok.at c.index.result.now c.requires.deleted lt

pub index_mut-requires : goal.index_mut-requires
index_mut-requires c =
    let place = searched c.args.numbers.now c.args.edit.now.group (Ok c.in-Ok.at) c.in-Ok.ensures.place (rises c.args.numbers.now c.in-Ok.ensures.rising) in
    let lt : c.in-Ok.at < length c.args.groups.now.items =
    omega (arith, place.0, ap length c.requires.numbers, length-map c.args.groups.now.items (λ g. g.group)) in
    search (rules, arith)

pub returns-in_ok-more-in-Ok : goal.returns-in_ok-more-in-Ok
returns-in_ok-more-in-Ok c =
    let items = c.args.groups.now.items in
    let e = c.args.edit.now in
    let place = searched c.args.numbers.now e.group (Ok c.in-Ok.at) c.in-Ok.ensures.place (rises c.args.numbers.now c.in-Ok.ensures.rising) in
    ap (slice_set items c.in-Ok.at) (c.in_ok-more-in-Ok.ensures ∙ ap (λ (g : SettledGroup). joined g e) c.index.ensures) ∙
    set_own items c.in-Ok.at 0 e c.index.result.now (subst IsRising (sym c.requires.numbers) c.in-Ok.ensures.rising)
    (omega (arith, place.0, ap length c.requires.numbers)) (ap (λ xs. get_or xs c.in-Ok.at 0) c.requires.numbers ∙ place.1)

pub returns-in-Err : goal.returns-in-Err
returns-in-Err c =
    let numbers = c.args.numbers.now in
    let e = c.args.edit.now in
    let none : has numbers e.group ≡ false =
    sym (has-searched numbers c.search.ensures.rising e.group c.search.result c.search.ensures.place) ∙ ap is_ok c.in-Err.is in
    nothing_own c.args.groups.now.items e (ap (λ xs. has xs e.group) c.requires.numbers ∙ none)
