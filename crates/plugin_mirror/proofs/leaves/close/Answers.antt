use Rattle.std.proofs.Common.{rules, ◌≡◌, ◌<◌, ◌≤◌, length, arith, ap, sym, ◌∙◌, Ok}
use Rattle.std.specs.List.{position_or_len}
use Rattle.plugin_mirror.specs.Leaf.{is_of}
use Rattle.plugin_mirror.proofs.BookLemmas.{without-place, without-none}
use Rattle.plugin_mirror.proofs.leaves.close.Goals as goal

pub returns-then-place-len-clause-taken : goal.returns-then-place-len-clause-taken
returns-then-place-len-clause-taken c =
    let items = c.args.leaves.now.items in
    let place = c.place_of-place.result in
    let is : place ≡ position_or_len (is_of c.args.view) items = search (rules, arith) in
    let inside : place < length items = search (rules, arith) in
    without-place c.args.view items place is inside ∙ ap (λ leaves. Ok leaves) (sym c.remove.ensures.items)

pub returns-else-place-len-clause-fault : goal.returns-else-place-len-clause-fault
returns-else-place-len-clause-fault c =
    let items = c.args.leaves.now.items in
    let place = c.place_of-place.result in
    let is : place ≡ position_or_len (is_of c.args.view) items = search (rules, arith) in
    let past : length items ≤ place = search (rules, arith) in
    without-none c.args.view items place is past
