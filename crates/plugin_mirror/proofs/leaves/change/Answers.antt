use Rattle.std.proofs.Common.{rules, ◌≡◌, ◌<◌, ◌≤◌, length, arith}
use Rattle.std.specs.List.{position_or_len}
use Rattle.plugin_mirror.specs.declared.fault.BookFault.TheVariants.{Unknown}
use Rattle.plugin_mirror.specs.Leaf.{is_of, with_update}
use Rattle.plugin_mirror.proofs.BookLemmas.{at_leaf-none, on_ok, if_err, step_taken, step_fault}
use Rattle.plugin_mirror.proofs.leaves.change.Goals as goal

pub returns-then-place-len-clause-taken : goal.returns-then-place-len-clause-taken
returns-then-place-len-clause-taken c =
    let items = c.args.leaves.now.items in
    let place = c.place_of-place.result in
    let is : place ≡ position_or_len (is_of c.args.notice.view) items = search (rules, arith) in
    let inside : place < length items = search (rules, arith) in
    on_ok c.update.result
    (step_taken (is_of c.args.notice.view) (Unknown c.args.notice.view) (with_update c.args.notice) items place c.index_mut.result.now c.update.new.self is inside
    c.index_mut.ensures.value) c.update.ensures.taken

pub returns-then-place-len-clause-fault : goal.returns-then-place-len-clause-fault
returns-then-place-len-clause-fault c =
    let items = c.args.leaves.now.items in
    let place = c.place_of-place.result in
    let is : place ≡ position_or_len (is_of c.args.notice.view) items = search (rules, arith) in
    let inside : place < length items = search (rules, arith) in
    if_err c.update.result
    (λ fault given some.
    step_fault (is_of c.args.notice.view) (Unknown c.args.notice.view) (with_update c.args.notice) items place c.index_mut.result.now fault is inside
    c.index_mut.ensures.value (given some)) c.update.ensures.fault

pub returns-else-place-len-clause-fault : goal.returns-else-place-len-clause-fault
returns-else-place-len-clause-fault c =
    let items = c.args.leaves.now.items in
    let place = c.place_of-place.result in
    let is : place ≡ position_or_len (is_of c.args.notice.view) items = search (rules, arith) in
    let past : length items ≤ place = search (rules, arith) in
    λ some. at_leaf-none (is_of c.args.notice.view) (Unknown c.args.notice.view) (with_update c.args.notice) items place is past
