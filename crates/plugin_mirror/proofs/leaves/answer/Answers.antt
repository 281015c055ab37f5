use Rattle.std.proofs.Common.{rules, ◌≡◌, ◌<◌, ◌≤◌, false, length, arith, ◌∙◌}
use Rattle.std.specs.List.{position_or_len}
use Rattle.plugin_mirror.specs.declared.fault.BookFault.TheVariants.{Unread}
use Rattle.plugin_mirror.specs.Leaf.{is_asked, with_answer}
use Rattle.plugin_mirror.specs.Book.{is_to_nobody}
use Rattle.plugin_mirror.proofs.BookLemmas.{at_leaf-none, on_ok, if_err, step_taken, step_fault, after_answer-asked}
use Rattle.plugin_mirror.proofs.leaves.answer.Goals as goal

pub returns-then-place-len-clause-taken : goal.returns-then-place-len-clause-taken
returns-then-place-len-clause-taken c =
    let items = c.args.leaves.now.items in
    let place = c.place_asked-place.result in
    let is : place ≡ position_or_len (is_asked c.args.id.now) items = search (rules, arith) in
    let inside : place < length items = search (rules, arith) in
    let some : is_to_nobody c.args.id.now c.args.answer ≡ false = search rules in
    on_ok c.answer.result
    (λ taken.
    after_answer-asked c.args.id.now c.args.answer items some ∙
    step_taken (is_asked c.args.id.now) Unread (with_answer c.args.answer) items place c.index_mut.result.now c.answer.new.self is inside c.index_mut.ensures.value
    taken) c.answer.ensures.taken

pub returns-then-place-len-clause-fault : goal.returns-then-place-len-clause-fault
returns-then-place-len-clause-fault c =
    let items = c.args.leaves.now.items in
    let place = c.place_asked-place.result in
    let is : place ≡ position_or_len (is_asked c.args.id.now) items = search (rules, arith) in
    let inside : place < length items = search (rules, arith) in
    let some : is_to_nobody c.args.id.now c.args.answer ≡ false = search rules in
    if_err c.answer.result
    (λ fault given memory.
    after_answer-asked c.args.id.now c.args.answer items some ∙
    step_fault (is_asked c.args.id.now) Unread (with_answer c.args.answer) items place c.index_mut.result.now fault is inside c.index_mut.ensures.value (given memory))
    c.answer.ensures.fault

pub returns-else-place-len-clause-fault : goal.returns-else-place-len-clause-fault
returns-else-place-len-clause-fault c =
    let items = c.args.leaves.now.items in
    let place = c.place_asked-place.result in
    let is : place ≡ position_or_len (is_asked c.args.id.now) items = search (rules, arith) in
    let past : length items ≤ place = search (rules, arith) in
    let some : is_to_nobody c.args.id.now c.args.answer ≡ false = search rules in
    λ memory. after_answer-asked c.args.id.now c.args.answer items some ∙ at_leaf-none (is_asked c.args.id.now) Unread (with_answer c.args.answer) items place is past
