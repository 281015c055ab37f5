use Rattle.std.proofs.Common.{rules, ◌≡◌, ◌<◌, ◌≤◌, length, ◌++◌, ◌∷◌, [], arith, ap, sym, ◌∙◌, slice_set}
use Rattle.std.specs.List.{position_or_len}
use Rattle.plugin_mirror.specs.Leaf.{is_of, opened}
use Rattle.plugin_mirror.proofs.BookLemmas.{with_opened-place, with_opened-none}
use Rattle.plugin_mirror.proofs.leaves.open.Goals as goal

pub returns-then-place-len-clause-taken : goal.returns-then-place-len-clause-taken
returns-then-place-len-clause-taken c =
    let items = c.args.leaves.now.items in
    let place = c.place_of-place.result in
    let is : place ≡ position_or_len (is_of c.args.view) items = search (rules, arith) in
    let inside : place < length items = search (rules, arith) in
    ap (λ leaf. slice_set items place leaf) c.opened-leaf.ensures ∙ sym (with_opened-place c.args.view c.args.len items place is inside)

pub returns-in_ok-push-clause-taken : goal.returns-in_ok-push-clause-taken
returns-in_ok-push-clause-taken c =
    let items = c.args.leaves.now.items in
    let place = c.place_of-place.result in
    let is : place ≡ position_or_len (is_of c.args.view) items = search (rules, arith) in
    let past : length items ≤ place = search (rules, arith) in
    let pushed : c.push.new.self.items ≡ items ++ opened c.args.view c.args.len ∷ [] = search rules in
    pushed ∙ sym (with_opened-none c.args.view c.args.len items place is past)
