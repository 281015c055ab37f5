use Rattle.std.proofs.Common.{rules, ◌≡◌, ◌<◌, ◌≤◌, length, get_or, arith}
use Rattle.std.specs.List.{position_or_len}
use Rattle.plugin_mirror.specs.Leaf.{is_of}
use Rattle.plugin_mirror.proofs.BookLemmas.{page_of-place, page_of-none}
use Rattle.plugin_mirror.proofs.book.Book.page.Goals as goal

pub returns-then-place-len : goal.returns-then-place-len
returns-then-place-len c =
    let leaves = c.args.self.now.leaves in
    let place = c.place_of-place.result in
    let is : place ≡ position_or_len (is_of c.args.view.now) leaves = search (rules, arith) in
    let inside : place < length leaves = search (rules, arith) in
    let here : c.index.result.now ≡ get_or leaves place c.index.result.now = search (rules, arith) in
    page_of-place c.args.view.now leaves place c.index.result.now is inside here

pub returns-else-place-len : goal.returns-else-place-len
returns-else-place-len c =
    let leaves = c.args.self.now.leaves in
    let place = c.place_of-place.result in
    let is : place ≡ position_or_len (is_of c.args.view.now) leaves = search (rules, arith) in
    let past : length leaves ≤ place = search (rules, arith) in
    page_of-none c.args.view.now leaves place is past
