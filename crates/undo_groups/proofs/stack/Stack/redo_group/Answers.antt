use Rattle.std.proofs.Common.{◌<◌, ◌+◌, length, ap, sym, ◌∙◌, arith}
use Rattle.std.proofs.lemmas.List.{get_or_read}
use Rattle.plain_text.specs.Numbers.{without_number}
use Rattle.undo_groups.specs.Groups.{groups_of}
use Rattle.undo_groups.proofs.LawLemmas.{redone_is}
use Rattle.undo_groups.proofs.StackLemmas.{redone_then}
use Rattle.undo_groups.proofs.stack.Stack.redo_group.Goals as goal

pub invariant_of-self : goal.invariant_of-self
invariant_of-self c =
    let s = c.self.inside in
    let inside : s.index < length s.live.items = omega (arith, s.live.ok.0, c.if-self-len.false, c.len.ensures, c.self.invariant.reached) in
    rw c.in_ok-self-inside.ensures (redone_then s.live.items s.index s.retired s.undone s.given c.self.invariant c.index-group.result.now inside c.index-group.ensures)

pub returns-clause-redone : goal.returns-clause-redone
returns-clause-redone c =
    let s = c.self.inside in
    let inside : s.index < length s.live.items = omega (arith, s.live.ok.0, c.if-self-len.false, c.len.ensures, c.self.invariant.reached) in
    let group = get_or_read s.live.items s.index c.index-group.result.now inside c.index-group.ensures 0 in
    rw (← c.self.view_is) (ap (λ undone. groups_of s.live.items (s.index + 1) s.retired undone s.given) (c.in_ok-self-inside.ensures ∙ ap (without_number s.undone) group) ∙
    sym (redone_is (groups_of s.live.items s.index s.retired s.undone s.given) inside))
