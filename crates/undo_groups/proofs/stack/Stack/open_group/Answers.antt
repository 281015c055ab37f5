use Rattle.std.proofs.Common.{◌≡◌, ◌+◌, ◌∷◌, [], ◌++◌, drop, ap, ◌∙◌, arith}
use Rattle.undo_groups.specs.Groups.{excess, grown, groups_of, Groups, IsStack}
use Rattle.undo_groups.proofs.StackLemmas.{opened_as}
use Rattle.undo_groups.proofs.stack.Stack.open_group.Goals as goal

pub invariant_of-self-3 : goal.invariant_of-self-3
invariant_of-self-3 c =
    let s = c.self.inside in
    let now : Groups = groups_of c.reserve.new.self.items s.index s.retired s.undone s.given in
    let is : IsStack now = rw c.reserve.ensures.items c.self.invariant in
    let small = rw (← c.self.view_is) at c.requires in
    let left : c.drop_oldest.new.live.items ≡ drop (excess (grown now)) (grown now) =
    c.drop_oldest.ensures ∙ ap (λ xs. drop (excess xs) xs) (c.push_reserved.ensures.items ∙ ap (λ xs. xs ++ (s.given + 1) ∷ []) c.truncate.ensures.items) in
    opened_as now is small c.drop_oldest.new.live.items c.len-self-inside.result c.in_ok-retired.retired left (omega (arith, c.len-self-inside.ensures, c.drop_oldest.new.live.ok.0)) c.in_ok-retired.ensures
