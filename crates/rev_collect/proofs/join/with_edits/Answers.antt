use Rattle.std.proofs.Common.{◌≡◌, ◌+◌, ◌<◌, ◌||◌, length, map, drop, ap, sym, ◌∙◌, subst, arith}
use Rattle.std.specs.List.{fold, AllByRecursion}
use Rattle.std.proofs.lemmas.List.{drop_more}
use Rattle.subset_runs.proofs.ForCallers.{length-at_each}
use Rattle.rev_list.specs.Settled.{HasLengths}
use Rattle.rev_collect.specs.Joined.{with_edit}
use Rattle.rev_collect.proofs.JoinLemmas.{groups-with_edit, lengths-with_edit}
use Rattle.rev_collect.proofs.LoopLemmas.{all_at}
use Rattle.rev_collect.proofs.join.with_edits.Goals as goal

pub loop-edit-preserved : goal.loop-edit-preserved
loop-edit-preserved c =
    let was = c.loop-edit.invariant in
    let before = c.loop-edit.all.items in
    let edits = c.args.edits.now in
    let i = c.loop-edit.edit-index in
    let item = c.edit-item.result in
    let lt : i < length edits = omega (arith, c.loop-edit-test.true) in
    let made : c.add.new.groups.items ≡ with_edit before item = c.in_ok-add.ensures in
    let own : HasLengths c.args.len item = subst (HasLengths c.args.len) (sym c.edit-item.is) (all_at (HasLengths c.args.len) edits i item c.requires.edits lt) in
    record {
      numbers = ap (map (λ g. g.group)) made ∙ groups-with_edit before item ∙ was.numbers;
      lengths =
          subst (AllByRecursion (HasLengths c.args.len)) (sym made)
          (lengths-with_edit c.args.len before item (λ a b same. length-at_each (λ x y. x || y) a b same) was.lengths own);
      so_far =
          ap (λ gs. fold with_edit gs (drop (i + 1) edits)) (made ∙ ap (with_edit before) c.edit-item.is) ∙
          sym (ap (fold with_edit before) (drop_more edits i item lt)) ∙ was.so_far;
    }
