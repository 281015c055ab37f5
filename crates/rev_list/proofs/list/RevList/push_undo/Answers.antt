use Rattle.std.proofs.Common.{◌≡◌, ap, ◌∙◌}
use Rattle.plain_text.specs.Numbers.{flipped}
use Rattle.plain_edits.specs.Undo.{undone_now}
use Rattle.rev_list.specs.Edit.{undone_by}
use Rattle.number_set.proofs.ForCallers.{flipped_back}
use Rattle.rev_list.proofs.list.RevList.push_undo.Goals as goal

pub push_undo_by-requires-clause-may : goal.push_undo_by-requires-clause-may
push_undo_by-requires-clause-may c =
    let keys = c.args.groups.now.keys in
    let back : undone_by c.args.self.now c.as_slice.result.now ≡ keys =
    ap (λ xs. flipped (undone_now c.args.self.now) xs) (c.as_slice.ensures.all ∙ (c.in_ok-differ-2.ensures ∙ (c.in_ok-differ.ensures.made ∙ ap (λ u. flipped u keys) c.undone.ensures.groups))) ∙
    flipped_back (undone_now c.args.self.now) keys (rw c.undone.ensures.groups at c.undone.ensures.rising) c.requires.allowed.rising in
    rw back c.requires

pub returns-clause-ok : goal.returns-clause-ok
returns-clause-ok c =
    let keys = c.args.groups.now.keys in
    let back : undone_by c.args.self.now c.as_slice.result.now ≡ keys =
    ap (λ xs. flipped (undone_now c.args.self.now) xs) (c.as_slice.ensures.all ∙ (c.in_ok-differ-2.ensures ∙ (c.in_ok-differ.ensures.made ∙ ap (λ u. flipped u keys) c.undone.ensures.groups))) ∙
    flipped_back (undone_now c.args.self.now) keys (rw c.undone.ensures.groups at c.undone.ensures.rising) c.requires.allowed.rising in
    rw back at c.push_undo_by.ensures.ok
