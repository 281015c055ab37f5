use Rattle.std.proofs.Common.{◌≡◌, ◌∙◌, arith}
use Rattle.std.specs.List.{count_by}
use Rattle.plain_edits.specs.History.{is_visible}
use Rattle.plain_history.specs.UnitEdit.{edit_of}
use Rattle.plain_history.specs.Inner.{inserted_from}
use Rattle.plain_history.proofs.Lists.{flat_map-range_push, piece_more}
use Rattle.plain_history.proofs.Steps.{inserted_at-last}
use Rattle.plain_history.proofs.edit.push_inserted.Goals as goal

pub loop-gap-preserved : goal.loop-gap-preserved
loop-gap-preserved c =
    c.in_ok-push_gap.ensures ∙
    piece_more _ _ _ _ _
    (flat_map-range_push (inserted_from c.args.history.now (edit_of c.args.e.now) c.args.index) c.loop-gap.gap) c.loop-gap.invariant

pub returns : goal.returns
returns c =
    let counted : c.count_visible-last.result ≡ count_by (is_visible c.args.history.now.revisions c.args.e.now.base) c.args.history.now.characters =
    rw (c.revisions.ensures, c.characters.ensures) at c.count_visible-last.ensures in
    c.in_ok-push_gap-2.ensures ∙
    piece_more _ _ _ _ _
    (inserted_at-last c.args.history.now (edit_of c.args.e.now) c.args.index c.loop-gap.gap _ (omega arith) counted) c.loop-gap.invariant
