use Rattle.std.proofs.Common.{sym, ap, ◌∙◌}
use Rattle.view_update.specs.declared.note.ViewUpdate.{ViewUpdate}
use Rattle.view_update.specs.Reading.{line_update}
use Rattle.view_update.specs.Written.{update_data}
use Rattle.entry_lines.specs.Piece.{ReadsBack}
use Rattle.entry_lines.proofs.Pieces.{Pushed-next}
use Rattle.entry_lines.proofs.piece.push_updates.Goals as goal

pub loop-told-preserved : goal.loop-told-preserved
loop-told-preserved c =
    let told = c.told-item.result in
    let line = c.in_ok-write_update in
    let reads : ReadsBack told = ap line_update (sym line.ensures.line.bytes) ∙ line.ensures.reads_back in
    Pushed-next (λ (told : ViewUpdate). update_data told.view told.update) ReadsBack c.args.updates.now c.loop-told.told-index c.args.piece.now
    c.loop-told.piece line.field-0 c.push_text-in-loop-told.new.self _ told c.loop-told.invariant c.loop-told-test.true c.told-item.is
    line.ensures.line reads c.in_ok-push_text.ensures.pushed
