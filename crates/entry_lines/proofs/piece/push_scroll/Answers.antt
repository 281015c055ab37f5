use Rattle.std.proofs.Common.{sym, subst}
use Rattle.std.proofs.lemmas.Result.{IfOk-weaker}
use Rattle.entry_lines.specs.Piece.{AddsLines, scroll_notes}
use Rattle.entry_lines.proofs.Pieces.{AddsLines-one}
use Rattle.entry_lines.proofs.piece.push_scroll.Goals as goal

pub returns-in_ok-write_scroll-in-Some : goal.returns-in_ok-write_scroll-in-Some
returns-in_ok-write_scroll-in-Some c =
    let line = c.in_ok-write_scroll-in-Some in
    let new = c.push_text-in-Some.new.self in
    IfOk-weaker c.push_text-in-Some.result _ _
    (λ _ pushed. subst (λ scroll. AddsLines (scroll_notes scroll) c.args.piece.now new) (sym c.in-Some.is)
    (AddsLines-one _ c.args.piece.now line.field-0 new line.ensures.line pushed))
    c.push_text-in-Some.ensures.pushed
