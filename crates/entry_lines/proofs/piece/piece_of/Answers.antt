use Rattle.std.proofs.Common.{subst}
use Rattle.entry_lines.specs.Answer.{answers, reply_of}
use Rattle.entry_lines.specs.Piece.{AddsLines, scroll_notes, style_notes, update_notes}
use Rattle.entry_lines.proofs.Pieces.{AddsLines-then, AreLinesOf-adds}
use Rattle.entry_lines.proofs.piece.piece_of.Goals as goal

pub returns-clause-lines : goal.returns-clause-lines
returns-clause-lines c =
    let news = c.args.news.now in
    let first = c.in_ok-piece.piece in
    let second = c.push_styles.new.piece in
    let third = c.push_updates.new.piece in
    let last = c.push_scroll.new.piece in
    let styles : AddsLines (style_notes news.styles) first second =
    subst (λ xs. AddsLines (style_notes xs) first second) c.as_slice.ensures c.in_ok-push_styles.ensures in
    let updates : AddsLines (update_notes news.updates) second third =
    subst (λ xs. AddsLines (update_notes xs) second third) c.as_slice-2.ensures c.in_ok-push_updates.ensures.lines in
    AreLinesOf-adds (answers c.args.id.now (reply_of news.reply)) _ first last c.in_ok-piece.ensures
    (AddsLines-then (style_notes news.styles) _ first second last styles
    (AddsLines-then (update_notes news.updates) (scroll_notes news.scroll) second third last updates c.in_ok-push_scroll.ensures))
