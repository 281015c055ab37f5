-- The piece behind a logical line.
use Rattle.std.proofs.Common.{◌≡◌, inl, inr, ℕ, ◌+◌, ◌-◌, ◌<◌, List, length, ap, sym, ◌∙◌, arith}
use Rattle.std.proofs.lemmas.Bool.{cases_lt}
use Rattle.plain_screen.specs.declared.piece.Piece.{Piece}
use Rattle.plain_screen.specs.View.{ArePieces, extent_of, layout_line_of, line_under}
use Rattle.plain_screen.proofs.callers.OwnLemmas.{HasOwn, get_piece, layout_line_of-start, start_of-get}
use Rattle.plain_screen.proofs.callers.ViewLemmas.{IsLayoutLineOf-layout_line_of}

-- where it is not the last line, the layout line of its end is the first piece of the next one
pub next-past : (text : List ℕ) (pieces : List Piece) (at next first past : ℕ) → ArePieces text pieces → HasOwn text pieces at first past →
    next ≡ layout_line_of pieces (extent_of (line_under text pieces at)).end → past < length pieces → next ≡ past
next-past text pieces at next first past are own is_next less =
    let piece = get_piece pieces past less in
    let begins = own.next piece.0 piece.1 in
    is_next ∙ ap (layout_line_of pieces) (sym (start_of-get pieces past piece.0 piece.1 ∙ begins.0)) ∙ layout_line_of-start text pieces past are less

-- where it is, it is the last piece
pub next-end : (text : List ℕ) (pieces : List Piece) (at next first past : ℕ) → ArePieces text pieces → HasOwn text pieces at first past →
    next ≡ layout_line_of pieces (extent_of (line_under text pieces at)).end → past ≡ length pieces → next + 1 ≡ past
next-end text pieces at next first past are own is_next all =
    let last = get_piece pieces (past - 1) (omega (arith, all, own.high)) in
    let ends = own.end (past - 1) last.0 (omega (arith, own.high)) last.1 in
    let within = own.within (past - 1) last.0 (omega (arith, own.low, own.high)) (omega (arith, own.high)) last.1 in
    let sits = IsLayoutLineOf-layout_line_of text pieces (extent_of (line_under text pieces at)).end are in
    elim (cases_lt next (past - 1)) [
      | inl before ↦ absurd (let after = sits.last (past - 1) last.0 (omega (arith, before, is_next)) last.1 in omega (arith, after, ends, within.1))
      | inr ge ↦ omega (arith, ge, is_next, sits.inside, all, own.high)
    ]
