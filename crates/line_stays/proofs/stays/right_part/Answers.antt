use Rattle.std.proofs.Common.{ℕ, ◌-◌, length, ap, ap₂, sym, ◌∙◌, arith}
use Rattle.plain_screen.specs.View.{layout_line_of}
use Rattle.plain_screen.proofs.callers.OwnLemmas.{end-last, pieces-some}
use Rattle.line_stays.specs.declared.parts.Part.{Part}
use Rattle.line_stays.specs.Edges.{past_piece}
use Rattle.line_stays.proofs.stays.right_part.Goals as goal

pub overflow_sub-len : goal.overflow_sub-len
overflow_sub-len g c =
    let some = pieces-some _ _ c.lines.ensures.sound in
    let len = end-last _ _ (c.lines.result - 1) c.piece_at-len.result c.lines.ensures.sound (omega (arith, some, c.lines.ensures.count)) (sym c.piece_at-len.ensures) in
    omega (arith, len, c.requires.gap)

pub overflow_sub-n : goal.overflow_sub-n
overflow_sub-n g c =
    let parts = g.T.TextView.pieces_of c.args.after.now in
    let some = pieces-some _ _ c.lines.ensures.sound in
    let len = end-last _ _ (c.lines.result - 1) c.piece_at-len.result c.lines.ensures.sound (omega (arith, some, c.lines.ensures.count)) (sym c.piece_at-len.ensures) in
    let new_is = c.past_piece-new.ensures ∙ ap (past_piece parts) (c.line_of.ensures.line ∙ ap (λ (e : ℕ). layout_line_of parts (e - c.args.back)) len) in
    omega (arith, new_is, c.requires.inside, c.lines-2.ensures.count)

pub overflow_sub-result : goal.overflow_sub-result
overflow_sub-result g c =
    let parts = g.T.TextView.pieces_of c.args.after.now in
    let some = pieces-some _ _ c.lines.ensures.sound in
    let len = end-last _ _ (c.lines.result - 1) c.piece_at-len.result c.lines.ensures.sound (omega (arith, some, c.lines.ensures.count)) (sym c.piece_at-len.ensures) in
    let new_is = c.past_piece-new.ensures ∙ ap (past_piece parts) (c.line_of.ensures.line ∙ ap (λ (e : ℕ). layout_line_of parts (e - c.args.back)) len) in
    omega (arith, new_is, c.requires.room, c.lines-2.ensures.count, c.lines-3.ensures.count)

pub returns : goal.returns
returns g c =
    let pieces = g.T.TextView.pieces_of c.args.before.now in
    let parts = g.T.TextView.pieces_of c.args.after.now in
    let some = pieces-some _ _ c.lines.ensures.sound in
    let len = end-last _ _ (c.lines.result - 1) c.piece_at-len.result c.lines.ensures.sound (omega (arith, some, c.lines.ensures.count)) (sym c.piece_at-len.ensures) in
    let new_is = c.past_piece-new.ensures ∙ ap (past_piece parts) (c.line_of.ensures.line ∙ ap (λ (e : ℕ). layout_line_of parts (e - c.args.back)) len) in
    let part : ℕ → ℕ → ℕ → Part = λ was count new. record { old = was - (count - new); new = new; n = count - new } in
    ap₂ (λ (was count : ℕ). part was count c.past_piece-new.result) c.lines-3.ensures.count c.lines-2.ensures.count ∙
    ap (part (length pieces) (length parts)) new_is
