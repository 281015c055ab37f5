use Rattle.std.proofs.Common.{None, get_or, refl}
use Rattle.std.specs.Prelude.{⊤}
use Rattle.view_update.specs.declared.note.NumberedStyle.{NumberedStyle}
use Rattle.view_update.specs.Notes.{style_data}
use Rattle.entry_lines.proofs.Pieces.{Pushed-next}
use Rattle.entry_lines.proofs.piece.push_styles.Goals as goal

pub loop-numbered-preserved : goal.loop-numbered-preserved
loop-numbered-preserved c =
    let none : NumberedStyle = record {
      id = 0;
      style = record { fg_color = None; bg_color = None; weight = None; italic = None; underline = None };
    } in
    let line = c.in_ok-write_style in
    Pushed-next (λ (numbered : NumberedStyle). style_data numbered.id numbered.style) (λ numbered. ⊤) c.args.styles.now
    c.loop-numbered.numbered-index c.args.piece.now c.loop-numbered.piece line.field-0 c.push_text-in-loop-numbered.new.self none
    (get_or c.args.styles.now c.loop-numbered.numbered-index none) c.loop-numbered.invariant c.loop-numbered-test.true refl line.ensures.line tt
    c.in_ok-push_text.ensures.pushed
