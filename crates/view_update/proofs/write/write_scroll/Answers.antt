use Rattle.std.proofs.Common.{IfOk, codes, refl, arith}
use Rattle.std.proofs.lemmas.Result.{IfOk-weaker}
use Rattle.std.specs.Str.{encode_utf8_all}
use Rattle.json_rpc.specs.Line.{IsLineOf}
use Rattle.view_update.specs.Notes.{scroll_params, scroll_data}
use Rattle.view_update.proofs.Plain.{IsPlain-scroll_params, IsPlain-note_data}
use Rattle.view_update.proofs.Made.{ascii_names, note_tokens}
use Rattle.view_update.proofs.Lines.{line_scroll-scroll_data}
use Rattle.view_update.proofs.write.write_scroll.Goals as goal

line : (c : goal.After-into_line) → IfOk c.into_line.result (λ text. IsLineOf (scroll_data c.args.view.now c.args.line c.args.col) (encode_utf8_all text))
line c =
    let plain = IsPlain-note_data 1 (codes "scroll_to") (scroll_params c.args.view.now c.args.line c.args.col) refl (IsPlain-scroll_params c.args.view.now c.args.line c.args.col c.in_ok-put_scroll.ensures.characters c.in_ok-put_scroll.ensures.fair.0 c.in_ok-put_scroll.ensures.fair.1) in
    c.into_line.ensures (scroll_data c.args.view.now c.args.line c.args.col)
    (note_tokens (codes "scroll_to") (scroll_params c.args.view.now c.args.line c.args.col) c.in_ok-out.out c.put_scroll.new.out c.end_object.new.self ascii_names.1 c.in_ok-out.ensures c.in_ok-put_scroll.ensures.added c.in_ok-end_object.ensures.added)
    plain.proper plain.whole (omega (arith, plain.shallow))

pub returns-clause-line : goal.returns-clause-line
returns-clause-line c = line c

pub returns-clause-reads_back : goal.returns-clause-reads_back
returns-clause-reads_back c = IfOk-weaker c.into_line.result _ _ (λ text is. line_scroll-scroll_data _ _ _ _ is c.in_ok-put_scroll.ensures.characters) (line c)
