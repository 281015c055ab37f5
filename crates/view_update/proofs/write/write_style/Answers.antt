use Rattle.std.proofs.Common.{IfOk, codes, refl, arith}
use Rattle.std.proofs.lemmas.Result.{IfOk-weaker}
use Rattle.std.specs.Str.{encode_utf8_all}
use Rattle.json_rpc.specs.Line.{IsLineOf}
use Rattle.view_update.specs.Notes.{style_params, style_data}
use Rattle.view_update.proofs.Plain.{IsPlain-style_params, IsPlain-note_data}
use Rattle.view_update.proofs.Made.{ascii_names, note_tokens}
use Rattle.view_update.proofs.Lines.{line_style-style_data}
use Rattle.view_update.proofs.write.write_style.Goals as goal

line : (c : goal.After-into_line) → IfOk c.into_line.result (λ text. IsLineOf (style_data c.args.id c.args.style) (encode_utf8_all text))
line c =
    let plain = IsPlain-note_data 1 (codes "def_style") (style_params c.args.id c.args.style) refl (IsPlain-style_params c.args.id c.args.style c.in_ok-put_style.ensures.fair.0 c.in_ok-put_style.ensures.fair.1) in
    c.into_line.ensures (style_data c.args.id c.args.style)
    (note_tokens (codes "def_style") (style_params c.args.id c.args.style) c.in_ok-out.out c.put_style.new.out c.end_object.new.self ascii_names.3 c.in_ok-out.ensures c.in_ok-put_style.ensures.added c.in_ok-end_object.ensures.added)
    plain.proper plain.whole (omega (arith, plain.shallow))

pub returns-clause-line : goal.returns-clause-line
returns-clause-line c = line c

pub returns-clause-reads_back : goal.returns-clause-reads_back
returns-clause-reads_back c = IfOk-weaker c.into_line.result _ _ (λ text is. line_style-style_data _ _ _ is) (line c)
