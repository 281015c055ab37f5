use Rattle.std.proofs.Common.{IfOk, codes, refl, arith}
use Rattle.std.proofs.lemmas.Result.{IfOk-weaker}
use Rattle.std.specs.Str.{encode_utf8_all}
use Rattle.json_rpc.specs.Line.{IsLineOf}
use Rattle.view_update.specs.Written.{update_params, update_data}
use Rattle.view_update.proofs.Plain.{IsPlain-update_params, IsPlain-note_data}
use Rattle.view_update.proofs.Made.{ascii_names, note_tokens}
use Rattle.view_update.proofs.Lines.{line_update-update_data}
use Rattle.view_update.proofs.write.write_update.Goals as goal

line : (c : goal.After-into_line) → IfOk c.into_line.result (λ text. IsLineOf (update_data c.args.view.now c.args.update.now) (encode_utf8_all text))
line c =
    let plain = IsPlain-note_data 7 (codes "update") (update_params c.args.view.now c.args.update.now) refl (IsPlain-update_params _ _ c.in_ok-put_params.ensures.fair) in
    c.into_line.ensures (update_data c.args.view.now c.args.update.now)
    (note_tokens (codes "update") (update_params c.args.view.now c.args.update.now) c.in_ok-out.out c.put_params.new.out c.end_object.new.self ascii_names.0 c.in_ok-out.ensures c.in_ok-put_params.ensures.added c.in_ok-end_object.ensures.added)
    plain.proper plain.whole (omega (arith, plain.shallow))

pub returns-clause-line : goal.returns-clause-line
returns-clause-line c = line c

pub returns-clause-reads_back : goal.returns-clause-reads_back
returns-clause-reads_back c = IfOk-weaker c.into_line.result _ _ (λ text is. line_update-update_data _ _ _ is c.in_ok-put_params.ensures.fair) (line c)
