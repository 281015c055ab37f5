use Rattle.std.proofs.Common.{IfOk, codes, refl, arith}
use Rattle.std.proofs.lemmas.Result.{IfOk-weaker}
use Rattle.std.specs.Str.{encode_utf8_all}
use Rattle.json_rpc.specs.Line.{IsLineOf}
use Rattle.view_update.specs.Notes.{alert_params, alert_data}
use Rattle.view_update.proofs.Plain.{IsPlain-alert_params, IsPlain-note_data}
use Rattle.view_update.proofs.Made.{ascii_names, note_tokens}
use Rattle.view_update.proofs.Lines.{line_alert-alert_data}
use Rattle.view_update.proofs.write.write_alert.Goals as goal

line : (c : goal.After-into_line) → IfOk c.into_line.result (λ text. IsLineOf (alert_data c.args.message.now) (encode_utf8_all text))
line c =
    let plain = IsPlain-note_data 1 (codes "alert") (alert_params c.args.message.now) refl (IsPlain-alert_params c.args.message.now c.in_ok-put_alert.ensures.characters) in
    c.into_line.ensures (alert_data c.args.message.now)
    (note_tokens (codes "alert") (alert_params c.args.message.now) c.in_ok-out.out c.put_alert.new.out c.end_object.new.self ascii_names.2 c.in_ok-out.ensures c.in_ok-put_alert.ensures.added c.in_ok-end_object.ensures.added)
    plain.proper plain.whole (omega (arith, plain.shallow))

pub returns-clause-line : goal.returns-clause-line
returns-clause-line c = line c

pub returns-clause-reads_back : goal.returns-clause-reads_back
returns-clause-reads_back c = IfOk-weaker c.into_line.result _ _ (λ text is. line_alert-alert_data _ _ is c.in_ok-put_alert.ensures.characters) (line c)
