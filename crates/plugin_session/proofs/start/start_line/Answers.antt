use Rattle.std.proofs.Common.{◌≡◌, ◌+◌, ◌-◌, [], ◌∷◌, ◌++◌, length, ap, sym, ◌∙◌, subst, arith, length-append}
use Rattle.std.specs.String.{string_bytes}
use Rattle.std.specs.Str.{encode_utf8_all}
use Rattle.std.proofs.lemmas.Str.{encodes-chars, IsUtf8-string_bytes}
use Rattle.json_rpc.specs.Line.{line_feed}
use Rattle.plugin_wire.specs.Told.{started}
use Rattle.plugin_wire.specs.Laws.{IsNoticeOf}
use Rattle.plugin_session.proofs.StartLemmas.{start_is, cut_before, cut_is}
use Rattle.plugin_session.proofs.start.start_line.Goals as goal

pub overflow_sub-len : goal.overflow_sub-len
overflow_sub-len c =
    let line = c.into_string-line.result in
    let (front, is) = start_is c.args.caller (string_bytes line)
    (subst (IsNoticeOf (started c.args.caller)) (sym c.into_string-line.ensures.utf8) c.in_ok-start_line.ensures) in
    let long : length (string_bytes line) ≡ length front + 1 = ap length is ∙ length-append front (line_feed ∷ []) in
    omega (arith, long, c.len.ensures, line.bytes.ok.0)

pub truncate-requires : goal.truncate-requires
truncate-requires c fits =
    let line = c.into_string-line.result in
    let (front, is) = start_is c.args.caller (string_bytes line)
    (subst (IsNoticeOf (started c.args.caller)) (sym c.into_string-line.ensures.utf8) c.in_ok-start_line.ensures) in
    let (inside, starts) = cut_before (string_bytes line) front (c.len.result - 1) is (omega (arith, c.len.ensures, line.bytes.ok.0)) in
    (inside, λ some. starts)

pub returns : goal.returns
returns c =
    let line = c.into_string-line.result in
    let started_by : IsNoticeOf (started c.args.caller) (string_bytes line) =
    subst (IsNoticeOf (started c.args.caller)) (sym c.into_string-line.ensures.utf8) c.in_ok-start_line.ensures in
    let (front, is) = start_is c.args.caller (string_bytes line) started_by in
    let left = c.truncate.new.self in
    let same : encode_utf8_all c.from_string.result ++ line_feed ∷ [] ≡ string_bytes line =
    ap (λ x. x ++ line_feed ∷ []) (ap encode_utf8_all c.from_string.ensures ∙ encodes-chars (string_bytes left) (IsUtf8-string_bytes left) ∙ c.truncate.ensures.bytes)
    ∙ cut_is (string_bytes line) front (c.len.result - 1) is (omega (arith, c.len.ensures, line.bytes.ok.0)) in
    subst (IsNoticeOf (started c.args.caller)) (sym same) started_by
