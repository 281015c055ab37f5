use Rattle.std.proofs.Common.{◌≡◌, length, sym, ap, subst, ◌∙◌, arith}
use Rattle.std.specs.Str.{encode_utf8_all}
use Rattle.std.proofs.lemmas.Str.{IsUtf8-string_bytes, encodes-chars}
use Rattle.json_rpc.specs.Line.{HasNoLf}
use Rattle.plugin_wire.specs.Asked.{ask_of}
use Rattle.plugin_side.specs.Asking.{turn_bytes}
use Rattle.plugin_side.proofs.TurnLines.{turn_bytes-popped, ask_of-turn_bytes}
use Rattle.plugin_side.proofs.ask.turn_line.Goals as goal

pub returns-clause-line : goal.returns-clause-line
returns-clause-line c =
    let written = c.into_string-line.result in
    let count : written.bytes.len ≡ length written.bytes.items = omega (arith, written.bytes.ok.0) in
    ap encode_utf8_all c.from_string.ensures
    ∙ encodes-chars _ (IsUtf8-string_bytes c.pop-lf.new.self)
    ∙ turn_bytes-popped c.args.command.now _ _ _ count (c.into_string-line.ensures.utf8 ∙ c.in_ok-written.ensures.line.bytes) c.pop-lf.ensures.ascii_bytes

pub returns-clause-one : goal.returns-clause-one
unfolding turn_bytes
returns-clause-one c = subst HasNoLf (sym (returns-clause-line c)) c.in_ok-written.ensures.line.one

pub returns-clause-asked : goal.returns-clause-asked
returns-clause-asked c =
    λ taken.
    ap ask_of (returns-clause-line c)
    ∙ ask_of-turn_bytes c.args.command.now _ c.ends_do_not_matter.ensures c.in_ok-written.ensures.line (c.in_ok-written.ensures.asked taken)
