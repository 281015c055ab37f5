-- A line of a command without the LF at its end.
use Rattle.std.proofs.Common.{◌≡◌, ℕ, ◌+◌, ◌-◌, ◌<◌, List, [], ◌∷◌, ◌++◌, length, length-append, take, get_or, arith, sym, ap, ◌∙◌}
use Rattle.std.proofs.lemmas.List.{take_at, get_or_push}
use Rattle.xi_plain.specs.declared.command.Command.{Command}
use Rattle.serde_json.specs.Written.{compact_text}
use Rattle.json_rpc.specs.Line.{reading, line_of, IsLineOf}
use Rattle.json_rpc.specs.Laws.{EndsDoNotMatter}
use Rattle.json_rpc.specs.Request.{value_request, line_request}
use Rattle.plugin_wire.specs.Asked.{ask_of, ask_from}
use Rattle.plugin_side.specs.Asking.{command_data, turn_bytes}

-- a line of so many bytes without the last one
pub turn_bytes-popped : (command : Command) (old new : List ℕ) (n : ℕ) → n ≡ length old → old ≡ line_of (command_data command)
    → (0 < n → get_or old (n - 1) 0 < 128 → new ≡ take (n - 1) old) → new ≡ turn_bytes command
unfolding turn_bytes line_of
turn_bytes-popped command old new n count is pops =
    let text = compact_text (command_data command) in
    let long : length old ≡ length text + 1 = ap length is ∙ length-append text (10 ∷ []) in
    let last : length text ≡ n - 1 = omega (arith, long, count) in
    let byte : get_or old (n - 1) 0 ≡ 10 = ap (λ l. get_or l (n - 1) 0) is ∙ get_or_push text 10 0 (n - 1) last in
    pops (omega (arith, long, count)) (omega (arith, byte)) ∙ ap (take (n - 1)) is ∙ take_at text (10 ∷ []) (n - 1) last

-- the core reads it as the line with the LF
pub ask_of-turn_bytes : (command : Command) (line : List ℕ) → EndsDoNotMatter → IsLineOf (command_data command) line → ask_of line ≡ command → ask_of (turn_bytes command) ≡ command
unfolding turn_bytes line_of ask_of line_request
ask_of-turn_bytes command line ends is asks =
    let text = compact_text (command_data command) in
    let same : reading line ≡ reading text = ap reading is.bytes ∙ ends text is.one in
    sym (ap (λ o. ask_from (value_request o)) same) ∙ asks
