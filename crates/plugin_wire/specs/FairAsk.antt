-- Commands as the lines of plugins give them: their texts are characters of Unicode, and their ids can be answered.
use Rattle.std.specs.Prelude.{ℕ, ◌^◌, ◌≤◌, ⊤}
use Rattle.std.specs.List.{AllByRecursion}
use Rattle.xi_plain.specs.declared.span.WireSpan.{WireSpan}
use Rattle.xi_plain.specs.declared.command.Fault.TheVariants.{NoMethod, BadParams}
use Rattle.xi_plain.specs.declared.command.Act.{Act}
use Rattle.xi_plain.specs.declared.command.Command.{Command}
use Rattle.json_rpc.specs.Request.{IsWireId, IsTextId}
use Rattle.plugin_wire.specs.Fair.{HasScalars, IsFairDelta}

-- the span does not end before it starts, nor past so many bytes
pub record IsSpanWithin (len : ℕ) (span : WireSpan) : Type 0 where
  pub ordered : span.start ≤ span.end
  pub within : span.end ≤ len

-- what a plugin asks has texts of Unicode, offsets below 2^63, and spans within their length
abbrev pub IsFairAsk : Act → Type 0
IsFairAsk (Act.Bad (NoMethod name)) = HasScalars name
IsFairAsk (Act.Bad (BadParams name)) = HasScalars name
IsFairAsk (Act.PluginEdit view rev delta priority after_cursor author named) = HasScalars view × IsFairDelta (2 ^ 63) delta × HasScalars author
IsFairAsk (Act.GetData view rev start max) = HasScalars view
IsFairAsk (Act.UpdateSpans view rev start len spans) = HasScalars view × AllByRecursion (IsSpanWithin len) spans
IsFairAsk (Act.LineCount view) = HasScalars view
IsFairAsk (Act.Alert msg) = HasScalars msg
IsFairAsk (Act.Ack view rev) = HasScalars view
IsFairAsk act = ⊤

-- a command as a line of a plugin may give it
pub record IsFairCommand (command : Command) : Type 0 where
  pub number : IsWireId command.id
  pub word : IsTextId command.id
  pub ask : IsFairAsk command.act
