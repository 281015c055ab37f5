-- Commands by their numbers: those that a line of JSON can hold, and those that the core takes from a line.
use Rattle.std.specs.Prelude.{ℕ, ◌^◌, ◌<◌, ◌≤◌, Option, Some, None, ⊤}
use Rattle.std.specs.List.{AllByRecursion}
use Rattle.plain_edits.specs.declared.delta.El.{El}
use Rattle.plain_edits.specs.declared.delta.El.TheVariants.{Copy, Insert}
use Rattle.plain_edits.specs.declared.delta.Delta.{Delta}
use Rattle.plain_edits.specs.declared.style.Style.{Style}
use Rattle.xi_plain.specs.declared.span.WireSpan.{WireSpan}
use Rattle.xi_plain.specs.declared.command.Act.{Act}
use Rattle.xi_plain.specs.declared.command.Act.TheVariants.{PluginEdit, GetData, UpdateSpans, LineCount, Alert, Ack}
use Rattle.xi_plain.specs.declared.command.Command.{Command}
use Rattle.json_rpc.specs.Request.{IsWireId, IsTextId}
use Rattle.plugin_wire.specs.Fair.{HasScalars, IsFairDelta}

-- the number, if there is one, is below the limit
abbrev pub IsUnder : ℕ → Option ℕ → Type 0
IsUnder limit None = ⊤
IsUnder limit (Some n) = n < limit

-- ---- what every value of the types has: texts of Unicode, and numbers of 64 or 32 bits

-- a style
pub record IsHeldStyle (style : Style) : Type 0 where
  pub fg_color : IsUnder (2 ^ 32) style.fg_color
  pub bg_color : IsUnder (2 ^ 32) style.bg_color
  pub weight : IsUnder (2 ^ 32) style.weight

-- a span
pub record IsHeldSpan (span : WireSpan) : Type 0 where
  pub start : span.start < 2 ^ 64
  pub end : span.end < 2 ^ 64
  pub style : IsHeldStyle span.style

-- what a plugin asks
abbrev pub IsHeldAct : Act → Type 0
IsHeldAct (PluginEdit view rev delta priority after_cursor author named) =
    HasScalars view × (rev < 2 ^ 64) × IsFairDelta (2 ^ 64) delta × (priority < 2 ^ 32) × HasScalars author × IsUnder (2 ^ 64) named
IsHeldAct (GetData view rev start max) = HasScalars view × (rev < 2 ^ 64) × (start < 2 ^ 64) × (max < 2 ^ 64)
IsHeldAct (UpdateSpans view rev start len spans) =
    HasScalars view × (rev < 2 ^ 64) × (start < 2 ^ 64) × (len < 2 ^ 64) × AllByRecursion IsHeldSpan spans
IsHeldAct (LineCount view) = HasScalars view
IsHeldAct (Alert msg) = HasScalars msg
IsHeldAct (Ack view rev) = HasScalars view × (rev < 2 ^ 64)
IsHeldAct act = ⊤

-- a command
pub record IsHeldCommand (command : Command) : Type 0 where
  pub id : IsTextId command.id
  pub act : IsHeldAct command.act

-- ---- what the core takes: numbers below 2^63, weights up to 1,000, and spans within their length

-- an element of a delta
abbrev pub IsTakenEl : El → Type 0
IsTakenEl (Copy a b) = (a < 2 ^ 63) × (b < 2 ^ 63)
IsTakenEl (Insert text) = ⊤

-- a delta
pub record IsTakenDelta (delta : Delta) : Type 0 where
  pub base_len : delta.base_len < 2 ^ 63
  pub els : AllByRecursion IsTakenEl delta.els

-- a span within so many bytes
pub record IsTakenSpan (len : ℕ) (span : WireSpan) : Type 0 where
  pub ordered : span.start ≤ span.end
  pub within : span.end ≤ len
  pub weight : IsUnder 1001 span.style.weight

-- what a plugin asks
abbrev pub IsTakenAct : Act → Type 0
IsTakenAct (PluginEdit view rev delta priority after_cursor author named) = (rev < 2 ^ 63) × IsTakenDelta delta × IsUnder (2 ^ 63) named
IsTakenAct (GetData view rev start max) = (rev < 2 ^ 63) × (start < 2 ^ 63) × (max < 2 ^ 63)
IsTakenAct (UpdateSpans view rev start len spans) = (rev < 2 ^ 63) × (start < 2 ^ 63) × (len < 2 ^ 63) × AllByRecursion (IsTakenSpan len) spans
IsTakenAct (LineCount view) = ⊤
IsTakenAct (Alert msg) = ⊤
IsTakenAct (Ack view rev) = rev < 2 ^ 63
IsTakenAct act = ⊤

-- a command; its id is one that JSON has room for
pub record IsTakenCommand (command : Command) : Type 0 where
  pub id : IsWireId command.id
  pub act : IsTakenAct command.act
