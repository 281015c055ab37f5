-- What a line asks of a session.
use Rattle.std.specs.Prelude.{ℕ, ◌≤◌, ◌==◌, nat_le, if◌then◌else◌, List, length, take, drop, codes, Option, Some, None, option_map, option_and_then}
use Rattle.std.specs.Str.{bytes_eq}
use Rattle.case_lines.specs.Lines.{first_word, after_word}
use Rattle.case_lines.specs.Number.{number_of}
use Rattle.xi_plain.specs.declared.ask.Ask.{Ask}
use Rattle.xi_plain.specs.declared.ask.Ask.TheVariants.{CloseDown, FrontLine, PluginEnd, PluginLine}
use Rattle.core_session.specs.Serves.{FitsCaller}
use Rattle.session_by_hand.specs.declared.call.Call.{Call}
use Rattle.session_by_hand.specs.declared.call.Call.TheVariants as Rust

-- A CALL: an ask of the caller with this number, which is 0 for the front end; or a plugin's look at the notices from an entry on
pub data Asked : Type 0 where
  asks : (caller : ℕ) (ask : Ask) → Asked
  look : (caller from : ℕ) → Asked

-- what a value of the program means: a line of the front end or of a plugin, the end of a plugin's session, a look, or the closing
abbrev pub call_view : Call → Asked
call_view (Rust.Front text) = asks 0 (FrontLine text.now)
call_view (Rust.Plugin caller text) = asks caller (PluginLine text.now)
call_view (Rust.Ended caller) = asks caller PluginEnd
call_view (Rust.Look caller from) = look caller from
call_view Rust.Close = asks 0 CloseDown

-- the ask fits its caller, where there are so many plugins; who looks is one of them
abbrev pub IsOfOne : ℕ → Asked → Type 0
IsOfOne plugins (asks caller ask) = FitsCaller plugins caller ask
IsOfOne plugins (look caller from) = (1 ≤ caller) × (caller ≤ plugins)

-- what stands after the mark, where the line begins with it
abbrev pub after_mark : List ℕ → List ℕ → Option (List ℕ)
after_mark mark line = if bytes_eq (take (length mark) line) mark then Some (drop (length mark) line) else None

-- so many plugins, at most 64
abbrev pub few : ℕ → Option ℕ
few count = if nat_le count 64 then Some count else None

-- HOW MANY PLUGINS the first line says
abbrev pub plugins_of : List ℕ → Option ℕ
plugins_of line = option_and_then few (option_and_then number_of (after_mark (codes "plugins ") line))

-- what stands behind `!`: the closing
abbrev pub front_order : List ℕ → Option Asked
front_order order = if bytes_eq order (codes "close") then Some (asks 0 CloseDown) else None

-- or after a plugin's number its end, or a look
abbrev pub order_of : ℕ → List ℕ → Option Asked
order_of caller order =
    if bytes_eq order (codes "end") then Some (asks caller PluginEnd) else option_map (look caller) (option_and_then number_of (after_mark (codes "look ") order))

-- an order, where there is one, or else the line
abbrev pub order_or : Option (List ℕ) → (List ℕ → Option Asked) → Asked → Option Asked
order_or (Some order) meaning line = meaning order
order_or None meaning line = Some line

abbrev pub front_call : List ℕ → Option Asked
front_call text = order_or (after_mark (codes "!") text) front_order (asks 0 (FrontLine text))

abbrev pub plugin_call : ℕ → List ℕ → Option Asked
plugin_call caller text = order_or (after_mark (codes "!") text) (order_of caller) (asks caller (PluginLine text))

-- a call of the caller with this number, which is 0 for the front end
abbrev pub caller_call : ℕ → List ℕ → ℕ → Option Asked
caller_call plugins text caller =
    if caller == 0 then front_call text else (if nat_le caller plugins then plugin_call caller text else None)

-- THE CALL that a line is, without its LF, where there are so many plugins; `None` is a line of no form
abbrev pub call_of : ℕ → List ℕ → Option Asked
call_of plugins line = option_and_then (caller_call plugins (after_word line)) (number_of (first_word line))
