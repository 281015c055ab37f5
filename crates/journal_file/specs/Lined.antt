-- WHICH ENTRIES SURELY HAVE A LINE in the file of a journal, and the value of a line.
use Rattle.std.specs.Prelude.{◌≡◌, ◌<◌, ◌≤◌, ℕ, Bool, false, codes, ◌⊎◌, ⊤}
use Rattle.serde_json.specs.Data.{Data, unsigned, boolean, number, object, member, no_members, depth}
use Rattle.serde_json.specs.Written.{has_float}
use Rattle.json_rpc.specs.Proper.{IsProper}
use Rattle.xi_plain.specs.declared.command.Act.{Act}
use Rattle.xi_plain.specs.declared.command.Act.TheVariants.{Closing, Ended}
use Rattle.xi_plain.specs.declared.command.Command.{Command}
use Rattle.xi_plain.specs.declared.entry.Entry.{Entry}
use Rattle.plugin_side.specs.Asking.{IsAsk}
use Rattle.plugin_side.specs.Range.{IsTakenCommand}
use Rattle.journal_file.specs.Filed.{unasked}

-- no line asks the act: the end of a plugin's session, and the closing
abbrev pub IsUnasked : Act → Type 0
IsUnasked Ended = ⊤
IsUnasked Closing = ⊤
IsUnasked act = ⊥

-- a plugin asks the command in a line, in numbers that the core takes
pub record IsPluginCommand (caller : ℕ) (command : Command) : Type 0 where
  pub plugin : 0 < caller
  pub asks : IsAsk command.act
  pub taken : IsTakenCommand command

-- the command of this caller is the one that no line asks, or one that a plugin asks
abbrev pub IsLined : ℕ → Command → Type 0
IsLined caller command = (command ≡ unasked caller) ⊎ IsPluginCommand caller command

-- AN ENTRY THAT SURELY HAS A LINE, whatever its note: the closing, the end of a plugin's session, or what a plugin asks
abbrev pub HasLine : Entry → Type 0
HasLine entry = IsLined entry.caller entry.command

-- the value of an entry with these parts
abbrev pub entry_data : ℕ → Data → Data → Bool → Data
entry_data caller command note sent =
    object (member (codes "caller") (number (unsigned caller))
    (member (codes "command") command
    (member (codes "note") note
    (member (codes "sent") (boolean sent) no_members))))

-- a proper value without a float, nested so deep at most
pub record IsPlain (n : ℕ) (d : Data) : Type 0 where
  pub proper : IsProper d
  pub whole : has_float d ≡ false
  pub shallow : depth d ≤ n
