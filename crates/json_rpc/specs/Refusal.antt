-- How a refused line is told: its number and its message.
use Rattle.std.specs.Prelude.{ℕ, ℤ, negsuc, List, ◌++◌, codes}
use Rattle.xi_plain.specs.declared.command.Fault.{Fault}
use Rattle.xi_plain.specs.declared.command.Fault.TheVariants.{Parse, Invalid, NoMethod, BadParams}

-- the number of a fault, as JSON-RPC 2.0 has it
abbrev pub code_of : Fault → ℤ
code_of Parse = negsuc 32699
code_of Invalid = negsuc 32599
code_of (NoMethod name) = negsuc 32600
code_of (BadParams member) = negsuc 32601

-- what it says
abbrev pub message_of : Fault → List ℕ
message_of Parse = codes "parse error"
message_of Invalid = codes "invalid request"
message_of (NoMethod name) = codes "method not found: " ++ name
message_of (BadParams member) = codes "invalid params: " ++ member
