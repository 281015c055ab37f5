-- What a fault says, and what it is called.
use Rattle.std.specs.Prelude.{ℕ, List, codes, Option, Some, None}
use Rattle.json_rpc.specs.declared.fault.RpcFault.{RpcFault}
use Rattle.json_rpc.specs.declared.fault.RpcFault.TheVariants.{Parse, Invalid, NoMemory}
use Rattle.json_rpc.specs.Request.{LineRefusal, no_reading, no_request}

-- the refusal that a fault says: want of memory is none
abbrev pub fault_refusal : RpcFault → Option LineRefusal
fault_refusal Parse = Some no_reading
fault_refusal Invalid = Some no_request
fault_refusal NoMemory = None

-- the message of the fault
abbrev pub refusal_text : RpcFault → List ℕ
refusal_text Parse = codes "parse error"
refusal_text Invalid = codes "invalid request"
refusal_text NoMemory = codes "out of memory"
