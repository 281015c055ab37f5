-- What a line asks, from what it reads as.
use Rattle.std.proofs.Common.{◌≡◌, ◌≢◌, ℕ, List, Option, Some, None, Result, Ok, Err, IfOk, IfErr, IfSome, IsUtf8, option_map, codes, get_or, refl, sym, ap, ◌∙◌, arith, [], ◌∷◌, ◌++◌}
use Rattle.std.specs.Option.{ok_or}
use Rattle.std.specs.Prelude.{◌↔◌}
use Rattle.serde_json.specs.Data.{Data}
use Rattle.serde_json.specs.Read.{read}
use Rattle.json_rpc.specs.declared.fault.RpcFault.{RpcFault}
use Rattle.json_rpc.specs.declared.fault.RpcFault.TheVariants.{Parse, Invalid, NoMemory}
use Rattle.json_rpc.specs.declared.rpc.Rpc.{Rpc}
use Rattle.json_rpc.specs.Fault.{fault_refusal}
use Rattle.json_rpc.specs.Line.{HasNoLf, without_lf, text_value, reading}
use Rattle.json_rpc.specs.Request.{Request, request, request_of, LineRefusal, no_reading, no_request, or_refusal, value_request, line_request}
use Rattle.json_rpc.proofs.Lines.{reading-ended, text_value-read, text_value-none}

pub line_request-read : (line text : List ℕ) (d : Data) → text ≡ without_lf line → IsUtf8 text × (read text ≡ Some d) → line_request line ≡ or_refusal no_request (request_of d)
unfolding line_request reading
line_request-read line text d is h = ap (λ t. value_request (text_value t)) (sym is) ∙ ap value_request (text_value-read text d h)

pub line_request-unread : (line text : List ℕ) → text ≡ without_lf line → (IsUtf8 text → read text ≡ None) → line_request line ≡ Err no_reading
unfolding line_request reading
line_request-unread line text is h = ap (λ t. value_request (text_value t)) (sym is) ∙ ap value_request (text_value-none text h)

-- a line asks the same with its LF and without it
pub line_request-ended : (bytes : List ℕ) → HasNoLf bytes → line_request (bytes ++ 10 ∷ []) ≡ line_request bytes
unfolding line_request
line_request-ended bytes h = ap value_request (reading-ended bytes h)

pub asked : (r : Result Request LineRefusal) (o : Option Rpc) → r ≡ or_refusal no_request (option_map request o) → IfOk (ok_or o Invalid) (λ rpc. r ≡ Ok (request rpc))
asked r None e = tt
asked r (Some rpc) e = e

pub refused : (r : Result Request LineRefusal) (o : Option Rpc) → r ≡ or_refusal no_request (option_map request o) →
    IfErr (ok_or o Invalid) (λ fault. IfSome (fault_refusal fault) (λ refusal. r ≡ Err refusal))
refused r None e = e
refused r (Some rpc) e = tt

-- the fault of a reading that failed says that there is none, but for want of memory
pub unread : (fault : RpcFault) (Memory : Type 0) (r : Result Request LineRefusal) → ((fault ≡ NoMemory) ↔ Memory) →
    ((fault ≡ Parse) ↔ (Memory → ⊥)) → ((Memory → ⊥) → r ≡ Err no_reading) → IfSome (fault_refusal fault) (λ refusal. r ≡ Err refusal)
unread Parse Memory r memory parse none = none (parse.0 refl)
unread NoMemory Memory r memory parse none = tt
unread Invalid Memory r memory parse none = absurd (no_parse (parse.1 (λ held. no_memory (memory.1 held))))
  where
    no_parse : Invalid ≡ Parse → ⊥
    no_parse is = cc

    no_memory : Invalid ≡ NoMemory → ⊥
    no_memory is = cc

-- texts whose first bytes differ
differ : (xs ys : List ℕ) → get_or xs 0 0 ≢ get_or ys 0 0 → xs ≢ ys
differ xs ys apart e = apart (ap (λ l. get_or l 0 0) e)

pub method≢id : codes "method" ≢ codes "id"
method≢id = differ (codes "method") (codes "id") (λ e. omega arith)

pub params≢id : codes "params" ≢ codes "id"
params≢id = differ (codes "params") (codes "id") (λ e. omega arith)

pub params≢method : codes "params" ≢ codes "method"
params≢method = differ (codes "params") (codes "method") (λ e. omega arith)
