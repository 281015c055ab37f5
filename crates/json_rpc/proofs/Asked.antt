-- The request that a line is can be answered.
use Rattle.std.proofs.Common.{◌≡◌, ℕ, ◌+◌, ◌≤◌, pos, negsuc, List, true, codes, Option, Some, None, Result, Ok, Err, IfSome, option_map, option_and_then, Ordering, Less, Equal, Greater, nat_cmp, refl, subst, arith}
use Rattle.std.proofs.lemmas.Int.{ints}
use Rattle.std.proofs.lemmas.Str.{scalars-chars}
use Rattle.std.specs.Cmp.Lexicographic.{slice_cmp}
use Rattle.std.specs.Ordering.{match_ordering}
use Rattle.std.specs.Prelude.{⊤, unwrap_or}
use Rattle.std.specs.Str.{chars, all_scalars}
use Rattle.xi_plain.specs.declared.command.Id.{Id}
use Rattle.serde_json.specs.Data.{Num as Number, unsigned, negative, float, Data, null, boolean, number, string, array, object, Members, no_members, member, depth, members_depth}
use Rattle.serde_json.specs.Find.{get, get_member, as_str}
use Rattle.serde_json.specs.Read.{max_depth}
use Rattle.json_rpc.specs.Line.{reading}
use Rattle.json_rpc.specs.Proper.{IsProperNumber, IsProper, HasProper}
use Rattle.json_rpc.specs.Request.{Request, IsWireId, IsTextId, IsAsked, number_id, value_id, member_id, request_of, LineRefusal, no_request, or_refusal, value_request, line_request}
use Rattle.json_rpc.proofs.Lines.{depth-reading}
use Rattle.json_rpc.proofs.ReadValues.{IsProper-reading}

-- a proper value, nested at most this deep
abbrev IsWithin : ℕ → Data → Type 0
IsWithin n d = IsProper d × (depth d ≤ n)

one_of : (o : Ordering) (n : ℕ) (found : Option Data) (d : Data) → IfSome found (IsWithin n) → IsWithin n d → IfSome (match_ordering o found (Some d) found) (IsWithin n)
one_of Less n found d h k = h
one_of Equal n found d h k = k
one_of Greater n found d h k = h

IsWithin-get_member : (k : List ℕ) (n : ℕ) (ms : Members) → HasProper ms → members_depth ms ≤ n → IfSome (get_member k ms) (IsWithin n)
IsWithin-get_member k n no_members h within = tt
IsWithin-get_member k n (member l d ms) h within =
    one_of (slice_cmp nat_cmp k l) n (get_member k ms) d (IsWithin-get_member k n ms h.3 (omega arith)) (h.1, omega arith)

-- a member of a proper value is proper, and nested less deep
IsWithin-get : (k : List ℕ) (n : ℕ) (d : Data) → IsProper d → depth d ≤ n + 1 → IfSome (get k d) (IsWithin n)
IsWithin-get k n null h within = tt
IsWithin-get k n (boolean b) h within = tt
IsWithin-get k n (number m) h within = tt
IsWithin-get k n (string s) h within = tt
IsWithin-get k n (array ds) h within = tt
IsWithin-get k n (object ms) h within = IsWithin-get_member k n ms h (omega arith)

abbrev IsNameable : Id → Type 0
IsNameable id = IsWireId id × IsTextId id

IsNameable-number_id : (n : Number) → IsProperNumber n → IfSome (number_id n) IsNameable
IsNameable-number_id (unsigned n) h = ((omega (arith, ints), omega (arith, ints)), tt)
IsNameable-number_id (negative (pos n)) h = absurd h
IsNameable-number_id (negative (negsuc n)) h = ((omega (arith, ints), omega (arith, ints)), tt)
IsNameable-number_id (float x) h = tt

IsNameable-value_id : (d : Data) → IsProper d → IfSome (value_id d) IsNameable
IsNameable-value_id null h = tt
IsNameable-value_id (boolean b) h = tt
IsNameable-value_id (number n) h = IsNameable-number_id n h
IsNameable-value_id (string s) h = (tt, scalars-chars s h)
IsNameable-value_id (array ds) h = tt
IsNameable-value_id (object ms) h = tt

IsNameable-member_id : (o : Option Data) → IfSome o (IsWithin 126) → IfSome (member_id o) IsNameable
IsNameable-member_id None h = (tt, tt)
IsNameable-member_id (Some d) h = IsNameable-value_id d h.0

scalars-as_str : (o : Option Data) → IfSome o (IsWithin 126) → IfSome (option_and_then as_str o) (λ text. all_scalars (chars text) ≡ true)
scalars-as_str None h = tt
scalars-as_str (Some null) h = tt
scalars-as_str (Some (boolean b)) h = tt
scalars-as_str (Some (number n)) h = tt
scalars-as_str (Some (string s)) h = scalars-chars s h.0
scalars-as_str (Some (array ds)) h = tt
scalars-as_str (Some (object ms)) h = tt

IsWithin-or_null : (o : Option Data) → IfSome o (IsWithin 126) → IsWithin 126 (unwrap_or o null)
IsWithin-or_null None h = (tt, omega arith)
IsWithin-or_null (Some d) h = h

made : (id : Option Id) (text : Option (List ℕ)) (params : Data) → IfSome id IsNameable → IfSome text (λ t. all_scalars (chars t) ≡ true) → IsWithin 126 params
    → IfSome (option_and_then (λ t. option_map (λ i. record { id = i; method = chars t; params = params }) id) text) IsAsked
made id None params h k x = tt
made None (Some t) params h k x = tt
made (Some i) (Some t) params h k x = record { id_fits = h.0; id_text = h.1; method = k; params = x.0; shallow = x.1 }

IsAsked-request_of : (d : Data) → IsProper d → depth d ≤ max_depth → IfSome (request_of d) IsAsked
unfolding request_of
IsAsked-request_of d h within =
    let member = λ (k : List ℕ). IsWithin-get k 126 d h within in
    made _ _ _ (IsNameable-member_id (get (codes "id") d) (member (codes "id"))) (scalars-as_str (get (codes "method") d) (member (codes "method"))) (IsWithin-or_null (get (codes "params") d) (member (codes "params")))

abbrev IfAsked : Result Request LineRefusal → Type 0
IfAsked (Ok r) = IsAsked r
IfAsked (Err refusal) = ⊤

from_request : (o : Option Request) → IfSome o IsAsked → IfAsked (or_refusal no_request o)
from_request None h = tt
from_request (Some r) h = h

from_value : (o : Option Data) → ((d : Data) → o ≡ Some d → IsWithin max_depth d) → IfAsked (value_request o)
from_value None h = tt
from_value (Some d) h = let within = h d refl in from_request (request_of d) (IsAsked-request_of d within.0 within.1)

pub IsAsked-line_request : (line : List ℕ) (r : Request) → line_request line ≡ Ok r → IsAsked r
unfolding line_request
IsAsked-line_request line r e = subst IfAsked e (from_value (reading line) (λ d is. (IsProper-reading line d is, depth-reading line d is)))
