-- What a line of the other side asks.
use Rattle.std.specs.Prelude.{◌≡◌, ◌≤◌, ℕ, ◌-◌, ◌^◌, ℤ, pos, negsuc, ◌≤ℤ◌, List, codes, true, Option, Some, None, option_map, option_and_then, unwrap_or, Result, Ok, Err, ⊤}
use Rattle.std.specs.Str.{chars, all_scalars}
use Rattle.xi_plain.specs.declared.command.Id.{Id}
use Rattle.xi_plain.specs.declared.command.Id.TheVariants.{NoId, Num, Word}
use Rattle.serde_json.specs.Data.{Num as Number, unsigned, negative, float, Data, null, boolean, number, string, array, object, depth}
use Rattle.serde_json.specs.Find.{get, as_str}
use Rattle.serde_json.specs.View.{view}
use Rattle.json_rpc.specs.declared.rpc.Rpc.{Rpc}
use Rattle.json_rpc.specs.Line.{reading}
use Rattle.json_rpc.specs.Proper.{IsProper}

-- a method, called with parameters, and the id that the answer has to name
pub record Request : Type 0 where
  pub id : Id
  pub method : List ℕ
  pub params : Data

-- the request that the code holds
abbrev pub request : Rpc → Request
request rpc = record { id = rpc.id; method = rpc.method; params = view rpc.params }

-- a whole number that JSON keeps whole
abbrev pub IsWireNumber : ℤ → Type 0
IsWireNumber z = (negsuc (2 ^ 63 - 1) ≤ℤ z) × (z ≤ℤ pos (2 ^ 64 - 1))

-- a numeric id is such a number
abbrev pub IsWireId : Id → Type 0
IsWireId NoId = ⊤
IsWireId (Num z) = IsWireNumber z
IsWireId (Word text) = ⊤

-- the characters of an id that is a text are characters of Unicode
abbrev pub IsTextId : Id → Type 0
IsTextId NoId = ⊤
IsTextId (Num z) = ⊤
IsTextId (Word text) = all_scalars text ≡ true

-- the id that a number of JSON is: a whole one of at most 64 bits, and no float
abbrev pub number_id : Number → Option Id
number_id (unsigned n) = Some (Num (pos n))
number_id (negative z) = Some (Num z)
number_id (float x) = None

-- the id that a value is: a whole number or a text
abbrev pub value_id : Data → Option Id
value_id null = None
value_id (boolean b) = None
value_id (number n) = number_id n
value_id (string s) = Some (Word (chars s))
value_id (array ds) = None
value_id (object ms) = None

-- the id of a line whose member `id` is this: none where there is no such member
abbrev pub member_id : Option Data → Option Id
member_id None = Some NoId
member_id (Some d) = value_id d

-- the request of these three members, where they are of their kinds
abbrev pub request_from : Option Data → Option Data → Option Data → Option Request
request_from id method params =
    option_and_then (λ text. option_map (λ i. record { id = i; method = chars text; params = unwrap_or params null }) (member_id id))
    (option_and_then as_str method)

-- the request that a value is: an object with a text `method`, an `id` of the two kinds if any, and `params`, null where absent
unfoldable pub request_of : Data → Option Request
request_of d = request_from (get (codes "id") d) (get (codes "method") d) (get (codes "params") d)

-- why a line is no request: it has no reading, or its value is none
pub data LineRefusal : Type 0 where
  no_reading : LineRefusal
  no_request : LineRefusal

-- what x is, or else the refusal
abbrev pub or_refusal : {A : Type 0} → LineRefusal → Option A → Result A LineRefusal
or_refusal refusal None = Err refusal
or_refusal refusal (Some x) = Ok x

-- the request of the value that a line has, or why there is none
abbrev pub value_request : Option Data → Result Request LineRefusal
value_request None = Err no_reading
value_request (Some d) = or_refusal no_request (request_of d)

-- THE REQUEST that a line is, or why it is none
unfoldable pub line_request : List ℕ → Result Request LineRefusal
line_request line = value_request (reading line)

-- what every request that a line is has: with such parts it can be answered, and written again where `params` holds no float
pub record IsAsked (r : Request) : Type 0 where
  pub id_fits : IsWireId r.id
  pub id_text : IsTextId r.id
  pub method : all_scalars r.method ≡ true
  pub params : IsProper r.params
  pub shallow : depth r.params ≤ 126
