-- The lines that are written, as values, and what they say to their reader.
use Rattle.std.specs.Prelude.{ℕ, ℤ, List, codes, Option, Some, None, option_map, option_and_then}
use Rattle.std.specs.Str.{chars, encode_utf8_all}
use Rattle.xi_plain.specs.declared.command.Id.{Id}
use Rattle.xi_plain.specs.declared.command.Id.TheVariants.{NoId, Num, Word}
use Rattle.serde_json.specs.Data.{Data, null, boolean, number, string, array, object, no_members, member}
use Rattle.serde_json.specs.Find.{get, as_str, as_number, as_integer, of_integer}
use Rattle.json_rpc.specs.Line.{reading}
use Rattle.json_rpc.specs.Request.{value_id}

-- a text of JSON with these characters
abbrev pub text_data : List ℕ → Data
text_data text = string (encode_utf8_all text)

-- the value of an id, null for none
abbrev pub id_data : Id → Data
id_data NoId = null
id_data (Num z) = number (of_integer z)
id_data (Word text) = text_data text

-- an object of two members
abbrev pub pair_data : List ℕ → Data → List ℕ → Data → Data
pair_data k d l e = object (member k d (member l e no_members))

-- a response that gives the result
abbrev pub reply_data : Id → Data → Data
reply_data id result = pair_data (codes "id") (id_data id) (codes "result") result

-- an error with its code and its message
abbrev pub failure_data : ℤ → List ℕ → Data
failure_data code message = pair_data (codes "code") (number (of_integer code)) (codes "message") (text_data message)

-- a response that gives an error
abbrev pub error_data : Id → ℤ → List ℕ → Data
error_data id code message = pair_data (codes "error") (failure_data code message) (codes "id") (id_data id)

-- a notification
abbrev pub note_data : List ℕ → Data → Data
note_data method params = pair_data (codes "method") (text_data method) (codes "params") params

-- what a response gives
pub data Answer : Type 0 where
  given : Data → Answer
  failed : ℤ → List ℕ → Answer

-- whom a response answers, and what it gives
pub record Response : Type 0 where
  pub id : Id
  pub answer : Answer

-- the id that the reader of a response finds: none where it is null
abbrev pub answered_id : Data → Option Id
answered_id null = Some NoId
answered_id (boolean b) = None
answered_id (number n) = value_id (number n)
answered_id (string s) = value_id (string s)
answered_id (array ds) = None
answered_id (object ms) = None

-- the error that this object is
abbrev pub error_from : Option Data → Option Data → Option Answer
error_from code message =
    option_and_then (λ z. option_map (λ text. failed z (chars text)) (option_and_then as_str message))
    (option_and_then as_integer (option_and_then as_number code))

-- what the members `error` and `result` give
abbrev pub answer_from : Option Data → Option Data → Option Answer
answer_from (Some e) found = error_from (get (codes "code") e) (get (codes "message") e)
answer_from None found = option_map given found

-- the response that a value is, to its reader
unfoldable pub response_of : Data → Option Response
response_of d =
    option_and_then (λ a. option_map (λ i. record { id = i; answer = a }) (option_and_then answered_id (get (codes "id") d)))
    (answer_from (get (codes "error") d) (get (codes "result") d))

-- the response that a line is, to its reader
abbrev pub line_response : List ℕ → Option Response
line_response line = option_and_then response_of (reading line)
