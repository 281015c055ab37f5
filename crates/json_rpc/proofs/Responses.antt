-- What the written lines say to their reader.
use Rattle.std.proofs.Common.{◌≡◌, ℕ, pos, negsuc, ℤ, List, Some, Ok, true, option_map, option_and_then, refl, ap, ◌∙◌}
use Rattle.std.proofs.lemmas.Str.{chars-encodes}
use Rattle.std.specs.Str.{chars, all_scalars, encode_utf8_all}
use Rattle.xi_plain.specs.declared.command.Id.{Id}
use Rattle.xi_plain.specs.declared.command.Id.TheVariants.{NoId, Num, Word}
use Rattle.serde_json.specs.Data.{Data, number}
use Rattle.serde_json.specs.Find.{of_integer, as_integer}
use Rattle.json_rpc.specs.Line.{IsLineOf}
use Rattle.json_rpc.specs.Request.{IsTextId, request_of, no_request, or_refusal, value_request, line_request}
use Rattle.json_rpc.specs.Response.{text_data, id_data, reply_data, error_data, note_data, given, failed, answered_id, error_from, response_of, line_response}

answered_id-id_data : (id : Id) → IsTextId id → answered_id (id_data id) ≡ Some id
answered_id-id_data NoId h = refl
answered_id-id_data (Num (pos n)) h = refl
answered_id-id_data (Num (negsuc n)) h = refl
answered_id-id_data (Word text) h = ap (λ t. Some (Word t)) (chars-encodes text h)

as_integer-of_integer : (z : ℤ) → as_integer (of_integer z) ≡ Some z
as_integer-of_integer (pos n) = refl
as_integer-of_integer (negsuc n) = refl

pub response_of-reply_data : (id : Id) (d : Data) → IsTextId id → response_of (reply_data id d) ≡ Some (record { id = id; answer = given d })
unfolding response_of
response_of-reply_data id d h = ap (option_map (λ i. record { id = i; answer = given d })) (answered_id-id_data id h)

error_from-parts : (code : ℤ) (message : List ℕ) → all_scalars message ≡ true → error_from (Some (number (of_integer code))) (Some (text_data message)) ≡ Some (failed code message)
error_from-parts code message h =
    ap (option_and_then (λ z. Some (failed z (chars (encode_utf8_all message))))) (as_integer-of_integer code) ∙ ap (λ t. Some (failed code t)) (chars-encodes message h)

pub response_of-error_data : (id : Id) (code : ℤ) (message : List ℕ) → IsTextId id → all_scalars message ≡ true → response_of (error_data id code message) ≡ Some (record { id = id; answer = failed code message })
unfolding response_of
response_of-error_data id code message h k =
    ap (option_and_then (λ a. option_map (λ i. record { id = i; answer = a }) (answered_id (id_data id)))) (error_from-parts code message k)
    ∙ ap (option_map (λ i. record { id = i; answer = failed code message })) (answered_id-id_data id h)

pub request_of-note_data : (method : List ℕ) (d : Data) → all_scalars method ≡ true → request_of (note_data method d) ≡ Some (record { id = NoId; method = method; params = d })
unfolding request_of
request_of-note_data method d h = ap (λ t. Some (record { id = NoId; method = t; params = d })) (chars-encodes method h)

pub line_response-reply : (id : Id) (d : Data) (line : List ℕ) → IsLineOf (reply_data id d) line → IsTextId id → line_response line ≡ Some (record { id = id; answer = given d })
line_response-reply id d line is h = ap (option_and_then response_of) is.reads ∙ response_of-reply_data id d h

pub line_response-error : (id : Id) (code : ℤ) (message line : List ℕ) → IsLineOf (error_data id code message) line → IsTextId id → all_scalars message ≡ true
    → line_response line ≡ Some (record { id = id; answer = failed code message })
line_response-error id code message line is h k = ap (option_and_then response_of) is.reads ∙ response_of-error_data id code message h k

pub line_request-note : (method : List ℕ) (d : Data) (line : List ℕ) → IsLineOf (note_data method d) line → all_scalars method ≡ true → line_request line ≡ Ok (record { id = NoId; method = method; params = d })
unfolding line_request
line_request-note method d line is h = ap value_request is.reads ∙ ap (or_refusal no_request) (request_of-note_data method d h)
