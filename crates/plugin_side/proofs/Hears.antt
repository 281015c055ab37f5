-- What is heard in the lines of notices and answers, and that no line is both.
use Rattle.std.proofs.Common.{◌≡◌, ◌≢◌, ℕ, ◌<◌, ◌^◌, pos, negsuc, ℤ, List, Bool, true, false, cond, Option, Some, None, Result, Ok, Err, IfOk, IsUtf8, is_some, option_map, option_and_then, codes, refl, sym, ap, ◌∙◌}
use Rattle.std.specs.Prelude.{◌↔◌, unwrap_or}
use Rattle.std.specs.Str.{chars, all_scalars, encode_utf8_all, is_utf8, bytes_eq}
use Rattle.std.proofs.lemmas.Bool.{false≢true}
use Rattle.std.proofs.lemmas.Slice.Eq.{bytes_eq-Decides}
use lib.Utf8.{encode}
use Rattle.std.proofs.lemmas.Str.{chars-encodes, is_utf8-from_IsUtf8, IsUtf8-from_is_utf8}
use Rattle.xi_plain.specs.declared.command.Id.{Id}
use Rattle.xi_plain.specs.declared.command.Id.TheVariants.{NoId, Num, Word}
use Rattle.serde_json.specs.Data.{unsigned, negative, float, Data, null, boolean, number, string, array, object}
use Rattle.serde_json.specs.Find.{get, as_str, as_number, as_integer, of_integer}
use Rattle.serde_json.specs.Read.{read}
use Rattle.json_rpc.specs.Line.{without_lf, text_value, reading}
use Rattle.json_rpc.specs.Request.{IsTextId, value_id, request_from, request_of, no_request, or_refusal, value_request, line_request}
use Rattle.json_rpc.specs.Response.{Answer, given, failed, Response, text_data, id_data, reply_data, error_data, answered_id, error_from, answer_from, response_of, line_response}
use Rattle.plugin_wire.specs.Shapes.{text_shape}
use Rattle.plugin_wire.specs.Hearing.{heard, heard_request, line_told}
use Rattle.plugin_wire.proofs.ForCallers.{answers_are_no_notices, whole_shape-whole_data, text_shape-text_data}
use Rattle.plugin_side.specs.declared.heard.Told.{Told}
use Rattle.plugin_side.specs.declared.heard.Answered.{Answered}
use Rattle.plugin_side.specs.declared.heard.Answered.TheVariants.{Chunk, Edited}
use Rattle.plugin_side.specs.declared.heard.Heard.{Heard}
use Rattle.plugin_side.specs.declared.heard.Heard.TheVariants as Hears
use Rattle.plugin_side.specs.Heard.{with_room, chunk_from, edited_from, edited_in, first_of, result_heard, code_with_room, failure, answer_heard, response_heard, heard_of, notice_heard, line_answer, heard_in}
use Rattle.plugin_side.specs.Inner.{value_told, value_notice, value_answer, value_heard, answer_by, failure_by}
use Rattle.plugin_side.specs.Laws.{NoticesAreHeard, AnswersAreHeard, LinesComeApart, chunk_data, edited_data, ResultsComeApart}

-- ---- a line and its value

-- what is heard in the value that a line has, if it has one
abbrev heard_if_any : Option Data → Heard
heard_if_any o = heard_of (option_map Hears.Told (option_and_then with_room (heard_request (value_request o)))) (option_and_then response_heard (option_and_then response_of o))

heard_in-reading : (line : List ℕ) (o : Option Data) → reading line ≡ o → heard_in line ≡ heard_if_any o
unfolding heard_in line_told line_request reading
heard_in-reading line o is = ap heard_if_any is

heard_in-value : (line : List ℕ) (d : Data) → reading line ≡ Some d → heard_in line ≡ value_heard d
unfolding request_of
heard_in-value line d is = heard_in-reading line (Some d) is

heard_in-none : (line : List ℕ) → reading line ≡ None → heard_in line ≡ Hears.Nothing
heard_in-none line is = heard_in-reading line None is

-- a text of JSON that is a line without its LF
text_value-read : (text : List ℕ) (d : Data) → IsUtf8 text × (read text ≡ Some d) → text_value text ≡ Some d
unfolding text_value
text_value-read text d h = let is = is_utf8-from_IsUtf8 text h.0 in rw is h.1

chosen : (b : Bool) (o : Option Data) → (b ≡ true → o ≡ None) → cond b o None ≡ None
chosen true o h = h refl
chosen false o h = refl

text_value-none : (text : List ℕ) → (IsUtf8 text → read text ≡ None) → text_value text ≡ None
unfolding text_value
text_value-none text h = chosen (is_utf8 text) (read text) (λ e. h (IsUtf8-from_is_utf8 text e))

pub heard_in-read : (line text : List ℕ) (d : Data) → text ≡ without_lf line → IsUtf8 text × (read text ≡ Some d) → heard_in line ≡ value_heard d
unfolding reading
heard_in-read line text d is h = heard_in-value line d (ap text_value (sym is) ∙ text_value-read text d h)

pub heard_in-unread : (line text : List ℕ) → text ≡ without_lf line → (IsUtf8 text → read text ≡ None) → heard_in line ≡ Hears.Nothing
unfolding reading
heard_in-unread line text is h = heard_in-none line (ap text_value (sym is) ∙ text_value-none text h)

-- ---- notices

pub notices_are_heard : NoticesAreHeard
unfolding heard_in
notices_are_heard told line is =
    λ i. heard_of (option_map Hears.Told (option_and_then with_room (is.heard i))) (option_and_then response_heard (is.no_answer i))

-- ---- answers

answered_id-id_data : (id : Id) → IsTextId id → answered_id (id_data id) ≡ Some id
answered_id-id_data NoId h = refl
answered_id-id_data (Num (pos n)) h = refl
answered_id-id_data (Num (negsuc n)) h = refl
answered_id-id_data (Word text) h = ap (λ t. Some (Word t)) (chars-encodes text h)

as_integer-of_integer : (z : ℤ) → as_integer (of_integer z) ≡ Some z
as_integer-of_integer (pos n) = refl
as_integer-of_integer (negsuc n) = refl

response_of-reply_data : (id : Id) (d : Data) → IsTextId id → response_of (reply_data id d) ≡ Some (record { id = id; answer = given d })
unfolding response_of
response_of-reply_data id d h = ap (option_map (λ i. record { id = i; answer = given d })) (answered_id-id_data id h)

error_from-parts : (code : ℤ) (message : List ℕ) → all_scalars message ≡ true → error_from (Some (number (of_integer code))) (Some (text_data message)) ≡ Some (failed code message)
error_from-parts code message h =
    ap (option_and_then (λ z. Some (failed z (chars (encode_utf8_all message))))) (as_integer-of_integer code) ∙ ap (λ t. Some (failed code t)) (chars-encodes message h)

response_of-error_data : (id : Id) (code : ℤ) (message : List ℕ) → IsTextId id → all_scalars message ≡ true → response_of (error_data id code message) ≡ Some (record { id = id; answer = failed code message })
unfolding response_of
response_of-error_data id code message h k =
    ap (option_and_then (λ a. option_map (λ i. record { id = i; answer = a }) (answered_id (id_data id)))) (error_from-parts code message k)
    ∙ ap (option_map (λ i. record { id = i; answer = failed code message })) (answered_id-id_data id h)

-- a line that is no notice and gives this response
heard_in-response : (line : List ℕ) (d : Data) (response : Response) → line_told line ≡ None → reading line ≡ Some d → response_of d ≡ Some response
    → heard_in line ≡ heard_of None (response_heard response)
unfolding heard_in
heard_in-response line d response none reads is =
    (λ i. heard_of (option_map Hears.Told (option_and_then with_room (none i))) (option_and_then response_heard (option_and_then response_of (reads i))))
    ∙ ap (λ o. heard_of None (option_and_then response_heard o)) is

pub answers_are_heard : AnswersAreHeard
answers_are_heard = record {
  reply = λ id d line is text. heard_in-response line (reply_data id d) _ (answers_are_no_notices.reply id d line is) is.reads (response_of-reply_data id d text);
  error = λ id code message line is text characters.
      heard_in-response line (error_data id code message) _ (answers_are_no_notices.error id code message line is) is.reads (response_of-error_data id code message text characters);
}

-- ---- one reading

-- a value with an id tells nothing
told_by_none : (v : Data) (name : Option (List ℕ)) (params : Data)
    → heard_request (or_refusal no_request (option_and_then (λ text. option_map (λ i. record { id = i; method = chars text; params = params }) (value_id v)) name)) ≡ None
told_by_none v None params = refl
told_by_none null (Some name) params = refl
told_by_none (boolean b) (Some name) params = refl
told_by_none (number (unsigned n)) (Some name) params = refl
told_by_none (number (negative z)) (Some name) params = refl
told_by_none (number (float x)) (Some name) params = refl
told_by_none (string s) (Some name) params = refl
told_by_none (array ds) (Some name) params = refl
told_by_none (object ms) (Some name) params = refl

pub value_told-with_id : (d v : Data) → get (codes "id") d ≡ Some v → value_told d ≡ None
unfolding request_of
value_told-with_id d v is =
    ap (λ o. heard_request (or_refusal no_request (request_from o (get (codes "method") d) (get (codes "params") d)))) is
    ∙ told_by_none v (option_and_then as_str (get (codes "method") d)) _

-- a value without an id answers nobody
answers_none : (o : Option Answer) → option_and_then {U = Response} (λ a. option_map (λ i. record { id = i; answer = a }) (option_and_then answered_id None)) o ≡ None
answers_none None = refl
answers_none (Some a) = refl

response_of-without_id : (d : Data) → get (codes "id") d ≡ None → response_of d ≡ None
unfolding response_of
response_of-without_id d is =
    ap (λ o. option_and_then {U = Response} (λ a. option_map (λ i. record { id = i; answer = a }) (option_and_then answered_id o)) (answer_from (get (codes "error") d) (get (codes "result") d))) is
    ∙ answers_none (answer_from (get (codes "error") d) (get (codes "result") d))

pub value_answer-without_id : (d : Data) → get (codes "id") d ≡ None → value_answer d ≡ None
value_answer-without_id d is = ap (option_and_then response_heard) (response_of-without_id d is)

-- which reading is asked for, by whether there is an id
heard_by_id : (d : Data) (id : Option Data) → get (codes "id") d ≡ id → is_some id ≡ true → value_heard d ≡ heard_of None (value_answer d)
heard_by_id d None is e = absurd (false≢true e)
heard_by_id d (Some v) is e = ap (λ o. heard_of (option_map Hears.Told (option_and_then with_room o)) (value_answer d)) (value_told-with_id d v is)

pub value_heard-with_id : (d : Data) → is_some (get (codes "id") d) ≡ true → value_heard d ≡ heard_of None (value_answer d)
value_heard-with_id d e = heard_by_id d (get (codes "id") d) refl e

pub none_there : (o : Option Data) → is_some o ≡ false → o ≡ None
none_there None e = refl
none_there (Some d) e = absurd (false≢true (sym e))

pub value_heard-without_id : (d : Data) → is_some (get (codes "id") d) ≡ false → value_heard d ≡ heard_of (value_notice d) None
value_heard-without_id d e = ap (heard_of (value_notice d)) (value_answer-without_id d (none_there (get (codes "id") d) e))

-- of the two readings of a value one is not there
value_apart : (d : Data) (id : Option Data) (heard : Heard) → get (codes "id") d ≡ id → value_notice d ≡ Some heard → value_answer d ≡ None
value_apart d None heard is found = value_answer-without_id d is
value_apart d (Some v) heard is found = absurd (none_is_some (sym (ap (λ o. option_map Hears.Told (option_and_then with_room o)) (value_told-with_id d v is)) ∙ found))
  where
    none_is_some : None ≡ Some heard → ⊥
    none_is_some e = cc

abbrev notice_if_any : Option Data → Option Heard
notice_if_any o = option_map Hears.Told (option_and_then with_room (heard_request (value_request o)))

abbrev answer_if_any : Option Data → Option Heard
answer_if_any o = option_and_then response_heard (option_and_then response_of o)

apart_if_any : (o : Option Data) (heard : Heard) → notice_if_any o ≡ Some heard → answer_if_any o ≡ None
apart_if_any None heard found = refl
apart_if_any (Some d) heard found = value_apart d (get (codes "id") d) heard refl found

notice_apart : (line : List ℕ) (heard : Heard) → notice_heard line ≡ Some heard → line_answer line ≡ None
unfolding line_told line_request reading
notice_apart line heard found = apart_if_any (reading line) heard found

-- what is heard is nothing exactly where there is neither
response_is_something : (id : Id) (o : Option Answered) → heard_of None (option_map (Hears.Answer id) o) ≡ Hears.Nothing → option_map (Hears.Answer id) o ≡ None
response_is_something id None e = refl
response_is_something id (Some answer) e = cc

neither_from_nothing : (told : Option Told) (response : Option Response) → heard_of (option_map Hears.Told told) (option_and_then response_heard response) ≡ Hears.Nothing
    → (option_map Hears.Told told ≡ None) × (option_and_then response_heard response ≡ None)
neither_from_nothing (Some told) response e = cc
neither_from_nothing None None e = (refl, refl)
neither_from_nothing None (Some response) e = (refl, response_is_something response.id (answer_heard response.answer) e)

nothing_is_neither : (line : List ℕ) → (heard_in line ≡ Hears.Nothing) ↔ ((notice_heard line ≡ None) × (line_answer line ≡ None))
unfolding heard_in
nothing_is_neither line =
    (neither_from_nothing (option_and_then with_room (line_told line)) (line_response line), λ both. λ i. heard_of (both.0 i) (both.1 i))

pub lines_come_apart : LinesComeApart
lines_come_apart line = record { notice = notice_apart line; nothing = nothing_is_neither line }

-- ---- the parts of an answer

answer_by-parts : (id : Option Id) (a : Option Answer)
    → option_and_then response_heard (option_and_then {U = Response} (λ x. option_map (λ i. record { id = i; answer = x }) id) a) ≡ answer_by id (option_and_then answer_heard a)
answer_by-parts None None = refl
answer_by-parts None (Some a) = refl
answer_by-parts (Some id) None = refl
answer_by-parts (Some id) (Some a) = answer_if_heard id (answer_heard a)
  where
    answer_if_heard : (id : Id) (o : Option Answered) → option_map (Hears.Answer id) o ≡ answer_by (Some id) o
    answer_if_heard id None = refl
    answer_if_heard id (Some answer) = refl

pub value_answer-parts : (d : Data) → value_answer d ≡ answer_by (option_and_then answered_id (get (codes "id") d)) (option_and_then answer_heard (answer_from (get (codes "error") d) (get (codes "result") d)))
unfolding response_of
value_answer-parts d = answer_by-parts (option_and_then answered_id (get (codes "id") d)) (answer_from (get (codes "error") d) (get (codes "result") d))

failure_by-parts : (code : Option ℤ) (text : Option (List ℕ))
    → option_and_then answer_heard (option_and_then (λ z. option_map (λ t. failed z (chars t)) text) code) ≡ failure_by (option_and_then code_with_room code) (option_map chars text)
failure_by-parts None None = refl
failure_by-parts None (Some t) = refl
failure_by-parts (Some z) None = none_by (code_with_room z)
  where
    none_by : (o : Option ℤ) → None ≡ failure_by o None
    none_by None = refl
    none_by (Some code) = refl
failure_by-parts (Some z) (Some t) = some_by (code_with_room z) (chars t)
  where
    some_by : (o : Option ℤ) (message : List ℕ) → option_map (failure message) o ≡ failure_by o (Some message)
    some_by None message = refl
    some_by (Some code) message = refl

text_shape-member : (m : Option Data) → option_map chars (option_and_then as_str m) ≡ option_and_then text_shape m
text_shape-member None = refl
text_shape-member (Some d) = refl

pub error_from-heard : (code message : Option Data)
    → option_and_then answer_heard (error_from code message) ≡ failure_by (option_and_then code_with_room (option_and_then as_integer (option_and_then as_number code))) (option_and_then text_shape message)
error_from-heard code message =
    failure_by-parts (option_and_then as_integer (option_and_then as_number code)) (option_and_then as_str message)
    ∙ ap (failure_by (option_and_then code_with_room (option_and_then as_integer (option_and_then as_number code)))) (text_shape-member message)

-- ---- the parts of a notice

-- what a value without an id tells
told_by_name : (name : Option (List ℕ)) (params : Data)
    → heard_request (or_refusal no_request (option_and_then (λ text. option_map (λ i. record { id = i; method = chars text; params = params }) (Some NoId)) name))
    ≡ option_and_then (λ n. heard n params) (option_map chars name)
told_by_name None params = refl
told_by_name (Some text) params = refl

pub value_told-parts : (d : Data) → get (codes "id") d ≡ None
    → value_told d ≡ option_and_then (λ n. heard n (unwrap_or (get (codes "params") d) null)) (option_and_then text_shape (get (codes "method") d))
unfolding request_of
value_told-parts d is =
    ap (λ o. heard_request (or_refusal no_request (request_from o (get (codes "method") d) (get (codes "params") d)))) is
    ∙ told_by_name (option_and_then as_str (get (codes "method") d)) (unwrap_or (get (codes "params") d) null)
    ∙ ap (option_and_then (λ n. heard n (unwrap_or (get (codes "params") d) null))) (text_shape-member (get (codes "method") d))

-- a name of ASCII, and the same name in bytes
same_name : (name k : List ℕ) (a b : Bool) → all_scalars name ≡ true → all_scalars k ≡ true → encode_utf8_all k ≡ k → bytes_eq (encode_utf8_all name) k ≡ a → bytes_eq name k ≡ b → a ≡ b
same_name name k true true h ascii same x y = refl
same_name name k false false h ascii same x y = refl
same_name name k true false h ascii same x y =
    let is : encode_utf8_all name ≡ k = (bytes_eq-Decides (encode_utf8_all name) k).0 x in
    sym (sym y ∙ (bytes_eq-Decides name k).1 (sym (chars-encodes name h) ∙ ap chars (is ∙ sym same) ∙ chars-encodes k ascii))
same_name name k false true h ascii same x y =
    sym x ∙ (bytes_eq-Decides (encode_utf8_all name) k).1 (ap encode_utf8_all ((bytes_eq-Decides name k).0 y) ∙ same)

initialize_utf8 : encode_utf8_all (codes "initialize") ≡ codes "initialize"
unfolding encode
initialize_utf8 = refl

new_buffer_utf8 : encode_utf8_all (codes "new_buffer") ≡ codes "new_buffer"
unfolding encode
new_buffer_utf8 = refl

update_utf8 : encode_utf8_all (codes "update") ≡ codes "update"
unfolding encode
update_utf8 = refl

did_close_utf8 : encode_utf8_all (codes "did_close") ≡ codes "did_close"
unfolding encode
did_close_utf8 = refl

shutdown_utf8 : encode_utf8_all (codes "shutdown") ≡ codes "shutdown"
unfolding encode
shutdown_utf8 = refl

pub heard-utf8 : (name : List ℕ) (params : Data) → all_scalars name ≡ true → heard (encode_utf8_all name) params ≡ heard name params
heard-utf8 name params h =
    rw (
      same_name name (codes "initialize") _ _ h refl initialize_utf8 refl refl,
      same_name name (codes "new_buffer") _ _ h refl new_buffer_utf8 refl refl,
      same_name name (codes "update") _ _ h refl update_utf8 refl refl,
      same_name name (codes "did_close") _ _ h refl did_close_utf8 refl refl,
      same_name name (codes "shutdown") _ _ h refl shutdown_utf8 refl refl,
    ) refl

-- a name of no notice
not_named : (name k : List ℕ) (b : Bool) → bytes_eq name k ≡ b → name ≢ k → b ≡ false
not_named name k true is apart = absurd (apart ((bytes_eq-Decides name k).0 is))
not_named name k false is apart = refl

pub heard-other : (name : List ℕ) (params : Data) → name ≢ codes "initialize" → name ≢ codes "new_buffer" → name ≢ codes "update" → name ≢ codes "did_close" → name ≢ codes "shutdown"
    → heard name params ≡ None
heard-other name params i n u d s =
    rw (
      not_named name (codes "initialize") _ refl i,
      not_named name (codes "new_buffer") _ refl n,
      not_named name (codes "update") _ refl u,
      not_named name (codes "did_close") _ refl d,
      not_named name (codes "shutdown") _ refl s,
    ) refl

-- a line that was not read, but not for want of memory
pub heard_unread : {E : Type 0} (line : List ℕ) (r : Result Heard E) (Memory : Type 0) → IfOk r (λ heard. heard ≡ Hears.Nothing) → IfOk r (λ heard. Memory → ⊥)
    → ((Memory → ⊥) → heard_in line ≡ Hears.Nothing) → IfOk r (λ heard. heard ≡ heard_in line)
heard_unread line (Ok heard) Memory nothing read h = nothing ∙ sym (h read)
heard_unread line (Err e) Memory nothing read h = tt

-- ---- results

chunk_heard : (text : List ℕ) (offset : ℕ) → all_scalars text ≡ true → offset < 2 ^ 64 → result_heard (chunk_data text offset) ≡ Chunk text offset
chunk_heard text offset h k =
    let characters = text_shape-text_data text h in
    let from = whole_shape-whole_data (2 ^ 64) offset k in
    λ i. first_of (chunk_from (characters i) (from i)) (edited_in (chunk_data text offset))

edited_heard : (rev group : ℕ) → rev < 2 ^ 64 → group < 2 ^ 64 → result_heard (edited_data rev group) ≡ Edited rev group
edited_heard rev group h k =
    let at = whole_shape-whole_data (2 ^ 64) rev h in
    let named = whole_shape-whole_data (2 ^ 64) group k in
    λ i. first_of None (edited_from (at i) (named i))

pub results_come_apart : ResultsComeApart
results_come_apart = record { chunk = chunk_heard; edited = edited_heard; lines = λ n. refl; nothing = refl }
