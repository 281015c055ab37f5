-- The data of a written line is proper where its parts are, so the line reads back.
use Rattle.std.proofs.Common.{◌≡◌, ◌≤◌, ℕ, pos, negsuc, ℤ, List, true, false, codes, IsUtf8, Less, nat_cmp, refl, arith}
use Rattle.std.proofs.lemmas.Bool.{or_from}
use Rattle.std.proofs.lemmas.Int.{ints}
use Rattle.std.specs.Cmp.Lexicographic.{slice_cmp}
use Rattle.std.specs.Str.{all_scalars}
use Rattle.json.proofs.Printed.Utf8.{IsUtf8-are_ascii}
use Rattle.xi_plain.specs.declared.command.Id.{Id}
use Rattle.xi_plain.specs.declared.command.Id.TheVariants.{NoId, Num, Word}
use Rattle.serde_json.specs.Data.{Data, number, depth}
use Rattle.serde_json.specs.Find.{of_integer}
use Rattle.serde_json.specs.Written.{has_float}
use Rattle.json_rpc.specs.Laws.{RepliesReadBack, ErrorsReadBack, NotesReadBack}
use Rattle.json_rpc.specs.Line.{line_of, IsLineOf}
use Rattle.json_rpc.specs.Proper.{IsProper}
use Rattle.json_rpc.specs.Request.{IsWireNumber, IsWireId, IsTextId}
use Rattle.json_rpc.specs.Response.{text_data, id_data, pair_data, failure_data}
use Rattle.json_rpc.proofs.Lines.{IsLineOf-line_of}
use Rattle.json_rpc.proofs.Responses.{line_response-reply, line_response-error, line_request-note}

IsProper-of_integer : (z : ℤ) → IsWireNumber z → IsProper (number (of_integer z))
IsProper-of_integer (pos n) h = omega (arith, ints)
IsProper-of_integer (negsuc n) h = omega (arith, ints)

IsProper-text_data : (text : List ℕ) → all_scalars text ≡ true → IsProper (text_data text)
IsProper-text_data text h = (text, (h, refl))

IsProper-id_data : (id : Id) → IsWireId id → IsTextId id → IsProper (id_data id)
IsProper-id_data NoId h k = tt
IsProper-id_data (Num z) h k = IsProper-of_integer z h
IsProper-id_data (Word text) h k = IsProper-text_data text k

has_float-of_integer : (z : ℤ) → has_float (number (of_integer z)) ≡ false
has_float-of_integer (pos n) = refl
has_float-of_integer (negsuc n) = refl

has_float-id_data : (id : Id) → has_float (id_data id) ≡ false
has_float-id_data NoId = refl
has_float-id_data (Num z) = has_float-of_integer z
has_float-id_data (Word text) = refl

depth-id_data : (id : Id) → depth (id_data id) ≡ 0
depth-id_data NoId = refl
depth-id_data (Num z) = refl
depth-id_data (Word text) = refl

-- an object of two members whose line reads back
IsLineOf-pair_data : (k : List ℕ) (d : Data) (l : List ℕ) (e : Data) → IsUtf8 k → IsUtf8 l → slice_cmp nat_cmp k l ≡ Less → IsProper d → IsProper e → has_float d ≡ false → has_float e ≡ false
    → depth d ≤ 126 → depth e ≤ 126 → IsLineOf (pair_data k d l e) (line_of (pair_data k d l e))
IsLineOf-pair_data k d l e u v below p q f g m n =
    IsLineOf-line_of (pair_data k d l e) (u, p, (below, tt), (v, q, tt, tt)) (or_from _ _ f (or_from _ _ g refl)) (omega arith)

pub reply_law : RepliesReadBack
reply_law id d fits text proper whole shallow =
    let shown =
    IsLineOf-pair_data (codes "id") (id_data id) (codes "result") d (IsUtf8-are_ascii (codes "id") refl) (IsUtf8-are_ascii (codes "result") refl) refl (IsProper-id_data id fits text) proper
    (has_float-id_data id) whole (omega (arith, depth-id_data id)) shallow in
    (shown, line_response-reply id d _ shown text)

pub error_law : ErrorsReadBack
error_law id code message fits text in_range characters =
    let failure = failure_data code message in
    let proper : IsProper failure =
    (IsUtf8-are_ascii (codes "code") refl, IsProper-of_integer code in_range, (refl, tt), (IsUtf8-are_ascii (codes "message") refl, IsProper-text_data message characters, tt, tt)) in
    let whole : has_float failure ≡ false = or_from _ _ (has_float-of_integer code) refl in
    let shown =
    IsLineOf-pair_data (codes "error") failure (codes "id") (id_data id) (IsUtf8-are_ascii (codes "error") refl) (IsUtf8-are_ascii (codes "id") refl) refl proper (IsProper-id_data id fits text) whole
    (has_float-id_data id) (omega arith) (omega (arith, depth-id_data id)) in
    (shown, line_response-error id code message _ shown text characters)

pub note_law : NotesReadBack
note_law method d characters proper whole shallow =
    let shown =
    IsLineOf-pair_data (codes "method") (text_data method) (codes "params") d (IsUtf8-are_ascii (codes "method") refl) (IsUtf8-are_ascii (codes "params") refl) refl
    (IsProper-text_data method characters) proper refl whole (omega arith) shallow in
    (shown, line_request-note method d _ shown characters)
