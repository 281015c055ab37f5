-- What the lines of notices and answers say to a plugin.
use Rattle.std.proofs.Common.{◌≡◌, ℕ, ℤ, List, Some, None, option_and_then, refl, ap, ◌∙◌, subst}
use Rattle.xi_plain.specs.declared.command.Id.{Id}
use Rattle.serde_json.specs.Data.{Data}
use Rattle.json_rpc.specs.Line.{IsLineOf}
use Rattle.json_rpc.specs.Request.{request_of, no_request, or_refusal, value_request, line_request}
use Rattle.json_rpc.specs.Response.{note_data, reply_data, error_data, response_of, line_response}
use Rattle.json_rpc.proofs.ForCallers.{line_request-note}
use Rattle.plugin_wire.specs.Told.{Told, told_name, told_params, told_data}
use Rattle.plugin_wire.specs.Hearing.{heard_request, line_told}
use Rattle.plugin_wire.specs.Fair.{IsFairTold}
use Rattle.plugin_wire.specs.Laws.{IsNoticeOf, NoticesReadBack, AnswersAreNoNotices}
use Rattle.plugin_wire.proofs.Plain.{told_name-scalars, IsWritable-told_data, IsLineOf-told_data}
use Rattle.plugin_wire.proofs.ReadBack.{heard-told_params}

line_told-told_data : (told : Told) (line : List ℕ) → IsLineOf (told_data told) line → IsFairTold told → line_told line ≡ Some told
unfolding line_told
line_told-told_data told line is h = ap heard_request (line_request-note (told_name told) (told_params told) line is (told_name-scalars told)) ∙ heard-told_params told h

note_is_no_answer : (name : List ℕ) (params : Data) (line : List ℕ) → IsLineOf (note_data name params) line → line_response line ≡ None
unfolding response_of
note_is_no_answer name params line is = ap (option_and_then response_of) is.reads

pub IsNoticeOf-line : (told : Told) (line : List ℕ) → IsLineOf (told_data told) line → IsFairTold told → IsNoticeOf told line
IsNoticeOf-line told line is h = record {
  written = is;
  heard = line_told-told_data told line is h;
  no_answer = note_is_no_answer (told_name told) (told_params told) line is;
}

-- the same, of the params that were made
pub IsNoticeOf-params : (told : Told) (params : Data) (line : List ℕ) → params ≡ told_params told → IsFairTold told → IsLineOf (note_data (told_name told) params) line → IsNoticeOf told line
IsNoticeOf-params told params line same h is = IsNoticeOf-line told line (subst (λ d. IsLineOf (note_data (told_name told) d) line) same is) h

pub notices_read_back : NoticesReadBack
notices_read_back told h = (IsNoticeOf-line told _ (IsLineOf-told_data told h) h, (IsWritable-told_data told h).shallow)

-- a value that is no request tells nothing
tells_nothing : (d : Data) (line : List ℕ) → IsLineOf d line → request_of d ≡ None → line_told line ≡ None
unfolding line_told line_request
tells_nothing d line is none =
    ap (λ o. heard_request (value_request o)) is.reads
    ∙ ap (λ o. heard_request (or_refusal no_request o)) none

line_told-reply : (id : Id) (d : Data) (line : List ℕ) → IsLineOf (reply_data id d) line → line_told line ≡ None
unfolding request_of
line_told-reply id d line is = tells_nothing (reply_data id d) line is refl

line_told-error : (id : Id) (code : ℤ) (message line : List ℕ) → IsLineOf (error_data id code message) line → line_told line ≡ None
unfolding request_of
line_told-error id code message line is = tells_nothing (error_data id code message) line is refl

pub answers_are_no_notices : AnswersAreNoNotices
answers_are_no_notices = record { reply = line_told-reply; error = line_told-error }
