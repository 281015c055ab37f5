-- The laws of what plugins are told, on data alone.
use Rattle.std.specs.Prelude.{◌≡◌, ◌≤◌, ℤ, ℕ, List, Some, None}
use Rattle.xi_plain.specs.declared.command.Id.{Id}
use Rattle.serde_json.specs.Data.{Data, depth}
use Rattle.json_rpc.specs.Line.{line_of, IsLineOf}
use Rattle.json_rpc.specs.Response.{reply_data, error_data, line_response}
use Rattle.plugin_wire.specs.Told.{Told, told_data}
use Rattle.plugin_wire.specs.Hearing.{line_told}
use Rattle.plugin_wire.specs.Fair.{IsFairTold}

-- the line tells this: it is one line of text, a plugin hears the same in it, and it answers nobody
pub record IsNoticeOf (told : Told) (line : List ℕ) : Type 0 where
  pub written : IsLineOf (told_data told) line
  pub heard : line_told line ≡ Some told
  pub no_answer : line_response line ≡ None

-- THE ROUND TRIP: whatever a plugin is told, it hears the same; and the line nests 6 deep at most
abbrev pub NoticesReadBack : Type 0
NoticesReadBack = (told : Told) → IsFairTold told → IsNoticeOf told (line_of (told_data told)) × (depth (told_data told) ≤ 6)

-- no answer is heard as a notice
pub record AnswersAreNoNotices : Type 0 where
  pub reply : (id : Id) (result : Data) (line : List ℕ) → IsLineOf (reply_data id result) line → line_told line ≡ None
  pub error : (id : Id) (code : ℤ) (message line : List ℕ) → IsLineOf (error_data id code message) line → line_told line ≡ None
