-- Laws of what an entry says, on data alone.
use Rattle.std.specs.Prelude.{◌≡◌, ◌++◌, ◌<◌, ◌^◌, ℕ, List, [], ◌∷◌, map, Option, Some, IfSome, IsAscii}
use Rattle.std.specs.List.{filter_map, AllByRecursion}
use Rattle.plain_text.specs.InputLines.{lines_of}
use Rattle.xi_plain.specs.declared.command.Id.{Id}
use Rattle.serde_json.specs.Data.{Data}
use Rattle.json_rpc.specs.Line.{line_of, line_feed}
use Rattle.json_rpc.specs.Request.{IsTextId}
use Rattle.json_rpc.specs.Response.{given, line_response}
use Rattle.view_update.specs.declared.note.ViewUpdate.{ViewUpdate}
use Rattle.view_update.specs.declared.note.Scroll.{Scroll}
use Rattle.view_update.specs.declared.note.NumberedStyle.{NumberedStyle}
use Rattle.view_update.specs.Reading.{line_update}
use Rattle.entry_lines.specs.Answer.{Reply, accepted, answers}
use Rattle.entry_lines.specs.Piece.{entry_messages, lines_written, HaveLines, UpdatesReadBack}
use Rattle.entry_lines.specs.PluginAnswer.{gives, plugin_answer, IsTextOf}
use Rattle.entry_lines.specs.ViewId.{view_id_of}

-- A PIECE SAYS ITS UPDATES, in their order, and no other: no answer, alert, style or place to scroll to reads as one, whatever texts stand
-- in them
abbrev pub PiecesSayTheirUpdates : Type 0
PiecesSayTheirUpdates = (id : Id) (reply : Reply) (styles : List NumberedStyle) (updates : List ViewUpdate) (scroll : Option Scroll)
    → HaveLines (entry_messages id reply styles updates scroll) → UpdatesReadBack updates
    → filter_map line_update (lines_of (lines_written (entry_messages id reply styles updates scroll))) ≡ map Some updates

-- a line that gives this result names the request with this id
abbrev pub Gives : Id → Data → List ℕ → Type 0
Gives id result line = line_response line ≡ Some (record { id = id; answer = given result })

-- AN ANSWER THAT TELLS A RESULT HAS THE ID of the request, to the front end and to a plugin
pub record ResultsNameTheRequest : Type 0 where
  pub front : (id : Id) (result : Data) → IsTextId id → HaveLines (answers id (accepted result))
      → AllByRecursion (λ message. Gives id result (line_of message)) (answers id (accepted result))
  pub plugin : (id : Id) (result : Data) (bytes : List ℕ) → IsTextId id
      → IfSome (plugin_answer id (gives result)) (λ message. IsTextOf message bytes → Gives id result (bytes ++ line_feed ∷ []))

-- TWO NUMBERS HAVE TWO IDS; and an id is the bytes that it is in UTF-8
pub record ViewIdsDiffer : Type 0 where
  pub apart : (m n : ℕ) → m < 2 ^ 64 → n < 2 ^ 64 → view_id_of m ≡ view_id_of n → m ≡ n
  pub ascii : (n : ℕ) → n < 2 ^ 64 → IsAscii (view_id_of n)
