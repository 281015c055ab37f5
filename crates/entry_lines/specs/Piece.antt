-- THE PIECE of an entry: the lines of its messages, one after the other.
use Rattle.std.specs.Prelude.{◌≡◌, ℕ, List, [], ◌∷◌, ◌++◌, map, Option, Some, None}
use Rattle.std.specs.List.{AllByRecursion, concat}
use Rattle.std.specs.Str.{encode_utf8_all}
use Rattle.serde_json.specs.Data.{Data}
use Rattle.xi_plain.specs.declared.command.Id.{Id}
use Rattle.json_rpc.specs.Line.{line_of, IsLineOf}
use Rattle.view_update.specs.Written.{update_data}
use Rattle.view_update.specs.Notes.{scroll_data, style_data}
use Rattle.view_update.specs.declared.note.ViewUpdate.{ViewUpdate}
use Rattle.view_update.specs.declared.note.Scroll.{Scroll}
use Rattle.view_update.specs.declared.note.NumberedStyle.{NumberedStyle}
use Rattle.view_update.specs.Reading.{line_update}
use Rattle.entry_lines.specs.declared.piece.FrontNews.{FrontNews}
use Rattle.entry_lines.specs.Answer.{Reply, reply_of, answers}

-- the notes of styles, of updates, and of a place to scroll to
abbrev pub style_notes : List NumberedStyle → List Data
style_notes styles = map (λ numbered. style_data numbered.id numbered.style) styles

abbrev pub update_notes : List ViewUpdate → List Data
update_notes updates = map (λ told. update_data told.view told.update) updates

abbrev pub scroll_notes : Option Scroll → List Data
scroll_notes None = []
scroll_notes (Some place) = scroll_data place.view place.line place.col ∷ []

-- THE MESSAGES of an entry in their order: its answer, the styles that are new, the updates, and the place to scroll to
abbrev pub entry_messages : Id → Reply → List NumberedStyle → List ViewUpdate → Option Scroll → List Data
entry_messages id reply styles updates scroll = answers id reply ++ (style_notes styles ++ (update_notes updates ++ scroll_notes scroll))

-- those of what an entry tells in memory
abbrev pub news_messages : Id → FrontNews → List Data
news_messages id news = entry_messages id (reply_of news.reply) news.styles news.updates news.scroll

-- the lines of messages, one after the other
abbrev pub lines_written : List Data → List ℕ
lines_written written = concat (map line_of written)

-- each message's line is one line of text that reads as it
abbrev pub HaveLines : List Data → Type 0
HaveLines messages = AllByRecursion (λ message. IsLineOf message (line_of message)) messages

-- the bytes are the lines of the messages, and each of these lines reads as its message
pub record AreLinesOf (messages : List Data) (bytes : List ℕ) : Type 0 where
  pub joined : bytes ≡ lines_written messages
  pub each : HaveLines messages

-- the lines of the messages were put at the end of a text
pub record AddsLines (messages : List Data) (old new : List ℕ) : Type 0 where
  pub joined : encode_utf8_all new ≡ encode_utf8_all old ++ lines_written messages
  pub each : HaveLines messages

-- the line of an update reads back as it
abbrev pub ReadsBack : ViewUpdate → Type 0
ReadsBack told = line_update (line_of (update_data told.view told.update)) ≡ Some (Some told)

-- the line of each of them does
abbrev pub UpdatesReadBack : List ViewUpdate → Type 0
UpdatesReadBack updates = AllByRecursion ReadsBack updates
