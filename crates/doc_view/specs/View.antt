-- THE VIEW of a text: what a document keeps for who is shown its head text.
use Rattle.std.specs.Prelude.{ℕ, ◌+◌, Bool, ◌&&◌, ◌==◌, if◌then◌else◌, List, length, Option}
use Rattle.plain_text.specs.Lines.{logical_lines}
use Rattle.plain_text.specs.declared.run.Run.{Run}
use Rattle.plain_text.specs.declared.selection.Region.{Region}
use Rattle.plain_edits.specs.Styles.{Layer}
use Rattle.xi_plain.specs.declared.config.Config.{Config}
use Rattle.plain_screen.specs.declared.piece.Piece.{Piece}
use Rattle.plain_screen.specs.declared.screen.Line.{Line}
use Rattle.line_break.specs.Pieces.{wrapped_pieces}
use Rattle.selection_core.specs.Selection.{last_caret}
use Rattle.doc_layout.specs.declared.asked.Asked.{Asked}
use Rattle.doc_layout.specs.Layout.{layout, Position, position_of}
use Rattle.doc_view.specs.declared.search.Search.{Search}
use Rattle.doc_view.specs.Search.{results}

-- the text, how it is laid out and edited, the regions on it, for each plugin in order the styles that it gave the characters of the text, the
-- lines that are shown, what is looked for, and the lines that were asked for at the last update, if there was one: these its front end has
pub record View : Type 0 where
  pub text : List ℕ
  pub config : Config
  pub regions : List Region
  pub layers : List Layer
  pub window : Run
  pub query : Search
  pub shown : Option Asked

-- the pieces of the text by wrapping, its layout, and the place of the last region's caret
abbrev pub pieces_in : View → List Piece
pieces_in view = wrapped_pieces view.config.width view.config.tab view.text

abbrev pub layout_in : View → List Line
layout_in view = layout view.text (pieces_in view) view.regions (results view.text view.query) view.layers

abbrev pub point_in : View → Position
point_in view = position_of view.text (pieces_in view) (last_caret view.regions)

-- the lines that it asks for with a request
abbrev pub asked_in : View → Run → Asked
asked_in view request = record { window = view.window; request = request }

-- whether two configurations cut a text alike: into lines of one width, with tabs of one width
abbrev pub has_same_widths : Config → Config → Bool
has_same_widths config other = config.tab == other.tab && config.width == other.width

-- THE STEPS OF ANOTHER CONFIGURATION: none where the text is cut alike, and else one a logical line, and two more
abbrev pub config_ticks : View → Config → ℕ
config_ticks view config = if has_same_widths config view.config then 0 else length (logical_lines view.text) + 2
