-- A law of layouts: they tell which characters are selected, and which are found.
use Rattle.std.specs.Prelude.{◌≡◌, ℕ, ◌<◌, ◌≤◌, List, length, IfSome}
use Rattle.std.specs.List.{AllByRecursion}
use Rattle.plain_text.specs.declared.run.Run.{Run}
use Rattle.plain_text.specs.declared.selection.Region.{Region}
use Rattle.plain_edits.specs.Styles.{Layer}
use Rattle.plain_screen.specs.declared.piece.Piece.{Piece}
use Rattle.plain_screen.specs.View.{ArePieces}
use Rattle.line_render.specs.Rendered.{is_selected}
use Rattle.doc_layout.specs.Found.{is_found}
use Rattle.doc_layout.specs.Layout.{layout}

-- layers none of whose styles has the id of selected characters, 0, or of found ones, 1
abbrev pub HaveOwnIds : List Layer → Type 0
HaveOwnIds layers = AllByRecursion (λ layer. AllByRecursion (λ style. IfSome style (λ id. 2 ≤ id)) layer) layers

-- a layout has the selected and the found characters of its text: where two layouts are one, the same characters are selected, and the same are
-- found. It asks of layers that their ids are their own: a layer with the id 0 on its first two characters shows what a selection of these shows
abbrev pub LayoutsTellMarks : Type 0
LayoutsTellMarks = (text other : List ℕ) (pieces parts : List Piece) (regions others : List Region) (results founds : List Run)
    (layers styles : List Layer) →
    ArePieces text pieces → ArePieces other parts → HaveOwnIds layers → HaveOwnIds styles →
    layout text pieces regions results layers ≡ layout other parts others founds styles →
    (index : ℕ) → index < length text →
    (is_selected regions index ≡ is_selected others index) × (is_found results index ≡ is_found founds index)
