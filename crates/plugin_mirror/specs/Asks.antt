-- What a book asks.
use Rattle.std.specs.Prelude.{ℕ, ◌+◌, ◌^◌, pos, Bool, ◌&&◌, nat_lt, if◌then◌else◌, List, [], ◌∷◌, ◌++◌, Some}
use Rattle.plain_text.specs.Text.{byte_len}
use Rattle.xi_plain.specs.declared.command.Id.TheVariants.{NoId, Num}
use Rattle.xi_plain.specs.declared.command.Act.TheVariants.{GetData, Ack}
use Rattle.xi_plain.specs.declared.command.Command.{Command}
use Rattle.plugin_mirror.specs.declared.leaf.Leaf.{Leaf}
use Rattle.plugin_mirror.specs.Leaf.{wants_piece, wants_ack}
use Rattle.plugin_mirror.specs.Book.{Pages}

-- no ask has an id from this number on
abbrev pub id_limit : ℕ
id_limit = 2 ^ 63

-- the page is asked for a piece of its text, where an id is left
abbrev pub asks_piece : ℕ → Leaf → Bool
asks_piece next leaf = wants_piece leaf && nat_lt next id_limit

-- a piece of revision 0 is asked for, from as many bytes on as the page has
abbrev pub piece_ask : ℕ → ℕ → Leaf → Command
piece_ask piece next leaf = record { id = Num (pos next); act = GetData leaf.view 0 (byte_len leaf.page.text) piece }

-- the page's revision is acknowledged
abbrev pub acknowledgement : Leaf → Command
acknowledgement leaf = record { id = NoId; act = Ack leaf.view leaf.page.rev }

-- what is asked of a page, with the next id
abbrev pub asks_of : ℕ → ℕ → Leaf → List Command
asks_of piece next leaf =
    if asks_piece next leaf then piece_ask piece next leaf ∷ [] else (if wants_ack leaf then acknowledgement leaf ∷ [] else [])

-- the next id after that
abbrev pub next_after : ℕ → Leaf → ℕ
next_after next leaf = if asks_piece next leaf then next + 1 else next

-- the page after that
abbrev pub leaf_asked : ℕ → Leaf → Leaf
leaf_asked next leaf =
    if asks_piece next leaf then record leaf { ask = Some next } else (if wants_ack leaf then record leaf { acked = leaf.page.rev } else leaf)

-- what is asked, page by page
abbrev pub commands : ℕ → ℕ → List Leaf → List Command
commands piece next [] = []
commands piece next (leaf ∷ leaves) = asks_of piece next leaf ++ commands piece (next_after next leaf) leaves

-- the pages after that
abbrev pub leaves_asked : ℕ → List Leaf → List Leaf
leaves_asked next [] = []
leaves_asked next (leaf ∷ leaves) = leaf_asked next leaf ∷ leaves_asked (next_after next leaf) leaves

-- the next id after that
abbrev pub next_asked : ℕ → List Leaf → ℕ
next_asked next [] = next
next_asked next (leaf ∷ leaves) = next_asked (next_after next leaf) leaves

-- ALL THAT A BOOK ASKS, in the order of openings
abbrev pub asked : Pages → List Command
asked book = commands book.piece book.next book.leaves

-- the book after that
abbrev pub after_asks : Pages → Pages
after_asks book = record book { next = next_asked book.next book.leaves; leaves = leaves_asked book.next book.leaves }
