-- What a book has of a teller's texts.
use Rattle.std.specs.Prelude.{◌≡◌, ℕ, ◌+◌, ◌-◌, ◌/◌, ◌≤◌, true, false, List, [], ◌∷◌, ◌++◌, Ok, IsOk, ⊤}
use Rattle.plain_text.specs.Text.{byte_len}
use Rattle.xi_plain.specs.declared.command.Command.{Command}
use Rattle.xi_plain.specs.declared.config.Notice.{Notice}
use Rattle.plugin_side.specs.declared.heard.Heard.{Heard}
use Rattle.plugin_mirror.specs.declared.leaf.Leaf.{Leaf}
use Rattle.plugin_mirror.specs.Leaf.{opened, with_update, with_chunk}
use Rattle.plugin_mirror.specs.Book.{Pages, with_leaves, taken}
use Rattle.plugin_mirror.specs.Asks.{asked, after_asks, leaf_asked}
use Rattle.plugin_mirror.specs.Teller.{Tales, ToldView, TellsLine, IsPiece}

-- ---- a book says the teller's texts

-- what a book is given: a line, or to ask
pub data Event : Type 0 where
  line : Heard → Event
  asking : Event

-- how far teller and book are: the views told, the commands asked, and the book
pub record Telling : Type 0 where
  pub views : List ToldView
  pub commands : List Command
  pub book : Pages

-- before any line
abbrev pub start : ℕ → Telling
start piece = record { views = []; commands = []; book = record { piece = piece; next = 0; leaves = [] } }

-- a line of the teller was taken
pub record IsTaken (tales : Tales) (heard : Heard) (old new : Telling) : Type 0 where
  pub tells : TellsLine tales heard old.commands old.book.leaves old.views new.views
  pub takes : taken heard old.book.leaves ≡ Ok new.book.leaves
  pub book : new.book ≡ with_leaves old.book new.book.leaves
  pub commands : new.commands ≡ old.commands

-- the book asked
abbrev pub after_asking : Telling → Telling
after_asking old = record { views = old.views; commands = old.commands ++ asked old.book; book = after_asks old.book }

-- one event
abbrev pub IsStep : Tales → Event → Telling → Telling → Type 0
IsStep tales (line heard) old new = IsTaken tales heard old new
IsStep tales asking old new = new ≡ after_asking old

-- events one after the other
abbrev pub AreSteps : Tales → Telling → List Event → Telling → Type 0
AreSteps tales old [] new = new ≡ old
AreSteps tales old (event ∷ events) new = (next : Telling) × IsStep tales event old next × AreSteps tales next events new

-- a page is of the view told, and if it is whole, it has the last revision told, and the teller's text there
pub record SaysText (tales : Tales) (one : ToldView) (leaf : Leaf) : Type 0 where
  pub view : leaf.view ≡ one.view
  pub rev : leaf.page.whole ≡ true → leaf.page.rev ≡ one.last
  pub text : leaf.page.whole ≡ true → leaf.page.text ≡ tales one.view one.last

-- the pages are those of the views told, in the order of their openings
abbrev pub SayTexts : Tales → List ToldView → List Leaf → Type 0
SayTexts tales [] [] = ⊤
SayTexts tales [] (leaf ∷ leaves) = ⊥
SayTexts tales (one ∷ views) [] = ⊥
SayTexts tales (one ∷ views) (leaf ∷ leaves) = SaysText tales one leaf × SayTexts tales views leaves

-- A BOOK SAYS THE TELLER'S TEXTS, after any of its lines and any asks between them; and what it tells next is taken without a fault
abbrev pub BooksSayTexts : Type 0
BooksSayTexts =
    (tales : Tales) (piece : ℕ) (events : List Event) (now : Telling) → AreSteps tales (start piece) events now →
    SayTexts tales now.views now.book.leaves ×
    ((heard : Heard) (views : List ToldView) → TellsLine tales heard now.commands now.book.leaves now.views views → IsOk (taken heard now.book.leaves))

-- ---- a page is whole in time

-- what comes to one page: a piece of its text, an update, or to be asked for
pub data LeafEvent : Type 0 where
  chunk : List ℕ → LeafEvent
  update : Notice → LeafEvent
  ask : ℕ → LeafEvent

-- one of these: a chunk is the piece of the text that starts where the page ends, and comes to a page that is not whole
abbrev pub IsLeafStep : List ℕ → ℕ → LeafEvent → Leaf → Leaf → Type 0
IsLeafStep text piece (chunk got) old new =
    (old.page.whole ≡ false) × IsPiece text (byte_len old.page.text) piece got × (with_chunk got (byte_len old.page.text) old ≡ Ok new)
IsLeafStep text piece (update notice) old new = with_update notice old ≡ Ok new
IsLeafStep text piece (ask next) old new = new ≡ leaf_asked next old

-- these, one after the other
abbrev pub AreLeafSteps : List ℕ → ℕ → Leaf → List LeafEvent → Leaf → Type 0
AreLeafSteps text piece old [] new = new ≡ old
AreLeafSteps text piece old (event ∷ events) new = (next : Leaf) × IsLeafStep text piece event old next × AreLeafSteps text piece next events new

-- how many of them are chunks
abbrev pub chunks_in : List LeafEvent → ℕ
chunks_in [] = 0
chunks_in (chunk got ∷ events) = chunks_in events + 1
chunks_in (update notice ∷ events) = chunks_in events
chunks_in (ask next ∷ events) = chunks_in events

-- A PAGE IS WHOLE IN TIME, after at most so many chunks: each but the last has at least all but three bytes of a piece
abbrev pub PagesAreWholeInTime : Type 0
PagesAreWholeInTime =
    (view text : List ℕ) (piece : ℕ) (events : List LeafEvent) (leaf : Leaf) → 4 ≤ piece → AreLeafSteps text piece (opened view (byte_len text)) events leaf →
    byte_len text / (piece - 3) + 1 ≤ chunks_in events → leaf.page.whole ≡ true
