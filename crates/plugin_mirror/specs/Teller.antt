-- Who tells a book the truth: a function from views and revisions to texts, and the lines that it tells.
use Rattle.std.specs.Prelude.{◌≡◌, ℕ, ◌+◌, ◌≤◌, ◌<◌, Bool, true, false, ◌⊎◌, List, [], ◌∷◌, ◌++◌, ⊤}
use Rattle.std.specs.Char.{len_utf8}
use Rattle.std.specs.List.{AllByRecursion, list_any}
use Rattle.std.specs.Str.{bytes_eq, encode_utf8_all}
use Rattle.plain_text.specs.Text.{byte_len}
use Rattle.plain_edits.specs.Delta.{Fits}
use Rattle.xi_plain.specs.declared.command.Id.{Id}
use Rattle.xi_plain.specs.declared.command.Act.{Act}
use Rattle.xi_plain.specs.declared.command.Act.TheVariants.{GetData}
use Rattle.xi_plain.specs.declared.command.Command.{Command}
use Rattle.xi_plain.specs.declared.config.Notice.{Notice}
use Rattle.plugin_side.specs.declared.heard.Told.{Told}
use Rattle.plugin_side.specs.declared.heard.Told.TheVariants.{Started, Opened, Changed, Closed, Stopped}
use Rattle.plugin_side.specs.declared.heard.Answered.{Answered}
use Rattle.plugin_side.specs.declared.heard.Answered.TheVariants.{Chunk, Edited, Lines, Null, Failed, Other}
use Rattle.plugin_side.specs.declared.heard.Heard.{Heard}
use Rattle.plugin_side.specs.declared.heard.Heard.TheVariants as Hears
use Rattle.plugin_mirror.specs.declared.leaf.Leaf.{Leaf}
use Rattle.plugin_mirror.specs.Leaf.{text_by, is_asked}
use Rattle.plugin_mirror.specs.Book.{is_to_nobody}

-- the text of each view at each revision
abbrev pub Tales : Type 0
Tales = List ℕ → ℕ → List ℕ

-- a view that was told, and the last revision of it
pub record ToldView : Type 0 where
  pub view : List ℕ
  pub last : ℕ

-- it is this view
abbrev pub is_view : List ℕ → ToldView → Bool
is_view view one = bytes_eq (encode_utf8_all one.view) (encode_utf8_all view)

-- ---- pieces

-- the next character, if there is one, would not go in too
abbrev pub IsFull : ℕ → List ℕ → List ℕ → Type 0
IsFull most chunk [] = ⊤
IsFull most chunk (c ∷ rest) = most < byte_len chunk + len_utf8 c

-- A PIECE: the longest text from a place on of at most so many bytes that ends at a place
pub record IsPiece (text : List ℕ) (from most : ℕ) (chunk : List ℕ) : Type 0 where
  pub front : List ℕ
  pub rest : List ℕ
  pub cut : text ≡ front ++ (chunk ++ rest)
  pub starts : from ≡ byte_len front
  pub within : byte_len chunk ≤ most
  pub full : IsFull most chunk rest

-- what an ask is answered truly: a piece of revision 0, from where it was asked
abbrev pub AnswersTruly : Tales → List ℕ → ℕ → Act → Type 0
AnswersTruly tales text offset (GetData view rev start most) = rev ≡ 0 → (offset ≡ start) × IsPiece (tales view 0) start most text
AnswersTruly tales text offset act = ⊤

-- ---- revisions

-- an update leads from the text of the last revision to that of the next one, and says its length
pub record TellsUpdate (tales : Tales) (view : List ℕ) (last : ℕ) (notice : Notice) : Type 0 where
  pub rev : notice.rev ≡ last + 1
  pub fits : Fits (tales view last) notice.delta
  pub leads : text_by (tales view last) notice.delta ≡ tales view (last + 1)
  pub len : notice.new_len ≡ byte_len (tales view (last + 1))

-- the first view that is meant was told an update
abbrev pub TellsChange : Tales → Notice → List ToldView → List ToldView → Type 0
TellsChange tales notice [] after = ⊥
TellsChange tales notice (one ∷ views) [] = ⊥
TellsChange tales notice (one ∷ views) (new ∷ after) =
    ((is_view notice.view one ≡ true) × TellsUpdate tales one.view one.last notice × (new ≡ record one { last = notice.rev }) × (after ≡ views)) ⊎
    ((is_view notice.view one ≡ false) × (new ≡ one) × TellsChange tales notice views after)

-- the first view that is meant is told no more
abbrev pub TellsClosing : List ℕ → List ToldView → List ToldView → Type 0
TellsClosing view [] after = ⊥
TellsClosing view (one ∷ views) after =
    ((is_view view one ≡ true) × (after ≡ views)) ⊎
    ((is_view view one ≡ false) × (rest : List ToldView) × (after ≡ one ∷ rest) × TellsClosing view views rest)

-- a view that was not told is told, with the bytes of its revision 0
pub record TellsOpening (tales : Tales) (view : List ℕ) (len : ℕ) (before after : List ToldView) : Type 0 where
  pub unknown : AllByRecursion (λ one. is_view view one ≡ false) before
  pub bytes : len ≡ byte_len (tales view 0)
  pub opened : after ≡ before ++ record { view = view; last = 0 } ∷ []

-- ---- lines

-- a notice
abbrev pub TellsNotice : Tales → Told → List ToldView → List ToldView → Type 0
TellsNotice tales (Started caller) before after = after ≡ before
TellsNotice tales (Opened view len) before after = TellsOpening tales view len before after
TellsNotice tales (Changed notice) before after = TellsChange tales notice before after
TellsNotice tales (Closed view) before after = TellsClosing view before after
TellsNotice tales Stopped before after = after ≡ before

-- an ask with this id is open
abbrev pub IsOpen : Id → List Leaf → Type 0
IsOpen id leaves = list_any (is_asked id) leaves ≡ true

-- an answer, where these commands were asked, and these are the pages: it is one to an open ask, and true for what was asked with its id,
-- or it is an error
abbrev pub TellsAnswer : Tales → Id → Answered → List Command → List Leaf → Type 0
TellsAnswer tales id (Chunk text offset) commands leaves =
    IsOpen id leaves × AllByRecursion (λ command. command.id ≡ id → AnswersTruly tales text offset command.act) commands
TellsAnswer tales id (Failed code message) commands leaves = IsOpen id leaves ⊎ (is_to_nobody id (Failed code message) ≡ true)
TellsAnswer tales id (Edited rev group) commands leaves = ⊥
TellsAnswer tales id (Lines n) commands leaves = ⊥
TellsAnswer tales id Null commands leaves = ⊥
TellsAnswer tales id Other commands leaves = ⊥

-- A LINE OF A TELLER, by what is heard in it
abbrev pub TellsLine : Tales → Heard → List Command → List Leaf → List ToldView → List ToldView → Type 0
TellsLine tales (Hears.Told told) commands leaves before after = TellsNotice tales told before after
TellsLine tales (Hears.Answer id answer) commands leaves before after = TellsAnswer tales id answer commands leaves × (after ≡ before)
TellsLine tales Hears.Nothing commands leaves before after = ⊥
