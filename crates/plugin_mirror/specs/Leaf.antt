-- One page of a book, and its steps.
use Rattle.std.specs.Prelude.{ℕ, ◌+◌, ◌==◌, ℤ, pos, negsuc, Bool, true, false, not, ◌&&◌, nat_lt, if◌then◌else◌, List, [], ◌∷◌, ◌++◌, Option, Some, None, is_some, Result, Ok, Err}
use Rattle.std.specs.Str.{bytes_eq, encode_utf8_all}
use Rattle.plain_text.specs.Text.{byte_len}
use Rattle.plain_edits.specs.declared.delta.Delta.{Delta}
use Rattle.plain_edits.specs.declared.delta.Misfit.{Misfit}
use Rattle.plain_edits.specs.Delta.{misfit_of, keeps, adds, applied}
use Rattle.xi_plain.specs.declared.command.Id.{Id}
use Rattle.xi_plain.specs.declared.command.Id.TheVariants.{NoId, Num, Word}
use Rattle.xi_plain.specs.declared.config.Notice.{Notice}
use Rattle.plugin_side.specs.declared.heard.Answered.{Answered}
use Rattle.plugin_side.specs.declared.heard.Answered.TheVariants.{Chunk, Edited, Lines, Null, Failed, Other}
use Rattle.plugin_mirror.specs.declared.page.Page.{Page}
use Rattle.plugin_mirror.specs.declared.fault.BookFault.{BookFault}
use Rattle.plugin_mirror.specs.declared.fault.BookFault.TheVariants.{Unread, Gap, Bad, Length}
use Rattle.plugin_mirror.specs.declared.leaf.Leaf.{Leaf}

-- what comes next, where there was no fault
abbrev pub then_if_ok : {A B : Type 0} → Result A BookFault → (A → Result B BookFault) → Result B BookFault
then_if_ok (Err fault) next = Err fault
then_if_ok (Ok x) next = next x

-- ---- an opening

-- the page of a view that was opened on so many bytes: it has no text yet, and nothing is asked
abbrev pub opened : List ℕ → ℕ → Leaf
opened view len =
    record {
      view = view;
      len = len;
      page = record { rev = 0; whole = len == 0; text = [] };
      last = 0;
      kept = [];
      ask = None;
      refused = false;
      acked = 0;
    }

-- ---- an update

-- the text that a delta which fits makes of a text
abbrev pub text_by : List ℕ → Delta → List ℕ
text_by text delta = applied (keeps text delta) (adds text delta) text

-- the page with this text at the revision of the update, if it has the length that the update says
abbrev pub of_length : Notice → List ℕ → Result Page BookFault
of_length notice text =
    if byte_len text == notice.new_len then Ok (record { rev = notice.rev; whole = true; text = text }) else Err (Length (byte_len text))

-- the same, unless the delta misfits
abbrev pub unless_misfit : Option Misfit → Notice → List ℕ → Result Page BookFault
unless_misfit (Some misfit) notice text = Err (Bad misfit)
unless_misfit None notice text = of_length notice (text_by text notice.delta)

-- a whole page after an update
abbrev pub page_after : Page → Notice → Result Page BookFault
page_after page notice = unless_misfit (misfit_of page.text notice.delta) notice page.text

-- a whole page after updates, in their order
abbrev pub settled : List Notice → Page → Result Page BookFault
settled [] page = Ok page
settled (notice ∷ notices) page = then_if_ok (page_after page notice) (settled notices)

-- the leaf whose page is this one, and whose last revision that of the update
abbrev pub revised : Leaf → Notice → Page → Leaf
revised leaf notice page = record leaf { page = page; last = notice.rev }

-- the leaf that keeps the update for later
abbrev pub keeping : Leaf → Notice → Leaf
keeping leaf notice = record leaf { kept = leaf.kept ++ notice ∷ []; last = notice.rev }

-- a leaf after the update that is its next one
abbrev pub with_next : Notice → Leaf → Result Leaf BookFault
with_next notice leaf =
    if leaf.page.whole then then_if_ok (page_after leaf.page notice) (λ page. Ok (revised leaf notice page)) else Ok (keeping leaf notice)

-- A LEAF AFTER AN UPDATE
abbrev pub with_update : Notice → Leaf → Result Leaf BookFault
with_update notice leaf = if notice.rev == leaf.last + 1 then with_next notice leaf else Err (Gap leaf.last)

-- ---- an answer to its open ask

-- the leaf whose page is not whole yet, with this text
abbrev pub grown : Leaf → List ℕ → Leaf
grown leaf text = record leaf { page = record { rev = leaf.page.rev; whole = false; text = text }; ask = None }

-- the leaf whose page is this one, with nothing kept
abbrev pub finished : Leaf → Page → Leaf
finished leaf page = record leaf { page = page; kept = []; ask = None }

-- the leaf that was refused its text
abbrev pub given_up : Leaf → Leaf
given_up leaf = record leaf { ask = None; refused = true }

-- the whole page of this text, at the revision that the page has
abbrev pub whole_page : Leaf → List ℕ → Page
whole_page leaf text = record { rev = leaf.page.rev; whole = true; text = text }

-- the leaf whose page is whole with this text: what was kept is applied
abbrev pub completed : Leaf → List ℕ → Result Leaf BookFault
completed leaf text = then_if_ok (settled leaf.kept (whole_page leaf text)) (λ page. Ok (finished leaf page))

-- the leaf with this text of revision 0, which is whole if it is as long as was said
abbrev pub with_text : Leaf → List ℕ → Result Leaf BookFault
with_text leaf text =
    if nat_lt (byte_len text) leaf.len then Ok (grown leaf text)
    else (if byte_len text == leaf.len then completed leaf text else Err (Length (byte_len text)))

-- the same, with a chunk that starts where the text ends
abbrev pub with_chunk : List ℕ → ℕ → Leaf → Result Leaf BookFault
with_chunk text offset leaf = if offset == byte_len leaf.page.text then with_text leaf (leaf.page.text ++ text) else Err Unread

-- A LEAF AFTER THE ANSWER to its open ask
abbrev pub with_answer : Answered → Leaf → Result Leaf BookFault
with_answer (Chunk text offset) leaf = with_chunk text offset leaf
with_answer (Failed code message) leaf = Ok (given_up leaf)
with_answer (Edited rev group) leaf = Err Unread
with_answer (Lines n) leaf = Err Unread
with_answer Null leaf = Err Unread
with_answer Other leaf = Err Unread

-- ---- which leaf is meant

-- the page is of this view
abbrev pub is_of : List ℕ → Leaf → Bool
is_of view leaf = bytes_eq (encode_utf8_all leaf.view) (encode_utf8_all view)

-- the number of an open ask is this one
abbrev pub is_number : Option ℕ → ℤ → Bool
is_number None z = false
is_number (Some ask) (pos n) = ask == n
is_number (Some ask) (negsuc n) = false

-- the open ask has this id
abbrev pub is_ask : Id → Option ℕ → Bool
is_ask NoId ask = false
is_ask (Num z) ask = is_number ask z
is_ask (Word text) ask = false

-- the page has an open ask with this id
abbrev pub is_asked : Id → Leaf → Bool
is_asked id leaf = is_ask id leaf.ask

-- ---- what it wants

-- the page waits for a piece of its text, and none is asked for
abbrev pub wants_piece : Leaf → Bool
wants_piece leaf = not leaf.page.whole && not leaf.refused && not (is_some leaf.ask)

-- the page is whole, at a revision that was not acknowledged yet
abbrev pub wants_ack : Leaf → Bool
wants_ack leaf = leaf.page.whole && nat_lt leaf.acked leaf.page.rev
