-- A plugin's book: its pages, and what a line makes of them.
use Rattle.std.specs.Prelude.{ℕ, Bool, true, false, if◌then◌else◌, List, [], ◌∷◌, Option, option_map, Result, Ok, Err}
use Rattle.std.specs.List.{find}
use Rattle.xi_plain.specs.declared.command.Id.{Id}
use Rattle.xi_plain.specs.declared.command.Id.TheVariants.{NoId}
use Rattle.xi_plain.specs.declared.config.Notice.{Notice}
use Rattle.plugin_side.specs.declared.heard.Told.{Told}
use Rattle.plugin_side.specs.declared.heard.Told.TheVariants.{Started, Opened, Changed, Closed, Stopped}
use Rattle.plugin_side.specs.declared.heard.Answered.{Answered}
use Rattle.plugin_side.specs.declared.heard.Answered.TheVariants.{Failed}
use Rattle.plugin_side.specs.declared.heard.Heard.{Heard}
use Rattle.plugin_side.specs.declared.heard.Heard.TheVariants as Hears
use Rattle.plugin_mirror.specs.declared.page.Page.{Page}
use Rattle.plugin_mirror.specs.declared.fault.BookFault.{BookFault}
use Rattle.plugin_mirror.specs.declared.fault.BookFault.TheVariants.{Unread, Unknown}
use Rattle.plugin_mirror.specs.declared.leaf.Leaf.{Leaf}
use Rattle.plugin_mirror.specs.Leaf.{then_if_ok, opened, with_update, with_answer, is_of, is_asked}

-- A BOOK: the most bytes that it asks for at once, the id of its next ask, and its pages, in the order of openings
pub record Pages : Type 0 where
  pub piece : ℕ
  pub next : ℕ
  pub leaves : List Leaf

-- the book with these pages
abbrev pub with_leaves : Pages → List Leaf → Pages
with_leaves book leaves = record book { leaves = leaves }

-- the pages after a step of the first that is meant, or this fault where none is
abbrev pub at_leaf : (Leaf → Bool) → BookFault → (Leaf → Result Leaf BookFault) → List Leaf → Result (List Leaf) BookFault
at_leaf meant none step [] = Err none
at_leaf meant none step (leaf ∷ leaves) =
    if meant leaf then then_if_ok (step leaf) (λ new. Ok (new ∷ leaves))
    else then_if_ok (at_leaf meant none step leaves) (λ news. Ok (leaf ∷ news))

-- the pages with one of this view that begins anew: in its place, or behind the others
abbrev pub with_opened : List ℕ → ℕ → List Leaf → List Leaf
with_opened view len [] = opened view len ∷ []
with_opened view len (leaf ∷ leaves) = if is_of view leaf then opened view len ∷ leaves else leaf ∷ with_opened view len leaves

-- the pages without that of this view
abbrev pub without : List ℕ → List Leaf → Result (List Leaf) BookFault
without view [] = Err (Unknown view)
without view (leaf ∷ leaves) = if is_of view leaf then Ok leaves else then_if_ok (without view leaves) (λ rest. Ok (leaf ∷ rest))

-- the pages after an update
abbrev pub changed : Notice → List Leaf → Result (List Leaf) BookFault
changed notice leaves = at_leaf (is_of notice.view) (Unknown notice.view) (with_update notice) leaves

-- the pages after a notice
abbrev pub after_told : Told → List Leaf → Result (List Leaf) BookFault
after_told (Started caller) leaves = Ok leaves
after_told (Opened view len) leaves = Ok (with_opened view len leaves)
after_told (Changed notice) leaves = changed notice leaves
after_told (Closed view) leaves = without view leaves
after_told Stopped leaves = Ok leaves

-- the answer is an error, which answers a line without an id
abbrev pub is_to_nobody : Id → Answered → Bool
is_to_nobody NoId (Failed code message) = true
is_to_nobody id answer = false

-- the pages after an answer
abbrev pub after_answer : Id → Answered → List Leaf → Result (List Leaf) BookFault
after_answer id answer leaves = if is_to_nobody id answer then Ok leaves else at_leaf (is_asked id) Unread (with_answer answer) leaves

-- THE PAGES AFTER A LINE, by what is heard in it
abbrev pub taken : Heard → List Leaf → Result (List Leaf) BookFault
taken (Hears.Told told) leaves = after_told told leaves
taken (Hears.Answer id answer) leaves = after_answer id answer leaves
taken Hears.Nothing leaves = Err Unread

-- the page of a view, if it is open
abbrev pub page_of : List ℕ → List Leaf → Option Page
page_of view leaves = option_map (λ leaf. leaf.page) (find (is_of view) leaves)
