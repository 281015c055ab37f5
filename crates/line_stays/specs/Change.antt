-- What an event leaves of a text and of what is shown on it, and which logical lines it touches by text.
use Rattle.std.specs.Prelude.{◌≡◌, ℕ, ◌+◌, ◌-◌, ◌<◌, ◌≤◌, Bool, false, nat_le, List, length, take, drop, ⊤}
use Rattle.std.specs.List.{flat_map}
use Rattle.plain_text.specs.declared.run.Run.{Run}
use Rattle.plain_edits.specs.Styles.{Layer}
use Rattle.plain_screen.specs.View.{logical_line_of}
use Rattle.span_runs.specs.Spans.{spans_in}
use Rattle.doc_layout.specs.Laws.{styles_at}
use Rattle.line_stays.specs.declared.change.Change.{Change}
use Rattle.line_stays.specs.declared.change.Change.TheVariants.{Nothing, Styled, Edited}

-- THE LOGICAL LINES THAT A CHANGE TOUCHES BY TEXT, by index in the text after it: from that of the first gap that is not left to that of the last
abbrev pub touched_by : Change → List ℕ → Run
touched_by Nothing text = record { start = 0; end = 0 }
touched_by (Styled from) text = record { start = 0; end = 0 }
touched_by (Edited front back) text = record {
  start = (logical_line_of text front).index;
  end = (logical_line_of text (length text - back)).index + 1;
}

-- two lists of layers show the same up to a gap
abbrev pub ShowTheSame : ℕ → List Layer → List Layer → Type 0
ShowTheSame gap layers styles = (range : Run) → range.end ≤ gap → flat_map (spans_in range) layers ≡ flat_map (spans_in range) styles

-- an edit left so many characters at the start and at the end of a text, with their styles
pub record IsEditedTo (front back : ℕ) (text made : List ℕ) (layers styles : List Layer) : Type 0 where
  pub before : front + back ≤ length text
  pub after : front + back ≤ length made
  pub left : take front text ≡ take front made
  pub right : drop (length text - back) text ≡ drop (length made - back) made
  pub as_many : length layers ≡ length styles
  pub styled : ShowTheSame front layers styles
  pub restyled : (index : ℕ) → index < back → styles_at layers (length text - back + index) ≡ styles_at styles (length made - back + index)

-- THE CHANGE IS OF A TEXT: both texts are one but where it was edited, and so are the styles
abbrev pub IsChangeTo : Change → List ℕ → List ℕ → List Layer → List Layer → Type 0
IsChangeTo Nothing text made layers styles = (made ≡ text) × ShowTheSame (length text) layers styles
IsChangeTo (Styled from) text made layers styles = (made ≡ text) × ShowTheSame from layers styles
IsChangeTo (Edited front back) text made layers styles = IsEditedTo front back text made layers styles

-- whether a change leaves the text as it was
abbrev pub LeavesText : Change → Type 0
LeavesText Nothing = ⊤
LeavesText (Styled from) = ⊤
LeavesText (Edited front back) = ⊥

-- whether the character with an index may have other styles then
abbrev pub may_differ : Change → ℕ → Bool
may_differ Nothing index = false
may_differ (Styled from) index = nat_le from index
may_differ (Edited front back) index = false
