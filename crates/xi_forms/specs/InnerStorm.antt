-- What the private functions of a storm say.
use Rattle.std.specs.Prelude.{◌≡◌, ℕ, List, length, Option, Some, ◌⊎◌}
use Rattle.plain_edits.specs.Collection.{kept}
use Rattle.plain_edits.specs.History.{head}
use Rattle.plain_screen.specs.Screen.{Screen}
use Rattle.doc_text.specs.Writing.{head_text}
use Rattle.doc_session.specs.Document.{Document, layout_of}
use Rattle.doc_session.specs.InMemory.{Doc}
use Rattle.doc_session.specs.Stands.{DocStandsFor}
use Rattle.core_session.specs.Shows.{rebuilt}
use Rattle.screen_flags.specs.Flags.{valid_lines}
use Rattle.xi_plain.specs.declared.entry.Entry.{Entry}
use Rattle.outside.specs.Sink.{SinkState}
use Rattle.session_step.specs.declared.terms.Terms.{Terms}
use Rattle.storm_lines.specs.declared.summary.Summary.{Summary}
use Rattle.xi_forms.specs.Storm.{GainsPart, GainsWhole}
use Rattle.xi_forms.specs.Summary.{IsSummaryOf, storm_view}

-- what the numbers are, of the document in memory
pub record AreNumbers (entries : ℕ) (doc : Doc) (bytes : List ℕ) (summary : Summary) : Type 0 where
  pub entries_are : summary.entries ≡ entries
  pub revision : (plain : Document) → DocStandsFor doc plain → summary.revision ≡ head plain.text.history
  pub characters : (plain : Document) → DocStandsFor doc plain → summary.characters ≡ length (head_text plain.text)
  pub kept_are : (plain : Document) → DocStandsFor doc plain → summary.kept ≡ kept plain.text.history
  pub lines : (plain : Document) → DocStandsFor doc plain → summary.lines ≡ length (layout_of plain)
  pub valid : (screen : Screen) → rebuilt storm_view bytes ≡ Some screen → summary.valid ≡ valid_lines screen

-- what a summary was told as
abbrev pub TellsAs : Summary → SinkState → SinkState → ℕ → Type 0
TellsAs summary before after status =
    ((status ≡ 0) × GainsWhole summary before after) ⊎ (((status ≡ 5) × GainsPart summary before after) ⊎ ((status ≡ 3) × (after ≡ before)))

-- the run ended well, and its summary was read off what its sink holds
pub record IsRead (terms : Terms) (journal : List Entry) (held : Option (List ℕ)) (ran : ℕ) (summary : Summary) : Type 0 where
  pub ran_well : ran ≡ 0
  pub bytes : List ℕ
  pub holds : held ≡ Some bytes
  pub numbers : ∥ IsSummaryOf terms journal bytes summary ∥₁

-- what a run was told as
abbrev pub TellsRun : Terms → List Entry → Option (List ℕ) → ℕ → SinkState → SinkState → ℕ → Type 0
TellsRun terms journal held ran before after status =
    ((summary : Summary) × IsRead terms journal held ran summary × TellsAs summary before after status) ⊎ ((status ≡ 3) × (after ≡ before))
