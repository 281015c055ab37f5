-- THE RUN OF A STORM: what it comes to, by its status.
use Rattle.std.specs.Prelude.{◌≡◌, ℕ, ◌<◌, List, [], ◌∷◌, ◌++◌, length, map, take, ◌⊎◌}
use Rattle.xi_plain.specs.declared.entry.Entry.{Entry}
use Rattle.xi_plain.specs.Journal.{closing_entry, commands, front_entries}
use Rattle.outside.specs.Faults.{Rose, counted}
use Rattle.outside.specs.Sink.{SinkState, Gains}
use Rattle.front_wire.specs.Front.{command_of}
use Rattle.session_step.specs.declared.terms.Terms.{Terms}
use Rattle.core_session.specs.Shows.{Shows}
use Rattle.storm_lines.specs.declared.summary.Summary.{Summary}
use Rattle.storm_lines.specs.Lines.{line_bytes, storm_lines}
use Rattle.storm_lines.specs.Summary.{summary_text}
use Rattle.xi_top.specs.Alone.{terms_for}
use Rattle.xi_forms.specs.Summary.{IsSummaryOf}

-- THE LINES: the front end's entries are the commands of some first lines of the storm, and the closing entry
pub record HoldsFirst (count seed : ℕ) (journal : List Entry) : Type 0 where
  pub entries : List Entry
  pub front : front_entries journal ≡ entries ++ closing_entry ∷ []
  pub lines : List (List ℕ)
  pub later : List (List ℕ)
  pub first : map line_bytes (storm_lines count seed) ≡ lines ++ later
  pub asked : commands entries ≡ map command_of lines

-- the same of all its lines
pub record HoldsAll (count seed : ℕ) (journal : List Entry) : Type 0 where
  pub some : HoldsFirst count seed journal
  pub all : some.later ≡ []

-- THE SUMMARY is that of the journal, and of bytes that show it
pub record IsSummary (terms : Terms) (journal : List Entry) (summary : Summary) : Type 0 where
  pub bytes : List ℕ
  pub shows : ∥ Shows terms journal bytes ∥₁
  pub numbers : ∥ IsSummaryOf terms journal bytes summary ∥₁

-- WHAT THE SINK GAINED of a summary, by the status: the whole, and no call of it failed
pub record GainsWhole (summary : Summary) (before after : SinkState) : Type 0 where
  pub gains : Gains before.held after.held (summary_text summary)
  pub failures : after.failures ≡ before.failures

-- a part that is not the whole; one call of it failed, and its count of faults rose
pub record GainsPart (summary : Summary) (before after : SinkState) : Type 0 where
  pub rose : Rose before.faults after.faults
  pub failures : after.failures ≡ counted before.failures
  pub n : ℕ
  pub part : n < length (summary_text summary)
  pub gains : Gains before.held after.held (take n (summary_text summary))

module _ (count seed plugins : ℕ) (before after : SinkState) (journal : List Entry) where
  -- status 0: all lines, and the summary
  pub record RanWhole : Type 0 where
    pub holds : HoldsAll count seed journal
    pub summary : Summary
    pub is : IsSummary (terms_for plugins) journal summary
    pub told : GainsWhole summary before after

  -- status 5: all lines, and a part of the summary
  pub record RanCut : Type 0 where
    pub holds : HoldsAll count seed journal
    pub summary : Summary
    pub is : IsSummary (terms_for plugins) journal summary
    pub cut : GainsPart summary before after

  -- THE STORM by its status: no other comes
  abbrev pub EndsStorm : ℕ → Type 0
  EndsStorm status =
      ((status ≡ 0) × RanWhole) ⊎ (((status ≡ 5) × RanCut) ⊎
      ((status ≡ 3) × ((journal ≡ []) ⊎ HoldsFirst count seed journal) × (after ≡ before)))
