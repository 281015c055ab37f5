-- What a run wrote, where no write failed and where one did.
use Rattle.std.specs.Prelude.{◌≡◌, ◌≢◌, ℕ, ◌+◌, ◌-◌, ◌^◌, ◌<◌, true, false, List, [], ◌∷◌, ◌++◌, Ok, Err, ◌⊎◌}
use Rattle.std.specs.List.{AllByRecursion}
use Rattle.xi_plain.specs.declared.entry.Entry.{Entry}
use Rattle.outside.specs.Faults.{Rose, counted}
use Rattle.outside.specs.Sink.{SinkState, Gains}
use Rattle.xi_plain.specs.Journal.{closing_entry}
use Rattle.session_step.specs.declared.terms.Terms.{Terms}
use Rattle.core_session.specs.Shows.{Shows}
use Rattle.core_session.specs.Core.{piece_after}
pub use Rattle.core_session.specs.Grown.{IsProperPart}
use Rattle.xi_top.specs.declared.ending.Ending.TheVariants.{SinkFault}
use Rattle.xi_top.specs.Ending.{Outcome}

-- each of the entries was sent
abbrev pub AreSent : List Entry → Type 0
AreSent entries = AllByRecursion (λ entry. entry.sent ≡ true) entries

-- NO WRITE FAILED: every entry was sent, and the bytes that the sink gained show the journal
pub record IsSent (terms : Terms) (before after : SinkState) (journal : List Entry) : Type 0 where
  pub each : AreSent journal
  pub failures : after.failures ≡ before.failures
  pub bytes : List ℕ
  pub gains : Gains before.held after.held bytes
  pub shows : ∥ Shows terms journal bytes ∥₁

-- A WRITE FAILED: the last entry but the closing one is the only one that was not sent. The sink gained bytes that show the entries
-- before it, and then a part of its piece that is not the whole
pub record IsCutOff (terms : Terms) (before after : SinkState) (journal : List Entry) : Type 0 where
  pub sent : List Entry
  pub last : Entry
  pub cut : journal ≡ sent ++ (last ∷ (closing_entry ∷ []))
  pub each : AreSent sent
  pub unsent : last.sent ≡ false
  pub failures : after.failures ≡ counted before.failures
  pub rose : Rose before.faults after.faults
  pub bytes : List ℕ
  pub part : List ℕ
  pub gains : Gains before.held after.held (bytes ++ part)
  pub shows : ∥ Shows terms sent bytes ∥₁
  pub proper : IsProperPart part (piece_after terms sent last)

-- the same of an entry that is a plugin's
abbrev pub CutsPlugin : Terms → SinkState → SinkState → List Entry → Type 0
CutsPlugin terms before after journal = (cut : IsCutOff terms before after journal) × (cut.last.caller ≢ 0)

-- WHAT WAS WRITTEN, by how the run ended: no write failed where it ended with its input, and one did where it ended for that. A run that ended
-- otherwise did so before it met the fault of a plugin's entry, if there was one
abbrev pub IsWritten : Terms → Outcome → SinkState → SinkState → List Entry → Type 0
IsWritten terms (Ok done) before after journal = IsSent terms before after journal
IsWritten terms (Err SinkFault) before after journal = IsCutOff terms before after journal
IsWritten terms outcome before after journal = IsSent terms before after journal ⊎ CutsPlugin terms before after journal

-- WHERE A WRITE FAILED, by the count of failed writes alone, where it ends below its last value: it ends as it began, and no write failed,
-- or it ends one higher, and one did
pub record IsWrittenByCount (terms : Terms) (before after : SinkState) (journal : List Entry) (status : ℕ) : Type 0 where
  pub at_most_once : after.failures < 2 ^ 64 - 1 →
      ((after.failures ≡ before.failures) × IsSent terms before after journal) ⊎
      ((after.failures ≡ before.failures + 1) × IsCutOff terms before after journal)
  pub none : status ≡ 0 → after.failures ≡ before.failures
