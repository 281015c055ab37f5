-- THE SESSION AS THE OBJECT of a room: what it tells of itself.
use Rattle.std.specs.Prelude.{ℕ, List, Option}
use Rattle.std.proofs.Math.Logic.{∥∥₁_map}
use Rattle.outside.specs.Sink.{sink_state}
use Rattle.core_session.specs.declared.session.Core.{Core}
use Rattle.core_session.specs.Core.{journal_of, shelf_of, sink_of, terms_of}
use Rattle.core_session.specs.Grown.{SessionState}
use Rattle.core_session.specs.Serves.{IsSessionJournal}
use Rattle.core_session.specs.Shelves.{Files, shelf_state}

-- what a session tells of itself, put together from what its sink and its shelf tell
abbrev pub state_of : {K H : Type 0} → (K → Option (List ℕ)) → (K → ℕ) → (K → ℕ) → (H → Option Files) → (H → ℕ) → Core K H → SessionState
state_of held faults failures files shelf_faults core = record {
  terms = terms_of core;
  journal = journal_of core;
  sink = sink_state held faults failures (sink_of core);
  shelf = shelf_state files shelf_faults (shelf_of core);
}

-- its journal is one of a session
pub legal_now : {K H : Type 0} (core : Core K H) → ∥ IsSessionJournal (terms_of core) (journal_of core) ∥₁
legal_now core = ∥∥₁_map core.kept (λ kept. record {
  legal = core.legal;
  accepted = kept.accepted;
  saves_asked = kept.saves_asked;
  shows = kept.showing.shows;
})
