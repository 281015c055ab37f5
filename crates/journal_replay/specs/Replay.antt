-- WHAT A REPLAY COMES TO, by its answer.
use Rattle.std.specs.Prelude.{◌≡◌, ℕ, ◌^◌, ◌≤◌, true, List, [], ◌∷◌, ◌++◌, map, take, Option, Some, None}
use Rattle.xi_plain.specs.declared.entry.Entry.{Entry}
use Rattle.xi_plain.specs.declared.entry.ShelfNote.TheVariants.{NoCall}
use Rattle.outside.specs.Faults.{Rose, counted}
use Rattle.outside.specs.Sink.{Gains, SinkState}
use Rattle.session_step.specs.declared.terms.Terms.{Terms}
use Rattle.session_step.specs.Session.{first_session, piece_of, session_of, written}
use Rattle.core_session.specs.Grown.{AreWritten, IsProperPart}
use Rattle.journal_replay.specs.declared.replaying.ReplayFault.{ReplayFault}
use Rattle.journal_replay.specs.declared.replaying.ReplayFault.TheVariants.{Differs, NoMemory, SinkFault}
use Rattle.journal_replay.specs.Follow.{AllFollow, FirstDiffers, first_point}

-- what a session is made with that plays a journal of so many plugins again
abbrev pub replay_terms : ℕ → Terms
replay_terms plugins = record { plugins = plugins; limit = 2 ^ 40 }

-- the sink gained the pieces of these entries, and no call of it failed
pub record GainsPieces (terms : Terms) (before after : SinkState) (entries : List Entry) : Type 0 where
  pub gains : Gains before.held after.held (written (first_session terms) entries)
  pub failures : after.failures ≡ before.failures
  pub stays : before.faults ≤ after.faults

-- a call of the sink failed at the entry after these: it had gained their pieces, and a part of that one's that is not the whole
pub record BreaksOff (terms : Terms) (before after : SinkState) (entries : List Entry) (entry : Entry) : Type 0 where
  pub part : List ℕ
  pub proper : IsProperPart part (piece_of (session_of terms entries) entry)
  pub gains : Gains before.held after.held (written (first_session terms) entries ++ part)
  pub failures : after.failures ≡ counted before.failures
  pub stays : before.faults ≤ after.faults
  pub rose : Rose before.faults after.faults

-- the entry, as far as it does not depend on the shelf or the sink: who asks what
abbrev pub asked_only : Entry → Entry
asked_only entry = record entry { shelf = NoCall; sent = true }

-- the sink gained what was written of entries that ask what the first n of these ask
pub record GainsSome (terms : Terms) (before after : SinkState) (journal : List Entry) (n : ℕ) : Type 0 where
  pub log : List Entry
  pub asks : map asked_only log ≡ map asked_only (take n journal)
  pub bytes : List ℕ
  pub gains : Gains before.held after.held bytes
  pub wrote : AreWritten (first_session terms) log bytes
  pub stays : before.faults ≤ after.faults

-- WHAT A REPLAY COMES TO: with no fault, all entries follow, and the sink gained their pieces; else the first that does not follow is named, and
-- it gained those of the entries before it; or a call of it failed at an entry, and all up to this one follow; or memory was wanting
abbrev pub Replays : ℕ → List ℕ → List Entry → SinkState → SinkState → Option ReplayFault → Type 0
Replays plugins tape journal before after None =
    AllFollow plugins (first_point (replay_terms plugins) tape) journal × GainsPieces (replay_terms plugins) before after journal
Replays plugins tape journal before after (Some (Differs index)) =
    FirstDiffers plugins (first_point (replay_terms plugins) tape) journal index ×
    GainsPieces (replay_terms plugins) before after (take index journal)
Replays plugins tape journal before after (Some SinkFault) =
    (front : List Entry) × (entry : Entry) × (back : List Entry) × (journal ≡ front ++ entry ∷ back) ×
    AllFollow plugins (first_point (replay_terms plugins) tape) (front ++ entry ∷ []) ×
    BreaksOff (replay_terms plugins) before after front entry
Replays plugins tape journal before after (Some NoMemory) = (n : ℕ) × GainsSome (replay_terms plugins) before after journal n
