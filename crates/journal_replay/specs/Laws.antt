-- The laws of replays.
use Rattle.std.specs.Prelude.{◌≡◌, ◌≢◌, ◌↔◌, ◌⊎◌, ℕ, List, [], ◌∷◌, ◌++◌, map, Option, Some, None}
use Rattle.std.specs.List.{AllByRecursion}
use Rattle.plain_text.specs.InputLines.{lines_of}
use Rattle.xi_plain.specs.declared.entry.Entry.{Entry}
use Rattle.xi_plain.specs.Journal.{closing_entry, commands, front_entries}
use Rattle.front_wire.specs.Front.{command_of}
use Rattle.plugin_wire.specs.Asked.{ask_of}
use Rattle.outside.specs.Faults.{Rose}
use Rattle.outside.specs.Sink.{SinkState}
use Rattle.session_step.specs.declared.terms.Terms.{Terms}
use Rattle.core_session.specs.Kept.{ending}
use Rattle.core_session.specs.Serves.{IsSessionJournal}
use Rattle.journal_replay.specs.declared.replaying.ReplayFault.{ReplayFault}
use Rattle.journal_replay.specs.declared.replaying.ReplayFault.TheVariants.{Differs, NoMemory}
use Rattle.journal_replay.specs.Follow.{AllFollow, FirstDiffers, first_point}
use Rattle.journal_replay.specs.Replay.{Replays, replay_terms}

-- where memory did not want and no write failed, the answer names an entry exactly where it is the first that does not follow, and is no fault
-- exactly where all follow
pub record IsDue (plugins : ℕ) (tape : List ℕ) (journal : List Entry) (answer : Option ReplayFault) : Type 0 where
  pub differs : (index : ℕ) → (answer ≡ Some (Differs index)) ↔ FirstDiffers plugins (first_point (replay_terms plugins) tape) journal index
  pub fine : (answer ≡ None) ↔ AllFollow plugins (first_point (replay_terms plugins) tape) journal

-- EACH ANSWER COMES EXACTLY WHERE IT IS DUE
abbrev pub AnswersExactly : Type 0
AnswersExactly = (plugins : ℕ) (tape : List ℕ) (journal : List Entry) (before after : SinkState) (answer : Option ReplayFault) →
    Replays plugins tape journal before after answer → answer ≢ Some NoMemory → (Rose before.faults after.faults → ⊥) →
    IsDue plugins tape journal answer

-- the entry is the front end's, the end of a plugin's session, or what a line of a plugin asks
abbrev pub IsAskedFor : Entry → Type 0
IsAskedFor entry = (entry.caller ≡ 0) ⊎ ((entry.command ≡ ending) ⊎ ((line : List ℕ) × (ask_of line ≡ entry.command)))

-- A RUN'S OWN JOURNAL follows: one of a session with these terms, whose last entry is the closing one, and whose front end's commands before it
-- are those of the first lines of the tape
abbrev pub OwnJournalFollows : Type 0
OwnJournalFollows = (terms : Terms) (tape : List ℕ) (entries : List Entry) (rest : List (List ℕ)) →
    IsSessionJournal terms (entries ++ closing_entry ∷ []) → AllByRecursion IsAskedFor entries →
    ((lines : List (List ℕ)) × (lines_of tape ≡ lines ++ rest) × (map command_of lines ≡ commands (front_entries entries))) →
    AllFollow terms.plugins (first_point terms tape) (entries ++ closing_entry ∷ [])

-- HENCE it is shown again: where no write failed, a replay of it by as many plugins is without fault, or memory was wanting
abbrev pub OwnJournalIsShown : Type 0
OwnJournalIsShown = (plugins : ℕ) (tape : List ℕ) (entries : List Entry) (rest : List (List ℕ)) (before after : SinkState) (answer : Option ReplayFault) →
    IsSessionJournal (replay_terms plugins) (entries ++ closing_entry ∷ []) → AllByRecursion IsAskedFor entries →
    ((lines : List (List ℕ)) × (lines_of tape ≡ lines ++ rest) × (map command_of lines ≡ commands (front_entries entries))) →
    Replays plugins tape (entries ++ closing_entry ∷ []) before after answer → (Rose before.faults after.faults → ⊥) →
    (answer ≡ None) ⊎ (answer ≡ Some NoMemory)
