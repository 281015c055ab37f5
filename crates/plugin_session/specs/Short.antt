-- A SESSION THAT LACKED MEMORY, though all was said to be over.
use Rattle.std.specs.Prelude.{◌≡◌, ℕ, true, false, List, [], ◌∷◌, length}
use Rattle.xi_plain.specs.declared.entry.Entry.{Entry}
use Rattle.xi_plain.specs.declared.ask.Ask.{Ask}
use Rattle.xi_plain.specs.declared.ask.Ask.TheVariants.{PluginEnd}
use Rattle.xi_plain.specs.declared.ask.Query.{Query}
use Rattle.xi_plain.specs.declared.ask.Query.TheVariants as query
use Rattle.xi_plain.specs.declared.reply.Reply.{Reply}
use Rattle.xi_plain.specs.declared.reply.Reply.TheVariants.{Closed}
use Rattle.xi_plain.specs.declared.reply.Answer.{Answer}
use Rattle.xi_plain.specs.declared.reply.Answer.TheVariants as answer
use Rattle.xi_plain.specs.Journal.{entries_of}
use Rattle.plugin_session.specs.declared.noted.Noted.TheVariants.{Asked, Looked}
use Rattle.plugin_session.specs.declared.after.After.TheVariants as after
use Rattle.plugin_session.specs.Start.{IsStart}
use Rattle.plugin_session.specs.Visit.{Visit, IsServed, IsWhole}

-- a first visit, whose turn is given the first line and asks nothing
abbrev pub quiet_visit : List ℕ → Visit
quiet_visit start =
    record { calls = []; turns = record { given = start ∷ []; back = []; done = false } ∷ []; after = after.Turned }

-- a visit whose look finds this line and that all is over, for which there is no memory; the end is asked, and answered `Closed`
abbrev pub last_answer : ℕ → List ℕ → Answer
last_answer len line = answer.Notices (line ∷ []) len true

abbrev pub short_visit : ℕ → List ℕ → Visit
short_visit len line =
    record {
      calls = record { at = len; noted = Looked (query.Notices 0) (last_answer len line) } ∷ record { at = len; noted = Asked PluginEnd Closed } ∷ [];
      turns = [];
      after = after.NoMemory;
    }

module _ (serves : List Entry → ℕ → Ask → Reply → List Entry → Type 0) (answers : List Entry → ℕ → Query → Answer → Type 0) where
  -- a journal that has no entry of the caller, and answers so, serves these two, and they are not whole
  abbrev pub ShortIsNotWhole : Type 0
  ShortIsNotWhole =
      (caller : ℕ) (journal : List Entry) (start line : List ℕ) → IsStart caller start → entries_of caller journal ≡ []
      → answers journal caller (query.Notices 0) (last_answer (length journal) line) → serves journal caller PluginEnd Closed journal
      → IsServed serves answers caller journal (short_visit (length journal) line ∷ quiet_visit start ∷ [])
      × (IsWhole (short_visit (length journal) line ∷ quiet_visit start ∷ []) → ⊥)
