-- What a call comes to in a session in memory, and what is printed of it.
use Rattle.std.specs.Prelude.{◌≡◌, ◌^◌, ℕ, List, [], length, drop, min, Option, Some}
use Rattle.outside.specs.MemSink.{Store}
use Rattle.outside.specs.Schedule.{schedule_of}
use Rattle.xi_plain.specs.declared.ask.Ask.{Ask}
use Rattle.xi_plain.specs.declared.ask.Query.TheVariants.{Notices}
use Rattle.xi_plain.specs.declared.reply.Answer.{Answer}
use Rattle.xi_plain.specs.declared.reply.Reply.{Reply}
use Rattle.core_session.specs.declared.session.Core.{Core}
use Rattle.core_session.specs.Answers.{Answers}
use Rattle.core_session.specs.Core.{journal_of, shelf_of, sink_of, terms_of}
use Rattle.core_session.specs.Grown.{IsGrown, SessionState}
use Rattle.core_session.specs.Object.{state_of}
use Rattle.core_session.specs.Serves.{Serves}
use Rattle.core_session.specs.Shelves.{Files}
use Rattle.session_by_hand.specs.Call.{Asked, asks, look}
use Rattle.session_by_hand.specs.Said.{answer_said, reply_said}

-- a session over a sink and a shelf in memory
abbrev pub MemorySession : Type 0
MemorySession = Core Store Files

-- what it tells of itself
abbrev pub told_state : MemorySession → SessionState
told_state core =
    state_of (λ (sink : Store). sink.held) (λ (sink : Store). sink.schedule.faults) (λ (sink : Store). sink.schedule.faults) (λ (files : Files). Some files)
    (λ (files : Files). 0) core

-- a session with so many plugins and these files, which has no entry, and whose sink fails nowhere
pub record IsFresh (plugins : ℕ) (files : Files) (core : MemorySession) : Type 0 where
  pub terms : terms_of core ≡ record { plugins = plugins; limit = 2 ^ 40 }
  pub empty : journal_of core ≡ []
  pub held : (sink_of core).held ≡ Some []
  pub calm : (sink_of core).schedule ≡ schedule_of []
  pub shelf : shelf_of core ≡ files

-- what a sink holds behind what it held
abbrev pub gained : Option (List ℕ) → Option (List ℕ) → List ℕ
gained (Some before) (Some after) = drop (length before) after
gained before after = []

-- the bytes that a session's sink gained
abbrev pub gained_by : MemorySession → MemorySession → List ℕ
gained_by old new = gained (sink_of old).held (sink_of new).held

-- WHAT IS PRINTED OF AN ASK is its reply, which is what the one call does, and what the sink gained
pub record SaysReply (old new : MemorySession) (caller : ℕ) (ask : Ask) (said : List ℕ) : Type 0 where
  pub reply : Reply
  pub serves : Serves (terms_of old) (journal_of old) caller ask reply (journal_of new)
  pub grown : IsGrown (told_state old) (told_state new)
  pub printed : said ≡ reply_said reply (gained_by old new)

-- WHAT IS PRINTED OF A LOOK is the answer from the entry on, or from the journal's end where that comes before it; the session stays as it is
pub record SaysAnswer (old new : MemorySession) (from : ℕ) (said : List ℕ) : Type 0 where
  pub answer : Answer
  pub answers : Answers (terms_of old) (journal_of old) (Notices (min from (length (journal_of old)))) answer
  pub stays : new ≡ old
  pub printed : said ≡ answer_said answer

-- WHAT IS PRINTED OF A CALL
abbrev pub Says : MemorySession → MemorySession → Asked → List ℕ → Type 0
Says old new (asks caller ask) said = SaysReply old new caller ask said
Says old new (look caller from) said = SaysAnswer old new from said
