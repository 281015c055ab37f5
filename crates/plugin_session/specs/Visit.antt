-- VISITS: what one call of a port did, and the law of served turns.
use Rattle.std.specs.Prelude.{◌≡◌, ℕ, Bool, true, false, not, List, [], ◌∷◌, ◌++◌, ◌⊎◌}
use Rattle.std.specs.Bool.{MatchBool}
use Rattle.std.specs.List.{AllByRecursion}
use Rattle.xi_plain.specs.declared.entry.Entry.{Entry}
use Rattle.xi_plain.specs.declared.ask.Ask.{Ask}
use Rattle.xi_plain.specs.declared.ask.Ask.TheVariants.{PluginEnd}
use Rattle.xi_plain.specs.declared.ask.Query.{Query}
use Rattle.xi_plain.specs.declared.ask.Query.TheVariants as query
use Rattle.xi_plain.specs.declared.reply.Reply.{Reply}
use Rattle.xi_plain.specs.declared.reply.Reply.TheVariants as reply
use Rattle.xi_plain.specs.declared.reply.Answer.{Answer}
use Rattle.xi_plain.specs.declared.reply.Answer.TheVariants as answer
use Rattle.xi_plain.specs.Journal.{entries_of}
use Rattle.plugin_session.specs.declared.noted.Noted.{Noted}
use Rattle.plugin_session.specs.declared.noted.Noted.TheVariants.{Asked, Looked}
use Rattle.plugin_session.specs.declared.after.After.{After}
use Rattle.plugin_session.specs.declared.after.After.TheVariants as after
use Rattle.plugin_session.specs.Turn.{Turned}
use Rattle.plugin_session.specs.Call.{Call, Stand, entries_at, answers_of, line_ask}
use Rattle.plugin_session.specs.Start.{IsStart}

-- what one call of a port did: the calls at the door, the turn where there was one, and what the call answered
pub record Visit : Type 0 where
  pub calls : List Call
  pub turns : List Turned
  pub after : After

-- whether the session goes on
abbrev pub goes_on : After → Bool
goes_on after.Turned = true
goes_on after.Idle = true
goes_on after.Over = false
goes_on after.NoMemory = false

-- how a session ends whose plugin is done: for want of memory, if the ask of its end met that
abbrev pub after_end : Reply → After
after_end (reply.Taken text) = after.Over
after_end (reply.Refused text) = after.Over
after_end reply.SinkFault = after.Over
after_end reply.Closed = after.Over
after_end reply.NoMemory = after.NoMemory

-- there is one call, the ask of the session's end, and its reply is such
abbrev pub IsEnd : List Call → (Reply → Type 0) → Type 0
IsEnd calls replied = (at : ℕ) × (given : Reply) × (calls ≡ record { at = at; noted = Asked PluginEnd given } ∷ []) × replied given

-- memory was wanting: the end is asked, and the session ends for that
abbrev pub EndsShort : List Call → After → Type 0
EndsShort calls ended = IsEnd calls (λ given. ended ≡ after.NoMemory)

-- what follows the line that was answered so
abbrev pub GoesOn : Reply → Type 0 → List Call → After → Type 0
GoesOn (reply.Taken text) rest calls ended = rest
GoesOn (reply.Refused text) rest calls ended = rest
GoesOn reply.SinkFault rest calls ended = rest
GoesOn reply.Closed rest calls ended = (calls ≡ []) × (ended ≡ after.Over)
GoesOn reply.NoMemory rest calls ended = EndsShort calls ended

-- THE LINES WERE ASKED in their order, up to and with the first that was answered `Closed` or lacked memory; the end was asked once after
-- them, where none was answered `Closed` and the plugin was done or memory was wanting; and the session ended so, or goes on
abbrev pub AreAsked : List (List ℕ) → Bool → List Call → After → Type 0
AreAsked [] true calls ended = IsEnd calls (λ given. ended ≡ after_end given)
AreAsked [] false calls ended = (calls ≡ []) × (ended ≡ after.Turned)
AreAsked (line ∷ lines) done [] ended = ⊥
AreAsked (line ∷ lines) done (call ∷ calls) ended =
    (given : Reply) × (call.noted ≡ Asked (line_ask line) given) × GoesOn given (AreAsked lines done calls ended) calls ended

-- a turn was given these lines, and its own lines were asked; where it was told that all is over, nothing was
abbrev pub HasTurn : List (List ℕ) → Bool → List Call → List Turned → After → Type 0
HasTurn lines over calls turns ended =
    (back : List (List ℕ)) × (done : Bool) × (turns ≡ record { given = lines; back = back; done = done } ∷ [])
    × MatchBool over ((calls ≡ []) × (ended ≡ after.Over)) (AreAsked back done calls ended)

-- there was no turn, for want of memory
abbrev pub HasNoTurn : List Call → List Turned → After → Type 0
HasNoTurn calls turns ended = (turns ≡ []) × EndsShort calls ended

-- a turn was given these lines, or memory was wanting before it; where there is no line, there was no turn
abbrev pub WasGiven : List (List ℕ) → Bool → List Call → List Turned → After → Type 0
WasGiven [] over calls turns ended = (turns ≡ []) × (calls ≡ []) × (ended ≡ after.Idle)
WasGiven (line ∷ lines) over calls turns ended = HasTurn (line ∷ lines) over calls turns ended ⊎ HasNoTurn calls turns ended

-- what follows a look that was answered so: first the answers are told, and then what was found
abbrev pub Finds : List (List ℕ) → Answer → List Call → List Turned → After → Type 0
Finds answers (answer.Notices lines next over) calls turns ended = WasGiven (answers ++ lines) over calls turns ended
Finds answers (answer.Nothing len) calls turns ended = WasGiven answers false calls turns ended
Finds answers answer.NoMemory calls turns ended = HasNoTurn calls turns ended

-- a first turn was given the one line that starts the session
abbrev pub HasFirstTurn : ℕ → List Call → List Turned → After → Type 0
HasFirstTurn caller calls turns ended = (start : List ℕ) × IsStart caller start × HasTurn (start ∷ []) false calls turns ended

-- the first visit: its turn is given the first line, without a look, or memory was wanting before it
abbrev pub IsFirst : ℕ → List Call → List Turned → After → Type 0
IsFirst caller calls turns ended = HasFirstTurn caller calls turns ended ⊎ HasNoTurn calls turns ended

-- every other: it begins with one look, from the place of the one before
abbrev pub IsLater : ℕ → List (List ℕ) → List Call → List Turned → After → Type 0
IsLater place answers calls turns ended =
    (at : ℕ) × (found : Answer) × (rest : List Call)
    × (calls ≡ record { at = at; noted = Looked (query.Notices place) found } ∷ rest) × Finds answers found rest turns ended

-- A PORT: its caller, the length of the journal at its last look that was answered, the answers to the last turn, and whether its session
-- has begun and ended
pub record PortState : Type 0 where
  pub caller : ℕ
  pub place : ℕ
  pub answers : List (List ℕ)
  pub begun : Bool
  pub ended : Bool

-- a port before its first visit
abbrev pub new_port : ℕ → PortState
new_port caller = record { caller = caller; place = 0; answers = []; begun = false; ended = false }

-- THE VISIT of a port whose session has not ended
abbrev pub IsVisit : PortState → Visit → Type 0
IsVisit port visit =
    (port.ended ≡ false)
    × MatchBool port.begun (IsLater port.place port.answers visit.calls visit.turns visit.after) (IsFirst port.caller visit.calls visit.turns visit.after)

-- the length of the journal at the last look that was answered, where it was this before
abbrev pub place_found : ℕ → ℕ → Answer → ℕ
place_found place at (answer.Notices lines next over) = at
place_found place at (answer.Nothing len) = at
place_found place at answer.NoMemory = place

abbrev pub place_seen : ℕ → ℕ → Noted → ℕ
place_seen place at (Looked asked found) = place_found place at found
place_seen place at (Asked asked given) = place

abbrev pub place_after : ℕ → List Call → ℕ
place_after place [] = place
place_after place (call ∷ calls) = place_after (place_seen place call.at call.noted) calls

-- the answers to the last turn, where they were these before the visit
abbrev pub answers_after : List (List ℕ) → List Turned → List Call → List (List ℕ)
answers_after answers [] calls = answers
answers_after answers (turn ∷ turns) calls = answers_of calls

-- the port after a visit
abbrev pub after_visit : PortState → Visit → PortState
after_visit port visit =
    record {
      caller = port.caller;
      place = place_after port.place visit.calls;
      answers = answers_after port.answers visit.turns visit.calls;
      begun = true;
      ended = not (goes_on visit.after);
    }

-- A SESSION is its visits, the latest first. The port after them
abbrev pub port_of : ℕ → List Visit → PortState
port_of caller [] = new_port caller
port_of caller (visit ∷ visits) = after_visit (port_of caller visits) visit

-- its calls and its turns, in their order
abbrev pub calls_of : List Visit → List Call
calls_of [] = []
calls_of (visit ∷ visits) = calls_of visits ++ visit.calls

abbrev pub turns_of : List Visit → List Turned
turns_of [] = []
turns_of (visit ∷ visits) = turns_of visits ++ visit.turns

-- each visit is one of the port after those before it
abbrev pub AreVisits : ℕ → List Visit → Type 0
AreVisits caller [] = Unit {0}
AreVisits caller (visit ∷ visits) = IsVisit (port_of caller visits) visit × AreVisits caller visits

module _ (serves : List Entry → ℕ → Ask → Reply → List Entry → Type 0) (answers : List Entry → ℕ → Query → Answer → Type 0) where
  -- THE JOURNAL SERVES the session: its visits follow one another, its calls stand in the journal, and the journal has no other entry of the
  -- caller
  pub record IsServed (caller : ℕ) (journal : List Entry) (visits : List Visit) : Type 0 where
    pub each : AreVisits caller visits
    pub stand : Stand serves answers journal caller 0 (calls_of visits)
    pub alone : entries_of caller journal ≡ entries_at journal (calls_of visits)

  -- TURNS ARE SERVED where there is such a session of them
  abbrev pub AreServed : ℕ → List Entry → List Turned → Type 0
  AreServed caller journal turns =
      (visits : List Visit) × (turns_of visits ≡ turns) × IsServed caller journal visits

  -- every longer journal without a further entry of the caller serves the session too
  abbrev pub ServedStays : Type 0
  ServedStays =
      (caller : ℕ) (journal more : List Entry) (visits : List Visit) → IsServed caller journal visits
      → entries_of caller more ≡ [] → IsServed caller (journal ++ more) visits

-- memory was wanting for the call
abbrev pub lacks_memory : Noted → Bool
lacks_memory (Asked ask reply.NoMemory) = true
lacks_memory (Looked asked answer.NoMemory) = true
lacks_memory noted = false

-- the call was answered that no more comes: a look that all is over, or an ask that the journal is closed
abbrev pub says_over : Noted → Bool
says_over (Asked ask reply.Closed) = true
says_over (Looked asked (answer.Notices lines next over)) = over
says_over noted = false

-- one of these calls was answered so
abbrev pub SaysOver : List Call → Type 0
SaysOver [] = ⊥
SaysOver (call ∷ calls) = (says_over call.noted ≡ true) ⊎ SaysOver calls

-- the plugin was done
abbrev pub IsDone : List Turned → Type 0
IsDone [] = ⊥
IsDone (turn ∷ turns) = turn.done ≡ true

-- TURNS ARE WHOLE where memory was wanting for no call, the session did not end for want of it, and the last turn was done, was given
-- `shutdown`, or met `Closed`
abbrev pub IsWhole : List Visit → Type 0
IsWhole [] = ⊥
IsWhole (visit ∷ visits) =
    AllByRecursion (λ call. lacks_memory call.noted ≡ false) (calls_of (visit ∷ visits)) × (visit.after ≡ after.Over)
    × (IsDone visit.turns ⊎ SaysOver visit.calls)
