-- WHO TAKES LINES of a front end, and what a line comes to.
use Rattle.std.specs.Prelude.{◌≡◌, ℕ, Bool, true, false, List, [], ◌∷◌, ◌++◌}
use Rattle.xi_plain.specs.declared.entry.Entry.{Entry}
use Rattle.xi_plain.specs.declared.ask.Ask.{Ask}
use Rattle.xi_plain.specs.declared.ask.Ask.TheVariants.{FrontLine}
use Rattle.xi_plain.specs.declared.reply.Reply.{Reply}
use Rattle.xi_plain.specs.declared.reply.Reply.TheVariants as reply
use Rattle.xi_plain.specs.Journal.{front_entries}
use Rattle.xi_plain.specs.Room.{Begins}
use Rattle.plugin_crew.specs.declared.took.Took.{Took}
use Rattle.plugin_crew.specs.declared.took.Took.TheVariants.{Taken, Fault, Closed, NoMemory}

-- what a reply comes to. An object to whom each line of the front end is an entry never refuses one: that is an end too
abbrev pub took_of : Reply → Took
took_of (reply.Taken text) = Taken
took_of reply.SinkFault = Fault
took_of (reply.Refused text) = Closed
took_of reply.Closed = Closed
took_of reply.NoMemory = NoMemory

-- whether it has an entry that was sent
abbrev pub is_sent : Took → Bool
is_sent Taken = true
is_sent Fault = false
is_sent Closed = false
is_sent NoMemory = false

-- whether it has an entry
abbrev pub adds_entry : Took → Bool
adds_entry Taken = true
adds_entry Fault = true
adds_entry Closed = false
adds_entry NoMemory = false

-- these entries of the front end became those: one more, which was sent or was not; or none
abbrev pub HasTaken : List Entry → Took → List Entry → Type 0
HasTaken before Taken after = (entry : Entry) × (after ≡ before ++ entry ∷ []) × (entry.sent ≡ true)
HasTaken before Fault after = (entry : Entry) × (after ≡ before ++ entry ∷ []) × (entry.sent ≡ false)
HasTaken before Closed after = after ≡ before
HasTaken before NoMemory after = after ≡ before

-- the ask was served as one of the front end, where this journal had been seen before it and that one was seen after it: by a journal that
-- begins with the former, and of which the latter begins with what it became. What else is new is not the front end's
abbrev pub IsEnteredBy : (List Entry → ℕ → Ask → Reply → List Entry → Type 0) → Ask → List Entry → Took → List Entry → Type 0
IsEnteredBy serves ask old took new =
    (before after : List Entry) × (given : Reply) × serves before 0 ask given after × Begins old before × Begins after new
    × (front_entries before ≡ front_entries old) × (front_entries after ≡ front_entries new) × (took ≡ took_of given)

-- so was the line
abbrev pub IsTakenBy : (List Entry → ℕ → Ask → Reply → List Entry → Type 0) → List ℕ → List Entry → Took → List Entry → Type 0
IsTakenBy serves line old took new = IsEnteredBy serves (FrontLine line) old took new

-- the entry that came with the reply was sent, or was not
abbrev pub SaysSent : Reply → List Entry → List Entry → Type 0
SaysSent (reply.Taken text) before after = (entry : Entry) → after ≡ before ++ entry ∷ [] → entry.sent ≡ true
SaysSent reply.SinkFault before after = (entry : Entry) → after ≡ before ++ entry ∷ [] → entry.sent ≡ false
SaysSent (reply.Refused text) before after = Unit {0}
SaysSent reply.Closed before after = Unit {0}
SaysSent reply.NoMemory before after = Unit {0}

-- the object tells faults: the reply to an ask is `Taken` where its entry was sent, and `SinkFault` where it was not
abbrev pub TellsFaults : (List Entry → ℕ → Ask → Reply → List Entry → Type 0) → Type 0
TellsFaults serves =
    (before : List Entry) (caller : ℕ) (ask : Ask) (given : Reply) (after : List Entry) → serves before caller ask given after
    → SaysSent given before after
