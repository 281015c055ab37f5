-- THE RULE of a room's table: the journal, the queue of tickets, and where the object is. It serves private functions alone.
use Rattle.std.specs.Prelude.{◌≡◌, ◌≢◌, ◌⊎◌, ℕ, ◌+◌, ◌%◌, ◌^◌, ◌<◌, ◌≤◌, Bool, true, false, List, [], ◌∷◌, ◌++◌, length, map, Option, Some, ⊤}
use Rattle.std.specs.List.{AllByRecursion}
use mathlib.Core.Option.{some, none}
use lib.ListN.{get_elem?}
use Rattle.atomic_table.specs.Seated.{TableId}
use Rattle.atomic_table.specs.declared.shared.Seat.{Seat}
use Rattle.atomic_table.specs.Table.{State, Me, Step, rest}
use Rattle.xi_plain.specs.declared.entry.Entry.{Entry}
use Rattle.xi_plain.specs.Journal.{entries_of}
use Rattle.xi_plain.specs.declared.ask.Ask.{Ask}
use Rattle.xi_plain.specs.declared.ask.Query.{Query}
use Rattle.xi_plain.specs.declared.reply.Answer.{Answer}
use Rattle.xi_plain.specs.declared.reply.Reply.{Reply}
use Rattle.xi_plain.specs.declared.reply.Receipt.{Receipt}
use Rattle.xi_plain.specs.Reply.{has_entry}
use Rattle.xi_plain.specs.Room.{Begins}
use Rattle.room_lock.specs.Room.{Known, IsSamePass, Tells, before_call, own}
use Rattle.room_lock.specs.declared.view.Stage.{Stage}
use Rattle.room_lock.specs.declared.view.Stage.TheVariants.{Idle, Waits, Turn, Spent}
use Rattle.room_lock.specs.declared.view.Parted.{Parted}
use Rattle.room_lock.specs.declared.view.View.{View}

-- what a seat with nothing joined knows between its turns
abbrev pub idle : ℕ → List Entry → ℕ → View
idle caller seen made = record { caller = caller; stage = Idle; seen = seen; made = made; joined = [] }

-- the view at another stage
abbrev pub at_stage : Stage → View → View
at_stage stage v = record { caller = v.caller; stage = stage; seen = v.seen; made = v.made; joined = v.joined }

-- the view that has the turn, and has seen this journal
abbrev pub with_turn : List Entry → View → View
with_turn journal v = record { caller = v.caller; stage = Turn; seen = journal; made = v.made; joined = v.joined }

-- how many tickets the stage holds
abbrev pub held : Stage → ℕ
held Idle = 0
held (Waits ticket) = 1
held Turn = 1
held Spent = 0

-- whether it is the turn, and whether it is spent
abbrev pub has_turn : Stage → Bool
has_turn Idle = false
has_turn (Waits ticket) = false
has_turn Turn = true
has_turn Spent = false

abbrev pub is_spent : Stage → Bool
is_spent Idle = false
is_spent (Waits ticket) = false
is_spent Turn = false
is_spent Spent = true

-- how many tickets all views hold
abbrev pub all_held : List View → ℕ
all_held [] = 0
all_held (v ∷ views) = held v.stage + all_held views

-- the stage fits the queue of those who hold a ticket, the first of whom is served
abbrev pub FitsQueue : ℕ → List ℕ → ℕ → Stage → Type 0
FitsQueue serving queue seat Idle = ⊤
FitsQueue serving queue seat (Waits ticket) = (k : ℕ) × (ticket ≡ serving + k) × (get_elem? queue k ≡ some seat)
FitsQueue serving queue seat Turn = get_elem? queue 0 ≡ some seat
FitsQueue serving queue seat Spent = ⊤

-- the queue is that of the views
pub record IsQueue (serving : ℕ) (queue : List ℕ) (views : List View) : Type 0 where
  pub counted : length queue ≡ all_held views
  pub each : (seat : ℕ) (v : View) → get_elem? views seat ≡ some v → FitsQueue serving queue seat v.stage

-- the seat is spent
abbrev pub IsSpentAt : List View → ℕ → Type 0
IsSpentAt views seat = (v : View) × (get_elem? views seat ≡ some v) × (is_spent v.stage ≡ true)

-- the journal begins with what was seen, and all its entries of the caller are in that
abbrev pub Agrees : List Entry → ℕ → List Entry → Type 0
Agrees journal caller seen = Begins seen journal × (entries_of caller journal ≡ entries_of caller seen)

-- so much is known of one that was joined away
abbrev pub IsParted : List Entry → List View → Parted → Type 0
IsParted journal views p = Agrees journal p.caller p.seen × IsSpentAt views p.caller

-- what the view of a seat says is so
pub record IsTrue (journal : List Entry) (views : List View) (seat : ℕ) (v : View) : Type 0 where
  pub caller : v.caller ≡ seat
  pub seen : Agrees journal seat v.seen
  pub whole : has_turn v.stage ≡ true → v.seen ≡ journal
  pub made : seat ≡ 0 → v.made ≡ length views
  pub joined : AllByRecursion (IsParted journal views) v.joined

-- each view that is not spent is so, and a number that was not given out has no entry
pub record IsJournal (journal : List Entry) (views : List View) : Type 0 where
  pub each : (seat : ℕ) (v : View) → get_elem? views seat ≡ some v → is_spent v.stage ≡ false → IsTrue journal views seat v
  pub unborn : (seat : ℕ) → length views ≤ seat → entries_of seat journal ≡ []

module _ {O : Type 0} where
  -- the object is out, and some seat has the turn
  pub record IsOut (s : State (Option O) View) : Type 0 where
    pub home : s.homes ≡ none ∷ []
    pub seat : ℕ
    pub view : View
    pub there : get_elem? s.views seat ≡ some view
    pub turn : has_turn view.stage ≡ true

module _ {O : Type 0} (journal_of : O → List Entry) (grown : O → O → Type 0) where
  -- the object is at home, and no seat has the turn
  pub record AtHome (first : O) (journal : List Entry) (s : State (Option O) View) : Type 0 where
    pub object : O
    pub home : s.homes ≡ some (Some object) ∷ []
    pub keeps : journal_of object ≡ journal
    pub grows : grown first object
    pub none_has : (seat : ℕ) (v : View) → get_elem? s.views seat ≡ some v → has_turn v.stage ≡ false

  -- THE RULE: the words are the journal's length, the tickets drawn and the number served
  pub record Kept (first : O) (most : ℕ) (s : State (Option O) View) : Type 0 where
    pub journal : List Entry
    pub serving : ℕ
    pub queue : List ℕ
    pub words : s.words ≡ length journal ∷ (serving + length queue) % 2 ^ 64 ∷ serving % 2 ^ 64 ∷ []
    pub few : length s.views ≤ most
    pub short : length journal < 2 ^ 63
    pub queued : IsQueue serving queue s.views
    pub journaled : IsJournal journal s.views
    pub shelf : AtHome first journal s ⊎ IsOut s

  -- the object was taken: its journal is seen, and agrees with what was seen before
  abbrev pub Took : O → View → Me (Option O) View → Type 0
  Took first v me =
      (object : O) × (me ≡ (with_turn (journal_of object) v, (0, Some object) ∷ [])) × grown first object
      × Agrees (journal_of object) v.caller v.seen

  -- a look at the number served: it is the ticket's, and the object was taken, or it is not, and nothing changed
  abbrev pub Looked : O → Step (Option O) → Me (Option O) View → ℕ → Me (Option O) View → Type 0
  Looked first st me found after =
      (ticket : ℕ) → me.0.stage ≡ Waits ticket → (found ≡ ticket % 2 ^ 64 → Took first me.0 after) × (found ≢ ticket % 2 ^ 64 → after ≡ me)

module _ {O : Type 0} (journal_of : O → List Entry) where
  -- the journal of the object that is out was one entry longer than what was seen, and is seen
  abbrev pub Counted : Step (Option O) → Me (Option O) View → ℕ → Me (Option O) View → Type 0
  Counted st me found after =
      (found ≡ length me.0.seen) × ((object : O) → me.1 ≡ (0, Some object) ∷ [] → after ≡ (with_turn (journal_of object) me.0, me.1))

-- a ticket was drawn
abbrev pub Drew : {S : Type 0} → Step S → Me S View → ℕ → Me S View → Type 0
Drew st me found after = (ticket : ℕ) × (found ≡ ticket % 2 ^ 64) × (after ≡ (at_stage (Waits ticket) me.0, me.1))

-- the length of the journal was read
abbrev pub Measured : {S : Type 0} → Step S → Me S View → ℕ → Me S View → Type 0
Measured st me found after = (found ≡ length me.0.seen) × (after ≡ me)

-- the turn was passed on with the object
abbrev pub Passed : {S : Type 0} → Step S → Me S View → ℕ → Me S View → Type 0
Passed st me found after = after ≡ (at_stage Idle me.0, rest me.1)

-- the next caller has no entry yet
abbrev pub FindsUnborn : {S : Type 0} → Step S → Me S View → ℕ → Me S View → Type 0
FindsUnborn st me found after = (entries_of me.0.made me.0.seen ≡ []) × (after ≡ me)

-- a caller's seat after the next one was made, and the next one
abbrev pub one_more : View → View
one_more v = record { caller = v.caller; stage = v.stage; seen = v.seen; made = v.made + 1; joined = v.joined }

abbrev pub next_caller : View → View
next_caller v = idle v.made v.seen 0

-- what a seat knows that another was joined to, and what is left of the other
abbrev pub parted : View → Parted
parted v = record { caller = v.caller; seen = v.seen }

abbrev pub joined_to : View → View → View
joined_to v other = record { caller = v.caller; stage = v.stage; seen = v.seen; made = v.made; joined = v.joined ++ parted other ∷ [] }

abbrev pub spent : View
spent = record { caller = 0; stage = Spent; seen = []; made = 0; joined = [] }

-- what the one view of a seat has seen
abbrev pub seen_in : List View → List Entry
seen_in [] = []
seen_in (v ∷ views) = v.seen

-- what is left of a pass that was joined away
abbrev pub parted_pass : Known → Parted
parted_pass pass = record { caller = pass.caller; seen = pass.seen }

-- what the first of these passes knows once the others were joined to it
abbrev pub gathered : List Known → View
gathered [] = spent
gathered (pass ∷ passes) = record { caller = pass.caller; stage = Idle; seen = pass.seen; made = pass.made; joined = map parted_pass passes }

-- the view with these joined to it
abbrev pub with_joined : List Parted → View → View
with_joined joined v = record { caller = v.caller; stage = v.stage; seen = v.seen; made = v.made; joined = joined }

-- the passes are of the room
abbrev pub AreIn : TableId → List Known → Type 0
AreIn room passes = AllByRecursion (λ pass. pass.room ≡ room) passes

-- the pass that the seat is
abbrev pub known_at : {S : Type 0} → Seat S View → Known
known_at seat = record { room = seat.table_id; caller = seat.me.0.caller; seen = seat.me.0.seen; made = seat.me.0.made }

-- the seat of a pass: it is idle, with nothing joined, and holds nothing
abbrev pub IsRested : {S : Type 0} → Seat S View → Type 0
IsRested seat = seat.me ≡ (idle seat.me.0.caller seat.me.0.seen seat.me.0.made, [])

module _ {O : Type 0} (legal : O → List Entry → Type 0) (first : O) where
  -- more was seen, and it is legal
  pub record IsOnward (before after : Known) : Type 0 where
    pub same : IsSamePass before after
    pub seen : Begins before.seen after.seen
    pub lawful : legal first after.seen

  -- a call was served
  pub record IsServed (serves : O → List Entry → ℕ → Ask → Reply → List Entry → Type 0) (ask : Ask) (reply : Reply) (receipt : Receipt) (before after : Known) : Type 0 where
    pub onward : IsOnward before after
    pub entered : receipt.entered ≡ has_entry reply
    pub tells : Tells receipt before after
    pub served : serves first (before_call receipt after.seen) before.caller ask reply after.seen

  -- a query was answered
  pub record IsAnswered (answers : O → List Entry → ℕ → Query → Answer → Type 0) (query : Query) (answer : Answer) (before after : Known) : Type 0 where
    pub onward : IsOnward before after
    pub own_same : own after ≡ own before
    pub answered : answers first after.seen before.caller query answer
