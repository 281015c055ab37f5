-- CALLS AT A DOOR, and how they stand in a journal.
use Rattle.std.specs.Prelude.{◌≡◌, ℕ, ◌+◌, ◌≤◌, List, [], ◌∷◌, ◌++◌, length, take, drop, map, if◌then◌else◌, Option}
use Rattle.std.specs.Str.{encode_utf8_all}
use Rattle.xi_plain.specs.declared.entry.Entry.{Entry}
use Rattle.xi_plain.specs.declared.ask.Ask.{Ask}
use Rattle.xi_plain.specs.declared.ask.Ask.TheVariants.{FrontLine, PluginLine, PluginEnd, CloseDown}
use Rattle.xi_plain.specs.declared.ask.Query.{Query}
use Rattle.xi_plain.specs.declared.reply.Reply.{Reply}
use Rattle.xi_plain.specs.declared.reply.Reply.TheVariants.{Taken, Refused}
use Rattle.xi_plain.specs.declared.reply.Answer.{Answer}
use Rattle.xi_plain.specs.Reply.{has_entry}
use Rattle.xi_plain.specs.Room.{Begins}
use Rattle.xi_plain.specs.Journal.{entries_of}
use Rattle.plugin_session.specs.declared.noted.Noted.{Noted}
use Rattle.plugin_session.specs.declared.noted.Noted.TheVariants.{Asked, Looked}
use Rattle.plugin_session.specs.Turn.{TellsMore}

-- the ask is one of plugins
abbrev pub IsPluginAsk : Ask → Type 0
IsPluginAsk (FrontLine line) = ⊥
IsPluginAsk (PluginLine line) = Unit {0}
IsPluginAsk PluginEnd = Unit {0}
IsPluginAsk CloseDown = ⊥

-- a call, and how long the journal was when it was served
pub record Call : Type 0 where
  pub at : ℕ
  pub noted : Noted

-- what went through the door at it
abbrev pub noted_of : List Call → List Noted
noted_of calls = map (λ call. call.noted) calls

-- how many entries the call made: one, or none
abbrev pub made : Noted → ℕ
made (Asked ask reply) = if has_entry reply then 1 else 0
made (Looked query answer) = 0

-- how long the journal was after the call
abbrev pub end_of : Call → ℕ
end_of call = call.at + made call.noted

-- the entries that these calls made, in their order
abbrev pub entries_at : List Entry → List Call → List Entry
entries_at journal [] = []
entries_at journal (call ∷ calls) = take (made call.noted) (drop call.at journal) ++ entries_at journal calls

-- the answer that a text is: an empty one is none
abbrev pub answer_in : List ℕ → List (List ℕ)
answer_in [] = []
answer_in (char ∷ text) = (char ∷ text) ∷ []

-- the answers to the lines that were asked, in their order: there is none to a line without an id, to one whose entry was not sent, and to one
-- that was not served
abbrev pub answer_of : Noted → List (List ℕ)
answer_of (Asked (PluginLine line) (Taken text)) = answer_in text
answer_of (Asked (PluginLine line) (Refused text)) = answer_in text
answer_of other = []

abbrev pub answers_of : List Call → List (List ℕ)
answers_of [] = []
answers_of (call ∷ calls) = answer_of call.noted ++ answers_of calls

-- the ask that a line of a plugin is
abbrev pub line_ask : List ℕ → Ask
line_ask line = PluginLine (encode_utf8_all line)

module _ (serves : List Entry → ℕ → Ask → Reply → List Entry → Type 0) (answers : List Entry → ℕ → Query → Answer → Type 0) where
  -- the journal is such that the call was served at its length: a look was answered by the journal as it was, and an ask made of it what it
  -- is then
  abbrev pub IsServedBy : List Entry → ℕ → ℕ → Noted → Type 0
  IsServedBy journal caller at (Looked query answer) = answers (take at journal) caller query answer
  IsServedBy journal caller at (Asked ask reply) =
      serves (take at journal) caller ask reply (take (at + made (Asked ask reply)) journal)

  -- CALLS STAND in the journal from a length on: the lengths never fall, rise where an entry was made, and each call was served at its own
  abbrev pub Stand : List Entry → ℕ → ℕ → List Call → Type 0
  Stand journal caller from [] = from ≤ length journal
  Stand journal caller from (call ∷ calls) =
      (from ≤ call.at) × IsServedBy journal caller call.at call.noted × Stand journal caller (end_of call) calls

  -- what calls of the caller did to a journal: it begins with the former one, they stand in what is new, and no other new entry is the
  -- caller's
  pub record Went (caller : ℕ) (before after : List Entry) (calls : List Call) : Type 0 where
    pub begins : Begins before after
    pub stand : Stand after caller (length before) calls
    pub own : entries_of caller after ≡ entries_of caller before ++ entries_at after calls

module _ {D : Type 0} (caller : D → ℕ) (journal : D → List Entry)
    (serves : D → List Entry → ℕ → Ask → Reply → List Entry → Type 0) (answers : D → List Entry → ℕ → Query → Answer → Type 0)
    (later : D → D → Type 0) (ready : D → Type 0) (told : D → Option (List Noted)) where
  -- WHAT CALLS DID at a door
  pub record Used (before after : D) (calls : List Call) : Type 0 where
    pub same : caller after ≡ caller before
    pub grown : later before after
    pub usable : ready after
    pub went : Went (serves before) (answers before) (caller before) (journal before) (journal after) calls
    pub tells : TellsMore (told before) (told after) (noted_of calls)

-- one ask: others may have made entries first, the caller none
abbrev pub IsAskServed : (List Entry → ℕ → Ask → Reply → List Entry → Type 0) → ℕ → Ask → Reply → List Entry → List Entry → Type 0
IsAskServed serves caller ask reply before after =
    (others : List Entry) × (entries_of caller others ≡ []) × serves (before ++ others) caller ask reply after

-- one look: others may have made entries first, the caller none, and the journal with these answers
abbrev pub IsLookServed : (List Entry → ℕ → Query → Answer → Type 0) → ℕ → Query → Answer → List Entry → List Entry → Type 0
IsLookServed answers caller query answer before after =
    (others : List Entry) × (entries_of caller others ≡ []) × (after ≡ before ++ others) × answers after caller query answer
