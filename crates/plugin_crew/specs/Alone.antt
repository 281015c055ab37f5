-- A RUN IN TURNS: an object, and a crew.
use Rattle.std.specs.Prelude.{◌≡◌, ◌==◌, ◌<◌, ◌≤◌, ℕ, List, [], ◌∷◌, ◌++◌, Option, length}
use Rattle.std.proofs.Common.{ap, ◌∙◌}
use Rattle.std.proofs.lemmas.List.Elements.{filter-append}
use Rattle.xi_plain.specs.declared.entry.Entry.{Entry}
use Rattle.xi_plain.specs.declared.ask.Ask.{Ask}
use Rattle.xi_plain.specs.declared.ask.Ask.TheVariants.{FrontLine, CloseDown}
use Rattle.xi_plain.specs.declared.ask.Query.{Query}
use Rattle.xi_plain.specs.declared.reply.Reply.{Reply}
use Rattle.xi_plain.specs.declared.reply.Answer.{Answer}
use Rattle.xi_plain.specs.Journal.{front_entries}
use Rattle.xi_plain.specs.Room.{Begins}
use Rattle.plugin_session.specs.Alone.{IsReady}
use Rattle.plugin_session.specs.Turn.{Turned}
use Rattle.plugin_session.specs.Visit.{Visit}
use Rattle.plugin_crew.specs.declared.member.Member.{Member}
use Rattle.plugin_crew.specs.Round.{HasItsTurn, IsRound}
use Rattle.plugin_crew.specs.Order.{IsOrdered, IsOrderedWhole}
use Rattle.plugin_crew.specs.Member.{IsMember, AreMembers}
use Rattle.plugin_crew.specs.Taker.{TellsFaults}

-- law: the entries of the front end in a beginning of a journal are a beginning of those in it
pub fronts_begin : (a b : List Entry) → Begins a b → Begins (front_entries a) (front_entries b)
fronts_begin a b (more, is) = (front_entries more, ap front_entries is ∙ filter-append (λ entry. entry.caller == 0) a more)

-- the front end may ask what front ends ask, so many plugins what plugins ask, and the object tells faults
pub record MayServe {O : Type 0} (fits : O → ℕ → Ask → Type 0) (serves : O → List Entry → ℕ → Ask → Reply → List Entry → Type 0) (count : ℕ)
    (object : O) : Type 0 where
  pub lines : (line : List ℕ) → fits object 0 (FrontLine line)
  pub close : fits object 0 CloseDown
  pub plugins : (caller : ℕ) → 0 < caller → caller ≤ count → IsReady fits caller object
  pub faults : TellsFaults (serves object)

module _ {O P : Type 0} (journal : O → List Entry) (serves : O → List Entry → ℕ → Ask → Reply → List Entry → Type 0)
    (answers : O → List Entry → ℕ → Query → Answer → Type 0) (grown : O → O → Type 0) (told : P → Option (List Turned)) where
  -- a plugin is served by an object that grew from a former one, by the relations of that
  abbrev pub IsMemberOf : ℕ → O → O → Member P → List Visit → Type 0
  IsMemberOf caller first object member visits =
      grown first object × IsMember told (serves first) (answers first) caller (journal object) member visits

  -- so is every one
  abbrev pub AreMembersOf : O → O → List (Member P) → List (List Visit) → Type 0
  AreMembersOf first object members visits =
      grown first object × AreMembers told (serves first) (answers first) 1 (journal object) members visits

  -- a plugin had its turn, by whichever former object it was served
  abbrev pub HasVisit : ℕ → O → Member P → Member P → O → Type 0
  HasVisit caller before member next after =
      (first : O) (old : List Visit) → IsMemberOf caller first before member old
      → (new : List Visit) × HasItsTurn (serves first) (answers first) caller (journal before) old new (journal after)
      × IsMemberOf caller first after next new

  -- each had its turn
  abbrev pub HasRound : O → List (Member P) → List (Member P) → O → Type 0
  HasRound before members next after =
      (first : O) (olds : List (List Visit)) → AreMembersOf first before members olds
      → (news : List (List Visit)) × IsRound (serves first) (answers first) 1 (journal before) olds news (journal after)
      × AreMembersOf first after next news

  -- A RUN THAT GOES ON: every plugin is served, in the order of turns, by the object that the run began with
  pub record IsRunning (fits : O → ℕ → Ask → Type 0) (first object : O) (members : List (Member P)) : Type 0 where
    pub may : MayServe fits serves (length members) first
    pub visits : List (List Visit)
    pub members_are : AreMembersOf first object members visits
    pub order : IsOrdered (serves first) (answers first) (length members) (front_entries (journal object)) visits (journal object)

  -- A RUN THAT WAS CLOSED: the same, with the closing entry and the last round
  pub record IsClosed (first object : O) (members : List (Member P)) (entries : List Entry) : Type 0 where
    pub visits : List (List Visit)
    pub members_are : AreMembersOf first object members visits
    pub closing : Entry
    pub front : front_entries (journal object) ≡ entries ++ closing ∷ []
    pub order : IsOrderedWhole (serves first) (answers first) (length members) entries closing visits (journal object)
