-- EVERY ACCEPTED PLUGIN CALL STANDS ONCE, and the order of turns.
use Rattle.std.specs.Prelude.{◌≡◌, ℕ, ◌+◌, Bool, List, [], ◌∷◌, ◌++◌, length, map, ◌==◌, Option, ⊤, ◌⊎◌}
use Rattle.std.specs.Bool.{MatchBool}
use Rattle.std.specs.List.{list_all}
use Rattle.xi_plain.specs.declared.entry.Entry.{Entry}
use Rattle.xi_plain.specs.declared.ask.Ask.{Ask}
use Rattle.xi_plain.specs.declared.ask.Query.{Query}
use Rattle.xi_plain.specs.declared.reply.Reply.{Reply}
use Rattle.xi_plain.specs.declared.reply.Answer.{Answer}
use Rattle.xi_plain.specs.Journal.{closing_entry, front_entries}
use Rattle.core_session.specs.Answers.{Answers}
use Rattle.core_session.specs.Serves.{Serves}
use Rattle.plugin_session.specs.declared.after.After.TheVariants as after
use Rattle.plugin_session.specs.Turn.{Turned, TellsMore}
use Rattle.plugin_session.specs.Visit.{Visit, IsServed, IsWhole, turns_of}
use Rattle.plugin_crew.specs.Order.{IsOrderedWhole}
use Rattle.xi_top.specs.Alone.{terms_for}

-- what a call of a session does that was made for so many plugins
abbrev pub ServesFor : ℕ → List Entry → ℕ → Ask → Reply → List Entry → Type 0
ServesFor plugins before caller ask reply after = Serves (terms_for plugins) before caller ask reply after

-- and what it answers a look
abbrev pub AnswersFor : ℕ → List Entry → ℕ → Query → Answer → Type 0
AnswersFor plugins journal caller query answer = Answers (terms_for plugins) journal query answer

-- the session that had these visits, the latest first, ended for want of memory
abbrev pub EndsForMemory : List Visit → Type 0
EndsForMemory [] = ⊥
EndsForMemory (visit ∷ visits) = visit.after ≡ after.NoMemory

-- a plugin in a run: as it was handed in and as it came back, its visits, and whether memory was wanting for none of them
pub record InRun (P : Type 0) : Type 0 where
  pub began : P
  pub came : P
  pub visits : List Visit
  pub well : Bool

module _ {P : Type 0} (told : P → Option (List Turned)) (plugins : ℕ) where
  -- THE PLUGIN WAS SERVED by the journal, with this number: the turns that it tells more than it told are those of its visits, each of which
  -- stands in the journal, which has no other entry of it; and they are whole, or its session ended for want of memory
  pub record HadTurns (caller : ℕ) (journal : List Entry) (plugin : InRun P) : Type 0 where
    pub served : IsServed (ServesFor plugins) (AnswersFor plugins) caller journal plugin.visits
    pub tells : TellsMore (told plugin.began) (told plugin.came) (turns_of plugin.visits)
    pub ends : MatchBool plugin.well (IsWhole plugin.visits) (EndsForMemory plugin.visits)

  -- so was each, from this number on
  abbrev pub AllHadTurns : ℕ → List Entry → List (InRun P) → Type 0
  AllHadTurns caller journal [] = ⊤
  AllHadTurns caller journal (plugin ∷ others) = HadTurns caller journal plugin × AllHadTurns (caller + 1) journal others

-- THE PLUGINS of a run came back in their order, and each was served by the journal
pub record CameBack {P : Type 0} (told : P → Option (List Turned)) (handed back : List P) (journal : List Entry) (all : Bool) : Type 0 where
  pub runs : List (InRun P)
  pub handed_is : map (λ plugin. plugin.began) runs ≡ handed
  pub back_is : map (λ plugin. plugin.came) runs ≡ back
  pub all_is : all ≡ list_all (λ plugin. plugin.well) runs
  pub served : AllHadTurns told (length handed) 1 journal runs

-- and each had its turns in order: one before the first line, one after each entry of the front end that was sent, and the last one after the
-- closing entry
pub record HasTurns {P : Type 0} (told : P → Option (List Turned)) (handed back : List P) (journal : List Entry) (all : Bool) : Type 0 where
  pub came : CameBack told handed back journal all
  pub entries : List Entry
  pub front : front_entries journal ≡ entries ++ closing_entry ∷ []
  pub order : IsOrderedWhole (ServesFor (length handed)) (AnswersFor (length handed)) (length handed) entries closing_entry
      (map (λ plugin. plugin.visits) came.runs) journal

-- none had a turn, since the run never began: they came back as they were
pub record HasNoTurns {P : Type 0} (handed back : List P) (journal : List Entry) (all : Bool) : Type 0 where
  pub empty : journal ≡ []
  pub same : back ≡ handed
  pub all_is : all ≡ (length handed == 0)

-- THE TURNS of a run, in whatever order they were
abbrev pub ServesPlugins : {P : Type 0} → (P → Option (List Turned)) → List P → List P → List Entry → Bool → Type 0
ServesPlugins told handed back journal all = CameBack told handed back journal all ⊎ HasNoTurns handed back journal all

-- and of a run in turns
abbrev pub TakesTurns : {P : Type 0} → (P → Option (List Turned)) → List P → List P → List Entry → Bool → Type 0
TakesTurns told handed back journal all = HasTurns told handed back journal all ⊎ HasNoTurns handed back journal all
