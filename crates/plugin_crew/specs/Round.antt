-- A ROUND OF TURNS.
use Rattle.std.specs.Prelude.{◌≡◌, ℕ, ◌+◌, List, [], ◌∷◌, length}
use Rattle.std.specs.Bool.{MatchBool}
use Rattle.xi_plain.specs.declared.entry.Entry.{Entry}
use Rattle.xi_plain.specs.declared.ask.Ask.{Ask}
use Rattle.xi_plain.specs.declared.ask.Query.{Query}
use Rattle.xi_plain.specs.declared.reply.Reply.{Reply}
use Rattle.xi_plain.specs.declared.reply.Answer.{Answer}
use Rattle.plugin_session.specs.Alone.{OnlyAdds}
use Rattle.plugin_session.specs.Call.{Call, Went, end_of}
use Rattle.plugin_session.specs.Visit.{Visit, IsVisit, port_of}
use Rattle.plugin_crew.specs.Standing.{is_open}

-- the calls follow one another directly: each is served where the one before it ended, the first at this length, and the last ends at that
abbrev pub Follow : ℕ → List Call → ℕ → Type 0
Follow from [] end = end ≡ from
Follow from (call ∷ calls) end = (call.at ≡ from) × Follow (end_of call) calls end

module _ (serves : List Entry → ℕ → Ask → Reply → List Entry → Type 0) (answers : List Entry → ℕ → Query → Answer → Type 0) where
  -- a session with these visits, the latest first, had one more: its calls follow one another directly, from where the journal was before to
  -- where it is then, and each new entry is the caller's
  pub record IsTurn (caller : ℕ) (before : List Entry) (old : List Visit) (visit : Visit) (after : List Entry) : Type 0 where
    pub fits : IsVisit (port_of caller old) visit
    pub went : Went serves answers caller before after visit.calls
    pub adds : OnlyAdds caller before after
    pub direct : Follow (length before) visit.calls (length after)

  -- a session that goes on has one visit more, and any other has none
  abbrev pub HasItsTurn : ℕ → List Entry → List Visit → List Visit → List Entry → Type 0
  HasItsTurn caller before old new after =
      MatchBool (is_open old) ((visit : Visit) × (new ≡ visit ∷ old) × IsTurn caller before old visit after) ((new ≡ old) × (after ≡ before))

  -- A ROUND: each session, from this caller's on, has its turn, the next one where the one before it ended
  abbrev pub IsRound : ℕ → List Entry → List (List Visit) → List (List Visit) → List Entry → Type 0
  IsRound caller before [] [] after = after ≡ before
  IsRound caller before [] (new ∷ news) after = ⊥
  IsRound caller before (old ∷ olds) [] after = ⊥
  IsRound caller before (old ∷ olds) (new ∷ news) after =
      (middle : List Entry) × HasItsTurn caller before old new middle × IsRound (caller + 1) middle olds news after
