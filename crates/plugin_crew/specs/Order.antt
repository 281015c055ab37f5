-- THE ORDER OF TURNS of a run in turns, over its journal and the visits of each plugin.
use Rattle.std.specs.Prelude.{◌≡◌, ℕ, List, [], ◌∷◌, ◌++◌, replicate}
use Rattle.std.specs.Bool.{MatchBool}
use Rattle.xi_plain.specs.declared.entry.Entry.{Entry}
use Rattle.xi_plain.specs.declared.ask.Ask.{Ask}
use Rattle.xi_plain.specs.declared.ask.Query.{Query}
use Rattle.xi_plain.specs.declared.reply.Reply.{Reply}
use Rattle.xi_plain.specs.declared.reply.Answer.{Answer}
use Rattle.plugin_session.specs.Visit.{Visit}
use Rattle.plugin_crew.specs.Round.{IsRound}

module _ (serves : List Entry → ℕ → Ask → Reply → List Entry → Type 0) (answers : List Entry → ℕ → Query → Answer → Type 0) where
  -- an entry of the front end, and a round where it was sent
  abbrev pub IsEntered : List Entry → List (List Visit) → Entry → List (List Visit) → List Entry → Type 0
  IsEntered before olds entry news after =
      MatchBool entry.sent (IsRound serves answers 1 (before ++ entry ∷ []) olds news after) ((news ≡ olds) × (after ≡ before ++ entry ∷ []))

  -- one after the other
  abbrev pub AreEntered : List Entry → List (List Visit) → List Entry → List (List Visit) → List Entry → Type 0
  AreEntered before olds [] news after = (news ≡ olds) × (after ≡ before)
  AreEntered before olds (entry ∷ entries) news after =
      (middle : List Entry) × (mids : List (List Visit)) × IsEntered before olds entry mids middle × AreEntered middle mids entries news after

  -- THE RUN SO FAR, of so many plugins: a round, and then these entries of the front end, each with its round
  abbrev pub IsOrdered : ℕ → List Entry → List (List Visit) → List Entry → Type 0
  IsOrdered count entries visits journal =
      (opened : List Entry) × (firsts : List (List Visit)) × IsRound serves answers 1 [] (replicate count []) firsts opened
      × AreEntered opened firsts entries visits journal

  -- THE WHOLE RUN: at the end the closing entry, and the last round
  abbrev pub IsOrderedWhole : ℕ → List Entry → Entry → List (List Visit) → List Entry → Type 0
  IsOrderedWhole count entries closing visits journal =
      (before : List Entry) × (mids : List (List Visit)) × IsOrdered count entries mids before
      × IsRound serves answers 1 (before ++ closing ∷ []) mids visits journal
