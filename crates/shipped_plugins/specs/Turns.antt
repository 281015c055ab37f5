-- TURNS of a plugin that takes one line after the other: what each line comes to, and what a turn gives.
use Rattle.std.specs.Prelude.{◌≡◌, ℕ, Bool, List, [], ◌∷◌, ◌++◌, map}
use Rattle.std.specs.Bool.{MatchBool}
use Rattle.std.specs.List.{AllByRecursion}
use Rattle.std.specs.Str.{encode_utf8_all}
use Rattle.xi_plain.specs.declared.command.Command.{Command}
use Rattle.plugin_wire.specs.Asked.{ask_of}
use Rattle.plugin_side.specs.Asking.{turn_bytes}
use Rattle.plugin_side.specs.declared.heard.Heard.{Heard}
use Rattle.plugin_side.specs.Heard.{heard_in}

-- what something comes to: the state after it, and what is asked
pub record Upshot (S : Type 0) : Type 0 where
  pub after : S
  pub asks : List Command

-- a plugin after its turns: what it remembers, and whether the last of them was short of memory
pub record AfterTurns (S : Type 0) : Type 0 where
  pub state : S
  pub short : Bool

-- nothing changes, and nothing is asked
abbrev pub passed : {S : Type 0} → S → Upshot S
passed state = record { after = state; asks = [] }

-- texts as bytes
abbrev pub utf8_of : List (List ℕ) → List (List ℕ)
utf8_of texts = map encode_utf8_all texts

-- ---- lines of commands

-- the lines of commands, in their order
abbrev pub command_lines : List Command → List (List ℕ)
command_lines commands = map turn_bytes commands

-- the core reads the line of the command as this command
abbrev pub ReadsBack : Command → Type 0
ReadsBack command = ask_of (turn_bytes command) ≡ command

-- the lines of these commands were put behind others, and the core reads each as its command
pub record Gives (commands : List Command) (before after : List (List ℕ)) : Type 0 where
  pub put : after ≡ before ++ command_lines commands
  pub reads : AllByRecursion ReadsBack commands

-- those of the first of them were, and those of the rest were not
pub record GivesFirst (commands : List Command) (before after : List (List ℕ)) : Type 0 where
  pub said : List Command
  pub unsaid : List Command
  pub parts : commands ≡ said ++ unsaid
  pub gives : Gives said before after

-- ---- what lines come to

-- a step was taken, and all that it asks was given
pub record Comes {S : Type 0} (step : Upshot S) (after : S) (from to : List (List ℕ)) : Type 0 where
  pub state : after ≡ step.after
  pub gives : Gives step.asks from to

-- it was taken, and the first of what it asks was given
pub record ComesFirst {S : Type 0} (step : Upshot S) (after : S) (from to : List (List ℕ)) : Type 0 where
  pub state : after ≡ step.after
  pub gives : GivesFirst step.asks from to

module _ {S : Type 0} (step : S → Heard → Upshot S) where
  -- WHAT LINES COME TO, each heard after the one before it
  abbrev pub heeded : S → List (List ℕ) → Upshot S
  heeded state [] = passed state
  heeded state (line ∷ lines) =
      let first = step state (heard_in line) in
      let rest = heeded first.after lines in
      record { after = rest.after; asks = first.asks ++ rest.asks }

  -- all lines were heeded, and what they ask was given
  abbrev pub HeedsAll : S → S → List (List ℕ) → List (List ℕ) → List (List ℕ) → Type 0
  HeedsAll before after lines from to = Comes (heeded before lines) after from to

  -- the first of the lines were heeded, and of what they ask the first was given
  pub record HeedsFirst (before after : S) (lines from to : List (List ℕ)) : Type 0 where
    pub front : List (List ℕ)
    pub back : List (List ℕ)
    pub parts : lines ≡ front ++ back
    pub comes : ComesFirst (heeded before front) after from to

  -- A TURN: all lines were heeded, and what they ask was given; or it was short of memory, and the first of them were
  abbrev pub TurnHeeds : AfterTurns S → AfterTurns S → List (List ℕ) → List (List ℕ) → Type 0
  TurnHeeds before after lines given =
      MatchBool after.short (HeedsFirst before.state after.state lines [] given) (HeedsAll before.state after.state lines [] given)
