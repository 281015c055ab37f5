-- TURNS of a plugin, and what tells them.
use Rattle.std.specs.Prelude.{◌≡◌, ℕ, Bool, List, ◌++◌, Option, Some, None}
use Rattle.plugin_session.specs.declared.plugin.Turn.{Turn}

-- a turn: the lines given, the lines given back, and whether the plugin was done
pub record Turned : Type 0 where
  pub given : List (List ℕ)
  pub back : List (List ℕ)
  pub done : Bool

-- the turn that was given these lines and gave this
abbrev pub turn_had : List (List ℕ) → Turn → Turned
turn_had given turn = record { given = given; back = turn.lines; done = turn.done }

-- what is told gained these, at the end. It may stop being told, and never begins again
abbrev pub TellsMore : {A : Type 0} → Option (List A) → Option (List A) → List A → Type 0
TellsMore None None gained = Unit {0}
TellsMore None (Some after) gained = ⊥
TellsMore (Some before) None gained = Unit {0}
TellsMore (Some before) (Some after) gained = after ≡ before ++ gained
