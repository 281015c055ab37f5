-- A plugin that plays turns.
use Rattle.std.specs.Prelude.{ℕ, Bool, List}
use Rattle.case_scripts.specs.declared.turns.TurnSaid.{TurnSaid}

-- its number, the turns that it is to have, those that it had, and whether it lacked memory to keep them
pub record Played : Type 0 where
  pub caller : ℕ
  pub turns : List TurnSaid
  pub had : List TurnSaid
  pub lost : Bool
