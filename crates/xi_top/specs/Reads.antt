-- WHO READS LINES, by what an ask of it does.
use Rattle.std.specs.Prelude.{◌≡◌, ℕ, true, List, [], ◌∷◌, ◌++◌}
use Rattle.xi_plain.specs.declared.entry.Entry.{Entry}
use Rattle.xi_plain.specs.declared.ask.Ask.{Ask}
use Rattle.xi_plain.specs.declared.ask.Ask.TheVariants.{FrontLine}
use Rattle.xi_plain.specs.declared.reply.Reply.{Reply}
use Rattle.xi_plain.specs.Reply.{has_entry}
use Rattle.front_wire.specs.Front.{command_of}
use Rattle.core_session.specs.Kept.{is_over}
use Rattle.plugin_crew.specs.declared.took.Took.TheVariants.{Closed}
use Rattle.plugin_crew.specs.Taker.{took_of}

-- the journal has one entry more: the front end's, which asks what the line does
pub record AddsLine (before : List Entry) (line : List ℕ) (after : List Entry) : Type 0 where
  pub entry : Entry
  pub added : after ≡ before ++ entry ∷ []
  pub own : entry.caller ≡ 0
  pub asks : entry.command ≡ command_of line

-- a line of the front end that comes with an entry is that, and none is turned away but where no more is to come
pub record ReadsLines (serves : List Entry → ℕ → Ask → Reply → List Entry → Type 0) : Type 0 where
  pub entry : (line : List ℕ) (before : List Entry) (given : Reply) (after : List Entry) → serves before 0 (FrontLine line) given after →
      has_entry given ≡ true → AddsLine before line after
  pub closed : (line : List ℕ) (before : List Entry) (given : Reply) (after : List Entry) → serves before 0 (FrontLine line) given after →
      took_of given ≡ Closed → (after ≡ before) × (is_over before ≡ true)
