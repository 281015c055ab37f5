-- TURNS of a replacer: what is given, and how it stands after.
use Rattle.std.specs.Prelude.{◌≡◌, ◌≢◌, ℕ, List, [], ◌++◌, map, Option, Some}
use Rattle.std.specs.Str.{encode_utf8_all}
use Rattle.plain_text.specs.declared.run.Run.{Run}
use Rattle.xi_plain.specs.declared.command.Command.{Command}
use Rattle.plugin_side.specs.Asking.{turn_bytes}
use Rattle.plugin_mirror.specs.declared.fault.BookFault.{BookFault}
use Rattle.plugin_mirror.specs.declared.fault.BookFault.TheVariants.{NoMemory}
use Rattle.plugin_replacer.specs.Replacing.{Replacing, Course, turn_course}

-- what it looks for, what comes in its place, and the views that it searched
pub record Searching (S : Type 0) : Type 0 where
  pub spot : S
  pub new : List ℕ
  pub searched : List (List ℕ)

-- a replacer: what it looks for and what comes in its place, how far it is, and the fault that ended its last turn, if one did
pub record Replacement (S : Type 0) : Type 0 where
  pub spot : S
  pub new : List ℕ
  pub state : Replacing
  pub fault : Option BookFault

-- texts as bytes
abbrev pub in_utf8 : List (List ℕ) → List (List ℕ)
in_utf8 texts = map encode_utf8_all texts

-- the lines of these commands were put behind others
abbrev pub Puts : List Command → List (List ℕ) → List (List ℕ) → Type 0
Puts commands before after = after ≡ before ++ map turn_bytes commands

-- those of the first of them were, and those of the rest were not
pub record PutsFirst (commands : List Command) (before after : List (List ℕ)) : Type 0 where
  pub said : List Command
  pub unsaid : List Command
  pub parts : commands ≡ said ++ unsaid
  pub puts : Puts said before after

-- a course was taken, and all that it asks was put behind others
pub record TakesCourse (course : Course) (after : Replacing) (fault : Option BookFault) (from to : List (List ℕ)) : Type 0 where
  pub state : after ≡ course.after
  pub ended : fault ≡ course.fault
  pub puts : Puts course.asks from to

-- A TURN with these lines: its course was taken and its asks were given; or memory was wanting, and the first of them were given.
-- What is found in which text, and what comes in its place, stays
pub record TurnReplaces {S : Type 0} (found_in : S → List ℕ → List Run) (before after : Replacement S) (lines given : List (List ℕ)) : Type 0 where
  pub found : found_in after.spot ≡ found_in before.spot
  pub new : after.new ≡ before.new
  pub comes : after.fault ≢ Some NoMemory → TakesCourse (turn_course (found_in before.spot) before.new before.state lines) after.state after.fault [] given
  pub first : PutsFirst (turn_course (found_in before.spot) before.new before.state lines).asks [] given
