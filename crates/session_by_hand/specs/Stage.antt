-- What a line comes to, by how far the lines have come.
use Rattle.std.specs.Prelude.{◌≡◌, ℕ, List, [], codes, Option, Some, None}
use Rattle.outside.specs.Shelf.{bytes_of, with_file}
use Rattle.core_session.specs.Shelves.{Files}
use Rattle.session_by_hand.specs.declared.files.File.{File}
use Rattle.session_by_hand.specs.declared.hand.Hand.{Hand}
use Rattle.session_by_hand.specs.declared.stage.Stage.{Stage}
use Rattle.session_by_hand.specs.declared.stage.Stage.TheVariants as at
use Rattle.session_by_hand.specs.declared.stage.Step.{Step}
use Rattle.session_by_hand.specs.Call.{Asked, after_mark, call_of, plugins_of}
use Rattle.session_by_hand.specs.Comes.{IsFresh, Says, MemorySession}
use Rattle.session_by_hand.specs.Files.{IsFileIn}

-- the first line says how many plugins there are
abbrev pub first_step : Option ℕ → Option Step
first_step None = None
first_step (Some plugins) = Some (record { stage = at.Files plugins []; said = [] })

-- a file is one more, where there is none of its name
abbrev pub IsNewIn : Files → Option File → Type 0
IsNewIn files None = ⊥
IsNewIn files (Some file) = bytes_of files file.name ≡ None

abbrev pub with_found : ℕ → Files → Option File → Stage
with_found plugins files None = at.Files plugins files
with_found plugins files (Some file) = at.Files plugins (with_file files file.name file.bytes)

-- so a line that says a file comes to one more, and is of no form where it says none, or one whose name is there
pub record IsAfterFile (plugins : ℕ) (files : Files) (text : List ℕ) (next : Option Step) : Type 0 where
  pub found : Option File
  pub is_said : IsFileIn text found
  pub put : IsNewIn files found → next ≡ Some (record { stage = with_found plugins files found; said = [] })
  pub refused : (IsNewIn files found → ⊥) → next ≡ None

-- a call is made in the session, and what is printed of it is said
pub record IsMade (plugins : ℕ) (core : MemorySession) (call : Asked) (next : Option Step) : Type 0 where
  pub hand : Hand
  pub said : List ℕ
  pub is : next ≡ Some (record { stage = at.Calls hand; said = said })
  pub same : hand.plugins ≡ plugins
  pub says : ∥ Says core hand.core call said ∥₁

-- the same, where the line is a call
abbrev pub IsMadeOf : ℕ → MemorySession → Option Asked → Option Step → Type 0
IsMadeOf plugins core None next = next ≡ None
IsMadeOf plugins core (Some call) next = IsMade plugins core call next

-- a line behind a call is one
abbrev pub IsAfterCall : ℕ → MemorySession → List ℕ → Option Step → Type 0
IsAfterCall plugins core line next = IsMadeOf plugins core (call_of plugins line) next

-- the first call is made in a session without entries
pub record IsAfterFirstCall (plugins : ℕ) (files : Files) (line : List ℕ) (next : Option Step) : Type 0 where
  pub core : MemorySession
  pub first : IsFresh plugins files core
  pub after : IsAfterCall plugins core line next

-- a line behind the first one says a file, or is a call
abbrev pub IsAfterFiles : ℕ → Files → List ℕ → Option (List ℕ) → Option Step → Type 0
IsAfterFiles plugins files line (Some text) next = IsAfterFile plugins files text next
IsAfterFiles plugins files line None next = IsAfterFirstCall plugins files line next

-- WHAT A LINE COMES TO at a stage: the next stage and what is printed, or nothing where it is of no form there
abbrev pub IsAfter : Stage → List ℕ → Option Step → Type 0
IsAfter at.First line next = next ≡ first_step (plugins_of line)
IsAfter (at.Files plugins files) line next = IsAfterFiles plugins files line (after_mark (codes "file ") line) next
IsAfter (at.Calls hand) line next = IsAfterCall hand.plugins hand.core line next
