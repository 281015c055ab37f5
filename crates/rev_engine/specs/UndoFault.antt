-- What a fault of an undo prints.
use Rattle.std.specs.Prelude.{ℕ, List, ◌++◌, codes}
use Rattle.std.specs.Fmt.{decimal}
use Rattle.rev_engine.specs.declared.undo.UndoFault.{UndoFault}
use Rattle.rev_engine.specs.declared.undo.UndoFault.TheVariants.{Frozen, NoMemory}

-- what is printed of a fault
abbrev pub undo_fault_text : UndoFault → List ℕ
undo_fault_text (Frozen group) = codes "group " ++ decimal group ++ codes " is collected"
undo_fault_text NoMemory = codes "out of memory"
