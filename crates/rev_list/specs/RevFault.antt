-- What a fault of a revision prints, and the fault of an edit whose base it is.
use Rattle.std.specs.Prelude.{ℕ, List, ◌++◌, codes}
use Rattle.std.specs.Fmt.{decimal}
use Rattle.rev_list.specs.declared.fault.RevFault.{RevFault}
use Rattle.rev_list.specs.declared.fault.RevFault.TheVariants.{Unknown, Collected, NoMemory}
use Rattle.plain_edits.specs.declared.fault.EditFault.{EditFault}
use Rattle.plain_edits.specs.declared.fault.EditFault.TheVariants as Edit

-- what is printed of a fault
abbrev pub rev_fault_text : RevFault → List ℕ
rev_fault_text (Unknown head) = codes "the head is revision " ++ decimal head
rev_fault_text (Collected floor) = codes "the floor is revision " ++ decimal floor
rev_fault_text NoMemory = codes "out of memory"

-- the fault of an edit whose base gives no answer
abbrev pub fault_of_base : RevFault → EditFault
fault_of_base (Unknown head) = Edit.Unknown head
fault_of_base (Collected floor) = Edit.Collected floor
fault_of_base NoMemory = Edit.NoMemory
