-- What a fault of an edit says in the words of the definitions.
use Rattle.std.specs.Prelude.{◌≡◌, ◌≢◌, ℕ, Option, Some, None, List, ◌++◌, codes}
use Rattle.std.specs.Fmt.{decimal}
use Rattle.plain_edits.specs.Edits.{Refusal, unknown, collected, misfit, spent}
use Rattle.plain_edits.specs.declared.fault.EditFault.{EditFault}
use Rattle.plain_edits.specs.declared.fault.EditFault.TheVariants.{Unknown, Collected, Misfit, Spent, NoMemory}

-- the refusal that a fault is; want of memory is none
abbrev pub refusal_of : EditFault → Option Refusal
refusal_of (Unknown head) = Some (unknown head)
refusal_of (Collected floor) = Some (collected floor)
refusal_of (Misfit first) = Some (misfit first)
refusal_of (Spent total) = Some (spent total)
refusal_of NoMemory = None

-- the fault is this refusal, or want of memory
abbrev pub Refuses : Option Refusal → EditFault → Type 0
Refuses refusal fault = fault ≢ NoMemory → refusal ≡ refusal_of fault

-- what is printed of a fault
abbrev pub edit_fault_text : EditFault → List ℕ
edit_fault_text (Unknown head) = codes "unknown base: the head is " ++ decimal head
edit_fault_text (Collected floor) = codes "collected base: the floor is " ++ decimal floor
edit_fault_text (Misfit first) = codes "misfit of kind " ++ decimal first.kind ++ codes " at " ++ decimal first.at
edit_fault_text (Spent total) = codes "spent: " ++ decimal total ++ codes " characters in all"
edit_fault_text NoMemory = codes "out of memory"
