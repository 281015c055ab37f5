use Rattle.std.specs.Prelude.{ℕ, List, ◌++◌, codes}
use Rattle.std.specs.Fmt.{decimal}
use Rattle.subset_runs.specs.declared.fault.SubsetFault.{SubsetFault}
use Rattle.subset_runs.specs.declared.fault.SubsetFault.TheVariants.{Bad, NoMemory}

-- what is printed of a fault
abbrev pub fault_text : SubsetFault → List ℕ
fault_text (Bad index) = codes "range " ++ decimal index ++ codes " is at fault"
fault_text NoMemory = codes "out of memory"
