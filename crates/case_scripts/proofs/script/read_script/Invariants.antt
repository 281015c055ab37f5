use Rattle.std.proofs.Common.{◌+◌, ◌≤◌, length}
use Rattle.case_scripts.proofs.ScriptLemmas.{Reads}
use Rattle.case_scripts.proofs.script.read_script.Given as goal

abbrev pub invariant-loop-rest : goal.invariant-loop-rest
invariant-loop-rest l = record {
  reads : Reads l.text l.script l.number l.rest;
  count : l.number + length l.rest ≤ length l.text;
}

abbrev pub decreases-loop-rest : goal.decreases-loop-rest
decreases-loop-rest l = length l.rest
