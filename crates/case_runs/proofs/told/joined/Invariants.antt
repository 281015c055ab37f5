use Rattle.std.proofs.Common.{◌≡◌, ◌++◌, drop}
use Rattle.std.specs.List.{flat_map}
use Rattle.case_runs.proofs.told.joined.Given as goal

abbrev pub invariant-loop-text : goal.invariant-loop-text
invariant-loop-text l =
    l.bytes.items ++ flat_map (λ text. text.now) (drop l.text-index l.first) ≡ flat_map (λ text. text.now) l.first
