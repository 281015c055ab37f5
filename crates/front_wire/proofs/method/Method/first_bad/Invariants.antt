use Rattle.std.proofs.Common.{◌≡◌, drop}
use Rattle.serde_json.specs.View.{view}
use Rattle.front_wire.specs.Members.{first_bad}
use Rattle.front_wire.specs.Method.{members}
use Rattle.front_wire.proofs.method.Method.first_bad.Given as goal

-- what is left to be read decides
abbrev pub invariant-loop-place : goal.invariant-loop-place
invariant-loop-place l = first_bad l.place (drop l.place (members l.self)) (view l.params) ≡ first_bad 0 (members l.self) (view l.params)
