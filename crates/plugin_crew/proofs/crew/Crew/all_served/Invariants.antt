use Rattle.std.proofs.Common.{◌≡◌, drop}
use Rattle.plugin_crew.specs.Member.{are_served}
use Rattle.plugin_crew.proofs.crew.Crew.all_served.Given as goal

-- those before this place are served
abbrev pub invariant-loop-member : goal.invariant-loop-member
invariant-loop-member g l = are_served (drop l.member-index l.self.members.items) ≡ are_served l.self.members.items
