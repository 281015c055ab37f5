use Rattle.std.proofs.Common.{◌≡◌, length}
use Rattle.plugin_crew.specs.Member.{begun_of}
use Rattle.plugin_crew.proofs.AloneLemmas.{PartOf}
use Rattle.plugin_crew.proofs.crew.Crew.round.Given as goal

-- those before this place had their turns
abbrev pub invariant-loop-at : goal.invariant-loop-at
invariant-loop-at g l =
    record {
      long : length l.self.members.items ≡ length l.fn.self.members.items;
      begun : begun_of l.self.members.items ≡ begun_of l.fn.self.members.items;
      grown : g.O.Object.grown l.fn.object l.object;
      part : PartOf g.O.Object.journal g.O.Object.serves g.O.Object.answers g.O.Object.grown g.P.Plugin.told
          g.met.O.Object.onward g.met.O.Object.serves_on g.met.O.Object.answers_on l.at l.fn.object l.fn.self.members.items l.object l.self.members.items;
    }
