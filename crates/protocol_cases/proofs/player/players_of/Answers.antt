use Rattle.std.proofs.Common.{◌≡◌, ◌+◌, ◌<◌, [], ◌∷◌, ◌++◌, arith}
use Rattle.std.specs.Prelude.{vec_len}
use Rattle.std.proofs.lemmas.Grind.{common_steps}
use Rattle.std.proofs.lemmas.Bool.Decides.{nat_tests}
use Rattle.protocol_cases.proofs.PlayerLemmas.{players_put}
use Rattle.protocol_cases.proofs.player.players_of.Goals as goal

pub loop-at-preserved : goal.loop-at-preserved
loop-at-preserved c =
    let less : c.loop-at.at < c.args.count = grind (arith, common_steps, nat_tests) in
    let put : c.push.new.self.items ≡ c.loop-at.players.items ++ c.new.result ∷ [] = grind (arith, common_steps) in
    let longer : vec_len c.push.new.self ≡ c.loop-at.at + 1 = grind (arith, common_steps) in
    record {
      players =
          players_put c.args.turns.now c.loop-at.at c.args.count c.loop-at.players.items c.push.new.self.items c.new.result c.in_ok-said.said less put
          c.new.ensures c.in_ok-said.ensures c.loop-at.invariant.players;
      count = longer;
    }
