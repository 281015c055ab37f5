use Rattle.std.proofs.Common.{length, min, arith}
use Rattle.std.proofs.lemmas.Grind.{common_steps}
use Rattle.plugin_link.proofs.PullLemmas.{filled-take}
use Rattle.plugin_link.proofs.mem_link.MemLinkLink.pull.Goals as goal

pub returns-clause-given : goal.returns-clause-given
returns-clause-given c =
    let whole = filled-take c.args.buf.now c.self.inside.source c.min-room.result (min c.min-room.result (length c.self.inside.source)) (omega arith) (omega arith) in
    grind (arith, common_steps, whole)
