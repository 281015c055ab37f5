use Rattle.std.proofs.Common.{◌≡◌, List, subst, OnOk}
use Rattle.plain_text.specs.declared.run.Run.{Run}
use Rattle.match_index.proofs.JoinedLemmas.{with_joined-last}
use Rattle.match_index.proofs.joined.put_joined.Goals as goal

pub returns-in-Some : goal.returns-in-Some
returns-in-Some c =
    subst (λ (runs : List Run). OnOk c.put_onto.result (c.put_onto.new.runs ≡ runs))
    (with_joined-last c.args.runs.now c.pop.new.self c.in-Some.last c.args.run c.in-Some.ensures.popped) c.put_onto.ensures
