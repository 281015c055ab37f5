use Rattle.std.proofs.Common.{subst, ◌∷◌, []}
use Rattle.plugin_session.specs.declared.noted.Noted.TheVariants.{Asked}
use Rattle.plugin_session.specs.Noting.{KeepsUnlessRefused}
use Rattle.plugin_session.specs.Turn.{TellsMore}
use Rattle.plugin_session.proofs.noted.NotedDoorDoor.enter.Goals as goal

pub returns-clause-told : goal.returns-clause-told
returns-clause-told g c =
    subst (λ old. TellsMore old.kept c.note-2.new.self.kept (Asked c.args.ask c.enter-reply.result ∷ [])) c.self.view_is
    (c.note-2.ensures.told (Asked c.args.ask c.enter-reply.result) (c.asked.ensures c.args.ask c.copy-copy.ensures))

pub returns-clause-keeps : goal.returns-clause-keeps
returns-clause-keeps g c =
    subst (λ old. KeepsUnlessRefused old c.note-2.new.self (Asked c.args.ask c.enter-reply.result)) c.self.view_is
    (c.note-2.ensures.keeps (Asked c.args.ask c.enter-reply.result) (c.asked.ensures c.args.ask c.copy-copy.ensures))
