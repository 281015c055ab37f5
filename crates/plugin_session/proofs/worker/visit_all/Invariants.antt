use Rattle.std.proofs.Common.{◌≡◌}
use Rattle.plugin_session.specs.Seat.{IsUsable}
use Rattle.plugin_session.specs.Visiting.{SoFar}
use Rattle.plugin_session.proofs.worker.visit_all.Given as goal

-- the visits so far were served, and the session goes on
abbrev pub invariant-loop : goal.invariant-loop
invariant-loop g l =
    record {
      object : l.door.door.first ≡ l.fn.door.door.first;
      ready : IsUsable g.O.Object.fits g.O.Object.legal l.door.door.first l.door.door.pass;
      so_far : SoFar (g.O.Object.serves l.fn.door.door.first) (g.O.Object.answers l.fn.door.door.first)
          l.port l.fn.door.door.pass l.door.door.pass (g.P.Plugin.told l.fn.plugin) (g.P.Plugin.told l.plugin);
    }
