use Rattle.std.proofs.Common.{◌≡◌, ◌≤◌, false, length}
use Rattle.plugin_cases.proofs.turns.visits.Given as goal

-- the session goes on, and its place is in the journal
abbrev pub invariant-loop : goal.invariant-loop
invariant-loop g l =
    record {
      going : l.port.ended ≡ false;
      own : l.port.caller ≡ 1;
      caller : g.D.Door.caller l.door ≡ 1;
      place : l.port.place ≤ length (g.D.Door.journal l.door);
      ready : g.D.Door.ready l.door;
    }
