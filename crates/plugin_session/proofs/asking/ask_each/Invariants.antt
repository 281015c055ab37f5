use Rattle.std.proofs.Common.{◌≡◌, ◌≤◌, List, take, drop, length}
use Rattle.plugin_session.specs.Call.{Call, Used, answers_of}
use Rattle.plugin_session.proofs.AskingLemmas.{SoFar}
use Rattle.plugin_session.proofs.asking.ask_each.Given as goal

-- so far these calls asked the lines up to here, and their answers stand in front
abbrev pub invariant-loop-at : goal.invariant-loop-at
invariant-loop-at g l =
    record {
      asked : (calls : List Call)
          × Used g.D.Door.caller g.D.Door.journal g.D.Door.serves g.D.Door.answers g.D.Door.later g.D.Door.ready g.D.Door.told l.fn.door l.door calls
          × SoFar l.fn.lines.items (drop l.at l.fn.lines.items) calls × (take l.kept l.lines.items ≡ answers_of calls);
      rest : drop l.at l.lines.items ≡ drop l.at l.fn.lines.items;
      kept : l.kept ≤ l.at;
      long : length l.lines.items ≡ length l.fn.lines.items;
    }
