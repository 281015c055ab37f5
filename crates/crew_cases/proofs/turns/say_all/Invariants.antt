use Rattle.crew_cases.proofs.turns.say_all.Given as goal

-- the taker took lines, and may take more
abbrev pub invariant-loop-line : goal.invariant-loop-line
invariant-loop-line g l = record { ready : g.T.LineTaker.ready l.taker; later : g.T.LineTaker.later l.fn.taker l.taker }
