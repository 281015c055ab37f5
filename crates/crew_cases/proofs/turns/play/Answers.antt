use Rattle.crew_cases.proofs.turns.play.Goals as goal

pub start-front-requires-clause-may : goal.start-front-requires-clause-may
start-front-requires-clause-may c =
    record {
      lines = λ line. tt;
      close = tt;
      plugins = λ caller from to. record { plugin = from; asks = λ ask of_plugin. tt };
      faults = λ before caller ask given after served. served.1;
    }
