use Rattle.crew_cases.proofs.threads.close_where.Goals as goal

pub close-requires : goal.close-requires
close-requires g c =
    record {
      ready = (
        c.requires,
        record {
          lines = λ line. tt;
          close = tt;
          plugins = λ caller from to. record { plugin = from; asks = λ ask of_plugin. tt };
          faults = λ before caller ask given after served. served.1;
        },
      );
    }
