use Rattle.std.proofs.Common.{[], ◌∷◌, refl}
use Rattle.xi_plain.specs.declared.ask.Ask.TheVariants.{PluginEnd}
use Rattle.plugin_session.specs.declared.noted.Noted.TheVariants.{Asked}
use Rattle.plugin_session.proofs.asking.end_done.Goals as goal

pub returns : goal.returns
returns g c =
    let used = c.ask-reply.ensures.used in
    record {
      ended = (
        record { at = used.0; noted = Asked PluginEnd c.ask-reply.result } ∷ [],
        used.1,
        (used.0, c.ask-reply.result, refl, c.after_end.ensures),
        refl,
      );
    }
