-- What an event and a line come to in memory, by what the calls below them say.
use Rattle.std.proofs.Common.{◌≡◌, ◌<◌, ℕ, List, None, true, subst}
use Rattle.plain_edits.specs.declared.style.Style.{Style}
use Rattle.xi_plain.specs.declared.command.Command.{Command}
use Rattle.xi_plain.specs.declared.config.Config.{Config}
use Rattle.session_step.specs.declared.next.NextViews.TheVariants.{All}
use Rattle.core_session.specs.declared.ask.Asked.{Asked}
use Rattle.session_step.specs.declared.opened.Opened.{Opened}
use Rattle.session_step.specs.Session.{Session, config_after}
use Rattle.session_step.specs.Views.{AreOfPlugins}
use Rattle.core_session.specs.InnerSession.{IsAsked, IsPrepared}
use Rattle.core_session.specs.Kept.{StandsForSession, front_entry}
use Rattle.core_session.specs.declared.prepare.Prepared.{Prepared}

-- the same with the configuration after it, as it is put in
pub IsPrepared-by : (held : List Opened) (table : List Style) (ended : List ℕ) (session : Session) (command : Command) (asked : Asked) (config : Config) →
    IsAsked session command asked → table ≡ session.styles → ended ≡ session.ended → AreOfPlugins session.terms.plugins session.ended →
    config ≡ config_after session.config command.act → 0 < config.tab → IsPrepared held table ended session (record {
      entry = front_entry command asked.note true;
      piece = asked.piece;
      told = asked.told;
      next = All asked.held;
      grown = None;
      gone = None;
      opened = asked.opened;
      config = config;
    })
IsPrepared-by held table ended session command asked config is styles over plugins same tab = record {
  accepted = tt;
  lines = is.done.lines;
  reads_back = is.done.reads_back;
  told = is.told;
  stands =
      record { views = is.done.stands; styles = styles; ended = over; plugins = plugins; opened = is.opened; config = same; tab = tab };
}

-- what was prepared beside lists that are these ones
pub prepared_from : (views held : List Opened) (table : List Style) (over ended : List ℕ) (opened : ℕ) (config : Config) (session : Session) (made : Prepared) →
    held ≡ views → ended ≡ over → (StandsForSession held table ended opened config session → IsPrepared held table ended session made) →
    StandsForSession views table over opened config session → IsPrepared views table over session made
prepared_from views held table over ended opened config session made same ends by stands =
    let At : List Opened → List ℕ → Type 0 =
    λ held ended. StandsForSession held table ended opened config session → IsPrepared held table ended session made in
    subst (At views) ends (subst (λ held. At held ended) same by) stands
