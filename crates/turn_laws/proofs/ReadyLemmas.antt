-- One of the plugins may ask what plugins ask.
use Rattle.std.proofs.Common.{ℕ}
use Rattle.xi_plain.specs.declared.ask.Ask.{Ask}
use Rattle.xi_plain.specs.declared.ask.Ask.TheVariants.{CloseDown, FrontLine, PluginEnd, PluginLine}
use Rattle.plugin_session.specs.Call.{IsPluginAsk}
use Rattle.core_session.specs.Serves.{FitsCaller}
use Rattle.turn_laws.specs.Visits.{IsPluginOf}

pub may_ask : (plugins caller : ℕ) → IsPluginOf plugins caller → (ask : Ask) → IsPluginAsk ask → FitsCaller plugins caller ask
may_ask plugins caller is (FrontLine line) asks = absurd asks
may_ask plugins caller is (PluginLine line) asks = is
may_ask plugins caller is PluginEnd asks = is
may_ask plugins caller is CloseDown asks = absurd asks
