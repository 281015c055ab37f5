-- What an object may be asked after some calls.
use Rattle.std.proofs.Common.{ℕ}
use Rattle.xi_plain.specs.declared.ask.Ask.{Ask}
use Rattle.plugin_session.specs.Alone.{IsReady}

-- what may be asked of an object may be asked of it after some calls
pub ready_on : {O : Type 0} (fits : O → ℕ → Ask → Type 0) (caller : ℕ) (a b : O) → ((ask : Ask) → fits a caller ask → fits b caller ask)
    → IsReady fits caller a → IsReady fits caller b
ready_on fits caller a b fit is = record { plugin = is.plugin; asks = λ ask of_plugin. fit ask (is.asks ask of_plugin) }
