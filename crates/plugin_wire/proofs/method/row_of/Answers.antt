use Rattle.std.proofs.Common.{◌≡◌, ℕ, List, Some, subst}
use Rattle.std.specs.Prelude.{◌↔◌, slice_get}
use Rattle.plugin_wire.proofs.method.row_of.Goals as goal

pub returns-clause-own : goal.returns-clause-own
returns-clause-own c =
    subst (λ (names : List (List ℕ)). (row : ℕ) → (c.find.result ≡ Some row) ↔ (slice_get names row ≡ Some c.args.name.now)) c.in-Ok.ensures.names c.find.ensures.own
