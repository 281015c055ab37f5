-- A case passes exactly where nothing is wrong with its run.
use Rattle.std.proofs.Common.{◌≡◌, ℕ, List, Option, None, Some, refl, sym, subst, ◌∙◌}
use Rattle.std.specs.Prelude.{◌↔◌, ◌==◌, ⊤}
use Rattle.protocol_cases.specs.declared.verdict.Expected.{Expected}
use Rattle.protocol_cases.specs.declared.verdict.Fault.{Fault}
use Rattle.protocol_cases.specs.declared.verdict.Fault.TheVariants.{Status}
use Rattle.protocol_cases.specs.declared.verdict.Place.TheVariants.{Output}
use Rattle.protocol_cases.specs.declared.verdict.Verdict.{Verdict}
use Rattle.protocol_cases.specs.declared.verdict.Verdict.TheVariants.{BadLine, Fails, Passes}
use Rattle.protocol_cases.specs.Difference.{first_of}
use Rattle.protocol_cases.specs.Played.{Played}
use Rattle.case_scripts.specs.Shelf.{Files}
use Rattle.protocol_cases.specs.Shelf.{AreAsSaid}
use Rattle.protocol_cases.specs.TurnFault.{plugins_fault}
use Rattle.protocol_cases.specs.Turns.{HadAll}
use Rattle.protocol_cases.specs.Verdict.{IsExpected, bytes_fault, fault_of, shelf_fault, status_fault, verdict_from, verdict_of}
use Rattle.protocol_cases.proofs.TurnLemmas.{plugins-exact}
use Rattle.protocol_cases.proofs.VerdictLemmas.{IsExact, IsNone, bytes_fault-exact, first_of-exact, number-exact, shelf_fault-exact}

fault_of-exact : (expected : Expected) (got : List ℕ) (players : List Played) (shelf : Files) (status : ℕ) →
    IsExact (fault_of expected got players shelf status) (IsExpected expected got players shelf status)
unfolding IsExact
fault_of-exact expected got players shelf status =
    let ends = first_of-exact (shelf_fault expected.files shelf) (status_fault expected.status status) (AreAsSaid expected.files shelf)
    (status ≡ expected.status) (shelf_fault-exact expected.files shelf)
    (number-exact expected.status status (Status expected.status status) (expected.status == status) refl) in
    let after = first_of (shelf_fault expected.files shelf) (status_fault expected.status status) in
    let turns = first_of-exact (plugins_fault expected.turns 1 players) after (HadAll expected.turns 1 players)
    (AreAsSaid expected.files shelf × (status ≡ expected.status)) (plugins-exact expected.turns 1 players) ends in
    let exact = first_of-exact (bytes_fault Output expected.output got) (first_of (plugins_fault expected.turns 1 players) after)
    (got ≡ expected.output) (HadAll expected.turns 1 players × (AreAsSaid expected.files shelf × (status ≡ expected.status)))
    (bytes_fault-exact Output expected.output got) turns in (
      λ none. record { output = (exact.0 none).0; plugins = (exact.0 none).1.0; files = (exact.0 none).1.1.0; ends = (exact.0 none).1.1.1 },
      λ is. exact.1 (is.output, (is.plugins, (is.files, is.ends))),
    )

IsPass : Verdict → Type 0
IsPass Passes = ⊤
IsPass (BadLine number) = ⊥
IsPass (Fails fault) = ⊥

-- a case passes exactly where nothing is wrong
pub passes_exact : (expected : Expected) (got : List ℕ) (players : List Played) (shelf : Files) (status : ℕ) (verdict : Verdict) →
    verdict ≡ verdict_of expected got players shelf status → (verdict ≡ Passes) ↔ IsExpected expected got players shelf status
unfolding IsNone IsExact IsPass
passes_exact expected got players shelf status verdict is =
    let exact = fault_of-exact expected got players shelf status in
    (λ pass. exact.0 (passed (fault_of expected got players shelf status) (sym is ∙ pass)), λ fact. is ∙ passes (fault_of expected got players shelf status) (exact.1 fact))
  where
    passed : (fault : Option Fault) → verdict_from fault ≡ Passes → IsNone fault
    passed None pass = tt
    passed (Some fault) pass = subst IsPass (sym pass) tt

    passes : (fault : Option Fault) → IsNone fault → verdict_from fault ≡ Passes
    passes None none = refl
    passes (Some fault) none = absurd none
