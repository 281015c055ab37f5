-- The edit since a revision, of what an engine holds.
use Rattle.std.proofs.Common.{◌≡◌, ℕ, ap, subst, ◌∙◌, Result, Ok, Err, IfOk, OnOk}
use Rattle.plain_edits.specs.declared.delta.UnitDelta.{UnitDelta}
use Rattle.plain_edits.specs.History.{History, head}
use Rattle.delta_core.specs.Synthesis.{IsBetween}
use Rattle.collection_laws.specs.Left.{left_of}
use Rattle.rev_list.specs.Hidden.{IsKeptAt, hidden_at}
use Rattle.rev_list.proofs.ForCallers.{hidden_without_text}
use Rattle.rev_engine.specs.State.{State}
use Rattle.rev_engine.specs.Engine.{IsSince, StandsFor}
use Rattle.rev_engine.proofs.ChangeLemmas.{IsSince-between}
use Rattle.rev_engine.proofs.LeftLemmas.{IsSince-left}
use Rattle.rev_engine.proofs.StandLemmas.{IsKeptAt-stands, forgets-stands}

pub IsSince-stands : (engine : State) (h : History) (rev : ℕ) (units : UnitDelta) → StandsFor engine h → IsKeptAt engine.revisions rev →
    IsBetween engine.union (hidden_at engine.revisions rev) (hidden_at engine.revisions (head engine.revisions)) units → IsSince h rev units
IsSince-stands engine h rev units stands kept between =
    let is_kept = IsKeptAt-stands engine h stands rev kept in
    IsSince-left h rev units (forgets-stands engine h stands) is_kept.0 is_kept.1
    (IsSince-between (left_of h) rev units
    (subst (λ xs. IsBetween xs (hidden_at (left_of h) rev) (hidden_at (left_of h) (head (left_of h))) units) stands.union
    (subst (λ before. IsBetween engine.union before (hidden_at (left_of h) (head (left_of h))) units) (hidden rev)
    (subst (λ after. IsBetween engine.union (hidden_at engine.revisions rev) after units)
    (hidden (head engine.revisions) ∙ ap (λ (g : History). hidden_at (left_of h) (head g)) stands.revisions) between))))
  where
    hidden : (at : ℕ) → hidden_at engine.revisions at ≡ hidden_at (left_of h) at
    hidden at = ap (λ (g : History). hidden_at g at) stands.revisions ∙ hidden_without_text (left_of h) at

-- what is answered of a kept revision
pub since-answered : {E : Type 0} (engine : State) (h : History) (rev : ℕ) → StandsFor engine h → (answer : Result UnitDelta E) →
    IfOk answer (λ units. IsBetween engine.union (hidden_at engine.revisions rev) (hidden_at engine.revisions (head engine.revisions)) units) →
    OnOk answer (IsKeptAt engine.revisions rev) → IfOk answer (λ units. IsSince h rev units)
since-answered engine h rev stands (Ok units) between kept = IsSince-stands engine h rev units stands kept between
since-answered engine h rev stands (Err fault) between kept = tt
