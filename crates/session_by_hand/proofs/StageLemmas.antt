-- The first call is made in a session without entries.
use Rattle.std.proofs.Common.{◌≡◌, ℕ, List, Option, Result, Ok, Err, subst}
use Rattle.std.specs.Prelude.{IfOk}
use Rattle.core_session.specs.Shelves.{Files}
use Rattle.session_by_hand.specs.declared.hand.Hand.{Hand}
use Rattle.session_by_hand.specs.declared.stage.Step.{Step}
use Rattle.session_by_hand.specs.Comes.{IsFresh}
use Rattle.session_by_hand.specs.Stage.{IsAfterCall, IsAfterFirstCall}

pub first_made : {E : Type 0} (plugins : ℕ) (files : Files) (hand : Hand) (line : List ℕ) (made : Result (Option Step) E) → hand.plugins ≡ plugins →
    IsFresh plugins files hand.core → IfOk made (λ next. IsAfterCall hand.plugins hand.core line next) → IfOk made (λ next. IsAfterFirstCall plugins files line next)
first_made plugins files hand line (Ok next) same first after = record {
  core = hand.core;
  first = first;
  after = subst (λ many. IsAfterCall many hand.core line next) same after;
}
first_made plugins files hand line (Err error) same first after = tt
