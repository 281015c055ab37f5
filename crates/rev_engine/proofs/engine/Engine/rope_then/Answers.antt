use Rattle.std.proofs.Common.{subst, sym, ap}
use Rattle.std.proofs.lemmas.Result.{err_from_is_err_and}
use Rattle.plain_edits.specs.History.{head}
use Rattle.rev_list.specs.Hidden.{IsCollected, IsKeptAt, IsUnknown}
use Rattle.rev_engine.specs.State.{State}
use Rattle.rev_engine.proofs.StandLemmas.{IsKeptAt-answered}
use Rattle.rev_engine.proofs.engine.Engine.rope_then.Goals as goal

pub returns-in_err-without-in-Ok-clause-unknown : goal.returns-in_err-without-in-Ok-clause-unknown
returns-in_err-without-in-Ok-clause-unknown c = λ n.
    let p = err_from_is_err_and c.from_residual.result c.from_residual.ensures.1 in
    let is_err = p.1 in
    let none = p.2 in (
      λ e. absurd cc,
      λ is.
          let same = (c.in-Ok.ensures.unknown n).1 (subst (λ revisions. IsUnknown revisions c.args.rev n) (sym (ap (λ (s : State). s.revisions) c.self.view_is)) is) in
          absurd cc,
    )

pub returns-in_err-without-in-Ok-clause-collected : goal.returns-in_err-without-in-Ok-clause-collected
returns-in_err-without-in-Ok-clause-collected c = λ n.
    let p = err_from_is_err_and c.from_residual.result c.from_residual.ensures.1 in
    let is_err = p.1 in
    let none = p.2 in (
      λ e. absurd cc,
      λ is.
          let same = (c.in-Ok.ensures.collected n).1 (subst (λ revisions. IsCollected revisions c.args.rev n) (sym (ap (λ (s : State). s.revisions) c.self.view_is)) is) in
          absurd cc,
    )

pub returns-in_ok-without-in-Ok-clause-unknown : goal.returns-in_ok-without-in-Ok-clause-unknown
returns-in_ok-without-in-Ok-clause-unknown c = λ n. (
  λ e. absurd cc,
  λ is.
      let same = (c.in-Ok.ensures.unknown n).1 (subst (λ revisions. IsUnknown revisions c.args.rev n) (sym (ap (λ (s : State). s.revisions) c.self.view_is)) is) in
      absurd cc,
)

pub returns-in_ok-without-in-Ok-clause-collected : goal.returns-in_ok-without-in-Ok-clause-collected
returns-in_ok-without-in-Ok-clause-collected c = λ n. (
  λ e. absurd cc,
  λ is.
      let same = (c.in-Ok.ensures.collected n).1 (subst (λ revisions. IsCollected revisions c.args.rev n) (sym (ap (λ (s : State). s.revisions) c.self.view_is)) is) in
      absurd cc,
)

pub returns-in-Err-clause-unknown : goal.returns-in-Err-clause-unknown
returns-in-Err-clause-unknown c = λ n. (
  λ e. subst (λ revisions. IsUnknown revisions c.args.rev n) (ap (λ (s : State). s.revisions) c.self.view_is) ((c.in-Err.ensures.unknown n).0 cc),
  λ is.
      let same = (c.in-Err.ensures.unknown n).1 (subst (λ revisions. IsUnknown revisions c.args.rev n) (sym (ap (λ (s : State). s.revisions) c.self.view_is)) is) in
      cc,
)

pub returns-in-Err-clause-collected : goal.returns-in-Err-clause-collected
returns-in-Err-clause-collected c = λ n. (
  λ e. subst (λ revisions. IsCollected revisions c.args.rev n) (ap (λ (s : State). s.revisions) c.self.view_is) ((c.in-Err.ensures.collected n).0 cc),
  λ is.
      let same = (c.in-Err.ensures.collected n).1 (subst (λ revisions. IsCollected revisions c.args.rev n) (sym (ap (λ (s : State). s.revisions) c.self.view_is)) is) in
      cc,
)

pub returns-in_ok-without-in-Ok-clause-kept : goal.returns-in_ok-without-in-Ok-clause-kept
returns-in_ok-without-in-Ok-clause-kept c =
    subst (λ revisions. IsKeptAt revisions c.args.rev) (ap (λ (s : State). s.revisions) c.self.view_is)
    (IsKeptAt-answered c.self.inside.revs c.args.rev
    (λ is.
    let same = (c.in-Ok.ensures.unknown (head c.self.inside.revs)).1 is in
    absurd cc)
    (λ is.
    let same = (c.in-Ok.ensures.collected c.self.inside.revs.floor).1 is in
    absurd cc))
