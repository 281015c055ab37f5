use Rattle.std.proofs.Common.{◌≤◌, Some, None, ap, subst, ◌∙◌, arith}
use Rattle.std.proofs.lemmas.Bool.{lt-ltb, ltb-true}
use Rattle.plain_edits.specs.History.{History}
use Rattle.rev_list.specs.Groups.{IsFirstEdit}
use Rattle.rev_engine.specs.State.{State}
use Rattle.rev_engine.proofs.KnownLemmas.{begins_none, begins_some}
use Rattle.rev_engine.proofs.StandLemmas.{floor-stands, formed-stands}
use Rattle.rev_engine.proofs.engine.Engine.begins_after.Goals as goal

pub returns-in-Some : goal.returns-in-Some
returns-in-Some c = λ history stands kept.
    let engine = c.args.self.now in
    let low : history.floor ≤ c.args.rev = omega (arith, c.requires, floor-stands engine history stands) in
    let same = ap (λ (s : State). s.revisions.revisions) c.self.view_is ∙ ap (λ (h : History). h.revisions) stands.revisions in
    let both =
    begins_some history c.args.group c.in-Some.first c.args.rev (formed-stands engine history stands) kept low
    (subst (λ revisions. IsFirstEdit revisions c.args.group (Some c.in-Some.first)) same c.in-Some.ensures) in
    (λ later. both.0 (ltb-true c.args.rev c.in-Some.first later), λ begins. lt-ltb c.args.rev c.in-Some.first (both.1 begins))

pub returns-in-None : goal.returns-in-None
returns-in-None c = λ history stands kept.
    let engine = c.args.self.now in
    let same = ap (λ (s : State). s.revisions.revisions) c.self.view_is ∙ ap (λ (h : History). h.revisions) stands.revisions in (
      λ later. absurd cc,
      λ begins.
          absurd (begins_none history c.args.group c.args.rev (formed-stands engine history stands) kept
          (subst (λ revisions. IsFirstEdit revisions c.args.group None) same c.in-None.ensures) begins),
    )
