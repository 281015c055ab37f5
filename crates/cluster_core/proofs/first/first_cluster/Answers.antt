use Rattle.std.proofs.Common.{List, ℕ, true, sym, subst, ◌∙◌, refl}
use Rattle.cluster_core.specs.Plain.{StandsAlone}
use Rattle.cluster_core.proofs.FirstLemmas.{IsFirstCluster-alone, IsFirstCluster-cut, IsFirstCluster-parts, boundary-of_first, no_clusters}
use Rattle.cluster_core.proofs.first.first_cluster.Goals as goal

pub returns-then-stands_alone-clause-parts : goal.returns-then-stands_alone-clause-parts
returns-then-stands_alone-clause-parts c =
    IsFirstCluster-parts _ _ _ _ _ (IsFirstCluster-alone c.args.line.now c.utf8.line
    (subst (λ (bs : List ℕ). StandsAlone bs) c.as_bytes.ensures.value (c.stands_alone.ensures c.if-stands_alone.true)))
    c.split_at.ensures.front c.split_at.ensures.back

pub split_at-requires-in-Some : goal.split_at-requires-in-Some
split_at-requires-in-Some c =
    boundary-of_first c.args.line.now c.utf8.line _ _ (sym c.graphemes.ensures.left ∙ c.in-Some.ensures.steps)

pub returns-in-Some-clause-parts : goal.returns-in-Some-clause-parts
returns-in-Some-clause-parts c =
    IsFirstCluster-parts _ _ _ _ _ (IsFirstCluster-cut c.args.line.now c.utf8.line _ _ (sym c.graphemes.ensures.left ∙ c.in-Some.ensures.steps))
    c.split_at-in-Some.ensures.front c.split_at-in-Some.ensures.back

pub returns-in-None-clause-none : goal.returns-in-None-clause-none
returns-in-None-clause-none c =
    let empty = no_clusters c.args.line.now c.utf8.line (sym c.graphemes.ensures.left ∙ c.in-None.ensures.steps.0) in (λ none. empty, λ is. refl)
