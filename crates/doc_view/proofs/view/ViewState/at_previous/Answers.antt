use Rattle.std.proofs.Common.{length, ap, sym, ◌∙◌, subst}
use Rattle.std.specs.Prelude.{IfSome}
use Rattle.match_index.specs.Found.{Found, runs_in}
use Rattle.doc_view.specs.Search.{previous_match}
use Rattle.doc_view.proofs.SearchLemmas.{IsInside, previous_match-inside}
use Rattle.doc_view.proofs.view.ViewState.at_previous.Goals as goal

pub with_match-requires : goal.with_match-requires
with_match-requires c =
    let now = c.args.self.now in
    let regions = c.deref.result.now.regions in
    subst (λ o. IfSome o (IsInside (length now.text)))
    (sym (c.previous_match-found.ensures ∙ ap (λ (f : Found). previous_match (runs_in f) c.args.wrap_around regions) c.matches.ensures))
    (previous_match-inside now.text now.query c.args.wrap_around regions)
