use Rattle.std.proofs.Common.{ℕ, List, Option, ap, ap₂, subst, ◌∙◌}
use Rattle.std.specs.Option.{unwrap_or}
use Rattle.plain_text.specs.declared.run.Run.{Run}
use Rattle.match_index.specs.Found.{runs_in}
use Rattle.doc_view.specs.Inner.{AreFoundApart}
use Rattle.doc_view.specs.Search.{results}
use Rattle.doc_view.proofs.AnewLemmas.{AreAlikeViews-text}
use Rattle.doc_view.proofs.view.ViewState.alike_on_text.Goals as goal

pub returns : goal.returns
returns c =
    let now = c.args.self.now in
    let next = c.args.next.now in
    let apart = c.found_apart-found.result in
    AreAlikeViews-text now next c.apart_from-shown.result apart c.unwrap_or.result c.requires.same c.apart_from-shown.ensures
    (subst (λ (runs : List Run). AreFoundApart apart runs (results next.text next.query)) (ap runs_in c.matches.ensures)
    (subst (λ (runs : List Run). AreFoundApart apart (runs_in c.matches.result.now) runs) (ap runs_in c.matches-2.ensures) c.found_apart-found.ensures))
    (c.unwrap_or.ensures ∙ ap₂ (λ (gap : Option ℕ) len. unwrap_or gap len) c.earlier.ensures c.len.ensures)
