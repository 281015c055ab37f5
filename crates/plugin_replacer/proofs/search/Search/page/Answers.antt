use Rattle.std.proofs.Common.{[], ◌∷◌, ◌++◌, sym, ap, ◌∙◌}
use Rattle.std.proofs.lemmas.Result.{on_ok_weaker}
use Rattle.plugin_replacer.specs.Turns.{in_utf8}
use Rattle.plugin_replacer.proofs.StepLemmas.{page-not_due, page-due, page-no_edit, page-edit, on_ok_any}
use Rattle.plugin_replacer.proofs.search.Search.page.Goals as goal

pub returns-then-not-is_to_search-clause-searched : goal.returns-then-not-is_to_search-clause-searched
returns-then-not-is_to_search-clause-searched g c =
    page-not_due g.M.Spot.found_in c.args.self.now _ _ _ c.self.view_is c.args.leaf.now (sym c.is_to_search.ensures ∙ c.if-not-is_to_search.true)

pub returns-then-not-is_to_search-clause-all : goal.returns-then-not-is_to_search-clause-all
returns-then-not-is_to_search-clause-all g c =
    page-no_edit g.M.Spot.found_in c.args.self.now _ _ _ c.self.view_is c.args.leaf.now (in_utf8 c.args.given.now) (sym c.is_to_search.ensures ∙ c.if-not-is_to_search.true)

pub returns-clause-searched : goal.returns-clause-searched
returns-clause-searched g c =
    on_ok_any c.put_edit.result
    (page-due g.M.Spot.found_in c.args.self.now _ _ _ c.self.view_is c.args.leaf.now c.push.new.self (sym c.is_to_search.ensures ∙ c.if-not-is_to_search.false)
    (c.in_ok-push.ensures.pushed ∙ ap (λ view. c.self.inside.searched ++ view ∷ []) c.in_ok-view.ensures))

pub returns-clause-all : goal.returns-clause-all
returns-clause-all g c =
    on_ok_weaker c.put_edit.result
    (page-edit g.M.Spot.found_in c.args.self.now _ _ _ c.self.view_is c.args.leaf.now c.in_ok-runs.runs (in_utf8 c.args.given.now) (in_utf8 c.put_edit.new.given)
    (sym c.is_to_search.ensures ∙ c.if-not-is_to_search.false) c.in_ok-runs.ensures.found)
    c.put_edit.ensures.all
