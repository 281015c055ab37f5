use Rattle.std.proofs.Common.{◌≡◌, None, get_or, ap, sym, ◌∙◌, subst}
use Rattle.entry_lines.specs.declared.piece.FrontNews.{FrontNews}
use Rattle.session_step.specs.declared.opened.Opened.{Opened}
use Rattle.session_step.specs.PluginStep.{step_outcome}
use Rattle.session_step.proofs.OpenLemmas.{serves_found}
use Rattle.session_step.specs.declared.acted.Acted.{Acted}
use Rattle.session_step.specs.declared.acted.Acted.TheVariants.{Taken}
use Rattle.session_step.specs.declared.next.NextViews.TheVariants.{One}
use Rattle.session_step.specs.PluginEffects.{IsActed}
use Rattle.session_step.proofs.PluginActLemmas.{IsActed-step}
use Rattle.session_step.proofs.acted.stepped.Goals as goal

pub returns-clause-acted : goal.returns-clause-acted
returns-clause-acted c = λ views view step there found made.
    let held = c.args.held.now in
    let none = c.index-held-at.result in
    let id = (get_or held c.args.at none).id in
    let own : id ≡ view.id = (serves_found held views c.args.at view none there.0 found).id in
    let opened : Opened = record { id = c.in_ok-copy.copy; doc = c.in_ok-shared.shared } in
    let with_front : FrontNews → Acted = λ front. Taken (record {
      reply = c.result_of.result;
      front = front;
      grown = c.args.fresh.grown;
      next = One c.args.at opened;
      news = c.in_ok-news.news;
    }) in
    let At : Acted → Type 0 = λ acted. IsActed held None (step_outcome c.args.fresh.styles views view step) acted in
    subst At (sym (c.taken.ensures ∙ ap with_front c.front_told.ensures))
    (IsActed-step held views c.args.at view step c.args.next c.args.effects opened id c.args.fresh.styles c.result_of.result c.in_ok-updates.updates
    c.args.fresh.grown c.in_ok-news.news there found made c.requires.inside own c.in_ok-copy.ensures c.in_ok-shared.ensures.ok c.result_of.ensures c.in_ok-updates.ensures
    c.in_ok-news.ensures)
