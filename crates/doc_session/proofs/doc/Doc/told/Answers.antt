use Rattle.std.proofs.Common.{None, refl, ap₂, ◌∙◌}
use Rattle.std.specs.Prelude.{if◌then◌else◌}
use Rattle.doc_layout.specs.Told.{scroll_between}
use Rattle.doc_view.specs.Looking.{is_scrolling}
use Rattle.doc_view.specs.View.{point_in}
use Rattle.doc_session.specs.InMemory.{Doc}
use Rattle.doc_session.proofs.SettleLemmas.{IsUncollected-told, scroll-told, update-told}
use Rattle.doc_session.proofs.doc.Doc.told.Goals as goal

pub returns-clause-stepped : goal.returns-clause-stepped
returns-clause-stepped c = λ plain later stands untold.
    let now = c.args.self.now in
    let next = c.args.next in
    let request = c.args.said.request in
    let asked = is_scrolling c.args.said.scrolling in
    record {
      stands = IsUncollected-told now next request plain later stands untold c.in_ok-next.next c.in_ok-next.ensures.doc;
      effects = record {
        body = refl;
        update = update-told now next request plain later stands untold c.in_ok-next.update c.in_ok-next.ensures.update;
        scroll = scroll-told now next request plain later stands untold asked _ (c.scroll_to-scroll.ensures ∙ ap₂
            (λ (d made : Doc). if asked then scroll_between (point_in d.view) (point_in made.view) else None) c.self.view_is c.next.view_is);
        notice = refl;
      };
    }
