use Rattle.std.proofs.Common.{None, ap, ap₂, sym, ◌∙◌}
use Rattle.std.specs.Prelude.{if◌then◌else◌}
use Rattle.doc_layout.specs.Told.{scroll_between}
use Rattle.doc_view.specs.View.{point_in}
use Rattle.doc_view.specs.declared.looking.Scrolling.{Scrolling}
use Rattle.doc_view.specs.Looking.{is_scrolling}
use Rattle.doc_view.proofs.view.ViewState.scroll_to.Goals as goal

pub returns-in-Nowhere : goal.returns-in-Nowhere
returns-in-Nowhere c =
    sym (ap (λ (asked : Scrolling). if is_scrolling asked then scroll_between (point_in c.args.self.now) (point_in c.args.next.now) else None) c.in-Nowhere.is)

pub returns-in-ToCaret : goal.returns-in-ToCaret
returns-in-ToCaret c =
    c.scroll_of.ensures ∙ ap₂ scroll_between c.point.ensures c.point-in-ToCaret.ensures ∙
    sym (ap (λ (asked : Scrolling). if is_scrolling asked then scroll_between (point_in c.args.self.now) (point_in c.args.next.now) else None) c.in-ToCaret.is)
