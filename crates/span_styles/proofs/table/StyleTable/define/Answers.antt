use Rattle.std.proofs.Common.{◌+◌, cond, Some, ap, ◌∙◌, arith}
use Rattle.std.specs.Ordering.{is_eq}
use Rattle.std.specs.BTreeMap.{get}
use Rattle.span_styles.specs.Keys.{key_cmp}
use Rattle.span_styles.specs.Table.{IsAbsent}
use Rattle.span_styles.proofs.TableLemmas.{IsTable-push}
use Rattle.span_styles.proofs.table.StyleTable.define.Goals as goal

pub invariant_of-self-in-Ok : goal.invariant_of-self-in-Ok
invariant_of-self-in-Ok c =
    let absent : IsAbsent c.self.inside.styles.items c.args.style = rw c.self.view_is c.requires in
    IsTable-push c.self.inside.styles.items _ c.self.inside.ids _ c.args.style (c.len.result + 2) c.self.invariant absent c.in_ok-push.ensures.items
    (omega (arith, c.len.ensures))
    (λ key. c.in-Ok.ensures.updates.0 key ∙
    ap (λ k. cond (is_eq (key_cmp k key)) (Some (c.len.result + 2)) (get key_cmp c.self.inside.ids key)) c.key.ensures)
