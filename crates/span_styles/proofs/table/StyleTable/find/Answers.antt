use Rattle.std.proofs.Common.{◌≡◌, ap, ◌∙◌}
use Rattle.std.specs.BTreeMap.{get}
use Rattle.span_styles.specs.Keys.{key_of, key_cmp}
use Rattle.span_styles.proofs.TableLemmas.{IsFound-from}
use Rattle.span_styles.proofs.table.StyleTable.find.Goals as goal

pub returns-clause-found : goal.returns-clause-found
returns-clause-found c =
    let found : c.copied.result ≡ get key_cmp c.self.inside.ids (key_of c.args.style.now) =
    c.copied.ensures ∙ c.get.ensures.value ∙ ap (get key_cmp c.self.inside.ids) c.key.ensures in
    rw (← c.self.view_is) (IsFound-from c.self.inside.styles.items c.self.inside.ids c.args.style.now c.copied.result c.self.invariant found).has

pub returns-clause-one : goal.returns-clause-one
returns-clause-one c =
    let found : c.copied.result ≡ get key_cmp c.self.inside.ids (key_of c.args.style.now) =
    c.copied.ensures ∙ c.get.ensures.value ∙ ap (get key_cmp c.self.inside.ids) c.key.ensures in
    rw (← c.self.view_is) (IsFound-from c.self.inside.styles.items c.self.inside.ids c.args.style.now c.copied.result c.self.invariant found).one

pub returns-clause-absent : goal.returns-clause-absent
returns-clause-absent c =
    let found : c.copied.result ≡ get key_cmp c.self.inside.ids (key_of c.args.style.now) =
    c.copied.ensures ∙ c.get.ensures.value ∙ ap (get key_cmp c.self.inside.ids) c.key.ensures in
    rw (← c.self.view_is) (IsFound-from c.self.inside.styles.items c.self.inside.ids c.args.style.now c.copied.result c.self.invariant found).absent
