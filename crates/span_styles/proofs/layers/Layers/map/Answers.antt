use Rattle.std.proofs.Common.{sym, subst, ◌≡◌, List}
use Rattle.std.specs.Prelude.{IfOk}
use Rattle.plain_edits.specs.Styles.{Layer}
use Rattle.span_styles.proofs.StillLemmas.{mapped_layers-still}
use Rattle.span_styles.proofs.layers.Layers.map.Goals as goal

pub returns-then-leaves_all : goal.returns-then-leaves_all
returns-then-leaves_all c =
    subst (λ (layers : List Layer). IfOk c.copy.result (λ made. made ≡ layers))
    (sym (mapped_layers-still c.args.units.now c.args.self.now (c.leaves_all.ensures.0 c.if-leaves_all.true) c.requires.over))
    c.copy.ensures
