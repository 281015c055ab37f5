use Rattle.std.proofs.Common.{arith}
use Rattle.std.proofs.lemmas.Result.{IfOk-weaker}
use Rattle.shared_tree.specs.Row.{shapes}
use Rattle.shared_tree.proofs.PatchLemmas.{IfSome_weaker}
use Rattle.shared_tree.proofs.RowLemmas.{kids_of, made_under_one}
use Rattle.shared_tree.proofs.patch.regrouped.Goals as goal

pub returns-then-len-le8 : goal.returns-then-len-le8
returns-then-len-le8 g c =
    let are = kids_of g.L.Leaf c.args.height c.args.row.items c.requires.above c.requires.levels (omega arith) (omega arith) in
    IfOk-weaker c.alone.result _ _ (λ made some. IfSome_weaker made _ _ (λ few is. made_under_one g.L.Leaf c.args.height (shapes c.args.row.items) _ _ are c.inner.ensures is) some) c.alone.ensures
