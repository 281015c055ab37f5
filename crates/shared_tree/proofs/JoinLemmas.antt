-- Two trees of which the last and the first leaf became one.
use Rattle.std.proofs.Common.{◌≡◌, ℕ, List, ◌++◌, take, drop, append_assoc, sym, ap, ◌∙◌}
use Rattle.shared_tree.specs.declared.leaf.Leaf.{Ghosts}
use Rattle.shared_tree.specs.declared.leaf.Summary.{Ghosts as Sum}
use Rattle.shared_tree.specs.Laws.{Adds, Sums}
use Rattle.shared_tree.specs.Row.{IsFit}
use Rattle.shared_tree.proofs.SumLemmas.{IsFit-left}

pub fused-left : {X : Type 0} (items last first both front : List X) (n : ℕ) → items ≡ take n items ++ last → front ≡ take n items → both ≡ last ++ first → front ++ both ≡ items ++ first
fused-left items last first both front n cut front_is both_is =
    rw (front_is, both_is) (sym (append_assoc (take n items) last first) ∙ ap (λ xs. xs ++ first) (sym cut))

pub fused : {X : Type 0} (items first others back : List X) (m : ℕ) → others ≡ first ++ drop m others → back ≡ drop m others → (items ++ first) ++ back ≡ items ++ others
fused items first others back m cut back_is =
    rw back_is (append_assoc items first (drop m others) ∙ ap (λ xs. items ++ xs) (sym cut))

pub fused-fits : {L Item I : Type 0} (leaf : Ghosts L Item I) (sum : Sum I) (adds : Adds sum.zero sum.plus sum.fits sum.count) (sums : Sums leaf.summed sum.zero sum.plus sum.count) (items first rest others : List Item) → others ≡ first ++ rest → IsFit leaf sum (items ++ others) → IsFit leaf sum (items ++ first)
fused-fits leaf sum adds sums items first rest others cut fit =
    let parted : items ++ others ≡ (items ++ first) ++ rest = rw cut (sym (append_assoc items first rest)) in
    IsFit-left leaf sum adds sums (items ++ first) rest (rw parted at fit)
