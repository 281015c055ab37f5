-- Characters stay characters, however a text is put together.
use Rattle.std.proofs.Common.{◌≡◌, ◌∙◌, ap, sym, subst, ℕ, true, List, [], ◌∷◌, ◌++◌, take, drop}
use Rattle.std.specs.Str.{all_scalars}
use Rattle.std.proofs.lemmas.Bool.{and_from, and_parts}
use Rattle.plain_text.proofs.callers.TextLemmas.{all_scalars-drop, all_scalars-take}
use Rattle.shared_tree.specs.Replaced.{replaced}
use Rattle.shared_tree.specs.Shape.{Shape}
use Rattle.rope_node.specs.Node.{text_of}

pub all_scalars-append : (xs ys : List ℕ) → all_scalars xs ≡ true → all_scalars ys ≡ true → all_scalars (xs ++ ys) ≡ true
all_scalars-append [] ys one other = other
all_scalars-append (c ∷ xs) ys one other =
    let parts = and_parts _ (all_scalars xs) one in and_from _ (all_scalars (xs ++ ys)) parts.0 (all_scalars-append xs ys parts.1 other)

pub all_scalars-replaced : (xs ys : List ℕ) (from to : ℕ) → all_scalars xs ≡ true → all_scalars ys ≡ true → all_scalars (replaced xs from to ys) ≡ true
all_scalars-replaced xs ys from to one other =
    all_scalars-append (take from xs) (ys ++ drop to xs) (all_scalars-take from xs one)
    (all_scalars-append ys (drop to xs) other (all_scalars-drop to xs one))

-- a node is one of characters where another is that it equals, or where its text is
pub same-scalars : (node other : Shape (List ℕ)) → node ≡ other → all_scalars (text_of other) ≡ true → all_scalars (text_of node) ≡ true
same-scalars node other is scalars = subst (λ (n : Shape (List ℕ)). all_scalars (text_of n) ≡ true) (sym is) scalars

pub text-scalars : (node other : Shape (List ℕ)) (text : List ℕ) → node ≡ other → text_of other ≡ text → all_scalars text ≡ true → all_scalars (text_of node) ≡ true
text-scalars node other text is shown scalars = subst (λ (t : List ℕ). all_scalars t ≡ true) (sym (ap text_of is ∙ shown)) scalars
