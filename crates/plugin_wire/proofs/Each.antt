-- Loops that read a list of items, all of one shape.
use Rattle.std.proofs.Common.{◌≡◌, ℕ, suc, ◌+◌, ◌<◌, ◌≤◌, List, [], ◌∷◌, ◌++◌, length, drop, get_or, Option, Some, None, option_map, option_and_then, refl, sym, ap, ◌∙◌, subst, arith, add-one, append_assoc, append-nil}
use Rattle.std.specs.Prelude.{reverse}
use Rattle.std.proofs.Math.Seq.{drop-cons}
use Rattle.std.proofs.lemmas.List.{drop_all, reverse-append, reverse-reverse}
use Rattle.serde_json.specs.Data.{Data}
use Rattle.serde_json.specs.View.{view, items_view}
use Rattle.serde_json.specs.declared.value.Value.{Value}
use Rattle.plugin_wire.specs.Shapes.{each_shape}

-- what all items are is what was read so far, and then what the rest is
pub record EachLeft {A : Type 0} (shape : Data → Option A) (items rest : List Value) (done : List A) : Type 0 where
  pub left : each_shape shape (items_view items) ≡ option_map (λ xs. done ++ xs) (each_shape shape (items_view rest))

with_none_before : {A : Type 0} (o : Option (List A)) → o ≡ option_map (λ xs. [] ++ xs) o
with_none_before None = refl
with_none_before (Some xs) = refl

pub EachLeft-all : {A : Type 0} (shape : Data → Option A) (items : List Value) → EachLeft shape items items []
EachLeft-all shape items = record { left = with_none_before (each_shape shape (items_view items)) }

one_more : {A : Type 0} (done : List A) (x : A) (o : Option (List A)) → option_map (λ xs. done ++ xs) (option_map (λ xs. x ∷ xs) o) ≡ option_map (λ xs. (done ++ x ∷ []) ++ xs) o
one_more done x None = refl
one_more done x (Some xs) = ap Some (sym (append_assoc done (x ∷ []) xs))

-- the next item is of the shape
pub EachLeft-next : {A : Type 0} (shape : Data → Option A) (items later rest : List Value) (v : Value) (done : List A) (x : A)
    → EachLeft shape items later done → later ≡ v ∷ rest → shape (view v) ≡ Some x → EachLeft shape items rest (done ++ x ∷ [])
EachLeft-next shape items later rest v done x h is reads = record {
  left =
      h.left
      ∙ ap (λ vs. option_map (λ xs. done ++ xs) (each_shape shape (items_view vs))) is
      ∙ ap (λ o. option_map (λ xs. done ++ xs) (option_and_then (λ y. option_map (λ xs. y ∷ xs) (each_shape shape (items_view rest))) o)) reads
      ∙ one_more done x (each_shape shape (items_view rest));
}

-- the next item is of another shape
pub EachLeft-bad : {A : Type 0} (shape : Data → Option A) (items later rest : List Value) (v : Value) (done : List A)
    → EachLeft shape items later done → later ≡ v ∷ rest → shape (view v) ≡ None → each_shape shape (items_view items) ≡ None
EachLeft-bad shape items later rest v done h is bad =
    h.left
    ∙ ap (λ vs. option_map (λ xs. done ++ xs) (each_shape shape (items_view vs))) is
    ∙ ap (λ o. option_map (λ xs. done ++ xs) (option_and_then (λ y. option_map (λ xs. y ∷ xs) (each_shape shape (items_view rest))) o)) bad

-- nothing is left
pub EachLeft-done : {A : Type 0} (shape : Data → Option A) (items later : List Value) (done : List A) → EachLeft shape items later done → later ≡ []
    → each_shape shape (items_view items) ≡ Some done
EachLeft-done shape items later done h is =
    h.left ∙ ap (λ vs. option_map (λ xs. done ++ xs) (each_shape shape (items_view vs))) is ∙ ap Some (append-nil done)

-- a list that is turned round, from its end
pub turned_back : {A : Type 0} (xs ys : List A) → ys ≡ reverse xs → reverse ys ≡ xs
turned_back xs ys is = ap reverse is ∙ reverse-reverse xs

pub turned_next : {A : Type 0} (xs ys : List A) (x : A) → xs ≡ ys ++ x ∷ [] → reverse xs ≡ x ∷ reverse ys
turned_next xs ys x is = ap reverse is ∙ reverse-append ys (x ∷ [])

-- ---- a list by its index

-- the item at i, and those after it
from_index : {A : Type 0} (xs : List A) (i : ℕ) (x : A) → i < length xs → x ≡ get_or xs i x → drop i xs ≡ x ∷ drop (i + 1) xs
from_index xs i x below is = drop-cons xs i x below ∙ ap (λ y. y ∷ drop (suc i) xs) (sym is) ∙ ap (λ j. x ∷ drop j xs) (sym (add-one i))

pub EachLeft-next_at : {A : Type 0} (shape : Data → Option A) (items : List Value) (i : ℕ) (v : Value) (done : List A) (x : A) (r : Option A)
    → EachLeft shape items (drop i items) done → i < length items → v ≡ get_or items i v → r ≡ shape (view v) → r ≡ Some x → EachLeft shape items (drop (i + 1) items) (done ++ x ∷ [])
EachLeft-next_at shape items i v done x r h below is reads found =
    EachLeft-next shape items (drop i items) (drop (i + 1) items) v done x h (from_index items i v below is) (sym reads ∙ found)

pub EachLeft-bad_at : {A : Type 0} (shape : Data → Option A) (items : List Value) (i : ℕ) (v : Value) (done : List A) (r : Option A)
    → EachLeft shape items (drop i items) done → i < length items → v ≡ get_or items i v → r ≡ shape (view v) → r ≡ None → None ≡ each_shape shape (items_view items)
EachLeft-bad_at shape items i v done r h below is reads bad =
    sym (EachLeft-bad shape items (drop i items) (drop (i + 1) items) v done h (from_index items i v below is) (sym reads ∙ bad))

pub EachLeft-done_at : {A : Type 0} (shape : Data → Option A) (items : List Value) (i : ℕ) (done : List A) → EachLeft shape items (drop i items) done → length items ≤ i
    → Some done ≡ each_shape shape (items_view items)
EachLeft-done_at shape items i done h end = sym (EachLeft-done shape items (drop i items) done h (drop_all i items end))

-- ---- a list from its end, turned round

pub EachLeft-turned : {A : Type 0} (shape : Data → Option A) (items now : List Value) → now ≡ reverse items → EachLeft shape items (reverse now) []
EachLeft-turned shape items now is = subst (λ vs. EachLeft shape items vs []) (sym (turned_back items now is)) (EachLeft-all shape items)

pub EachLeft-popped : {A : Type 0} (shape : Data → Option A) (items before after : List Value) (v : Value) (done : List A) (x : A) (r : Option A)
    → EachLeft shape items (reverse before) done → before ≡ after ++ v ∷ [] → r ≡ shape (view v) → r ≡ Some x → EachLeft shape items (reverse after) (done ++ x ∷ [])
EachLeft-popped shape items before after v done x r h is reads found =
    EachLeft-next shape items (reverse before) (reverse after) v done x h (turned_next before after v is) (sym reads ∙ found)

pub EachLeft-popped_bad : {A : Type 0} (shape : Data → Option A) (items before after : List Value) (v : Value) (done : List A) (r : Option A)
    → EachLeft shape items (reverse before) done → before ≡ after ++ v ∷ [] → r ≡ shape (view v) → r ≡ None → None ≡ each_shape shape (items_view items)
EachLeft-popped_bad shape items before after v done r h is reads bad =
    sym (EachLeft-bad shape items (reverse before) (reverse after) v done h (turned_next before after v is) (sym reads ∙ bad))

pub EachLeft-emptied : {A : Type 0} (shape : Data → Option A) (items before : List Value) (done : List A) → EachLeft shape items (reverse before) done → length before ≡ 0
    → Some done ≡ each_shape shape (items_view items)
EachLeft-emptied shape items [] done h none = sym (EachLeft-done shape items [] done h refl)
EachLeft-emptied shape items (v ∷ before) done h none = absurd (omega (arith, none))
