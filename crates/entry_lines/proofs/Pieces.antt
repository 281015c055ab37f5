-- Lines of messages, one after the other.
use Rattle.std.proofs.Common.{◌≡◌, ℕ, suc, ◌+◌, ◌<◌, ◌≤◌, List, [], ◌∷◌, ◌++◌, map, length, drop, get_or, refl, sym, ap, ◌∙◌, subst, add-one, append_assoc, append-nil}
use Rattle.std.proofs.Math.Seq.{drop-cons}
use Rattle.std.proofs.lemmas.List.{map-append, drop_all}
use Rattle.std.proofs.lemmas.List.Folds.{concat-append}
use Rattle.std.proofs.lemmas.Str.{encodes-append}
use Rattle.std.specs.List.{AllByRecursion, concat}
use Rattle.std.specs.Str.{encode_utf8_all}
use Rattle.serde_json.specs.Data.{Data}
use Rattle.json_rpc.specs.Line.{line_of, IsLineOf}
use Rattle.entry_lines.specs.Piece.{AddsLines, AreLinesOf, HaveLines, lines_written}

-- the lines of messages after messages
pub lines_written-append : (front back : List Data) → lines_written (front ++ back) ≡ lines_written front ++ lines_written back
lines_written-append front back = ap concat (map-append line_of front back) ∙ concat-append (map line_of front) (map line_of back)

pub all_append : {X : Type 0} (P : X → Type 0) (xs ys : List X) → AllByRecursion P xs → AllByRecursion P ys → AllByRecursion P (xs ++ ys)
all_append P [] ys front back = back
all_append P (x ∷ xs) ys front back = (front.0, all_append P xs ys front.1 back)

-- lines that are put at the end of a text, and then others
pub AddsLines-then : (front back : List Data) (old middle new : List ℕ) → AddsLines front old middle → AddsLines back middle new
    → AddsLines (front ++ back) old new
AddsLines-then front back old middle new first second = record {
  joined =
      second.joined
      ∙ ap (λ bytes. bytes ++ lines_written back) first.joined
      ∙ append_assoc (encode_utf8_all old) (lines_written front) (lines_written back)
      ∙ ap (λ bytes. encode_utf8_all old ++ bytes) (sym (lines_written-append front back));
  each = all_append (λ m. IsLineOf m (line_of m)) front back first.each second.each;
}

-- lines, and others that are put at their end
pub AreLinesOf-adds : (front back : List Data) (old new : List ℕ) → AreLinesOf front (encode_utf8_all old) → AddsLines back old new
    → AreLinesOf (front ++ back) (encode_utf8_all new)
AreLinesOf-adds front back old new first second = record {
  joined = second.joined ∙ ap (λ bytes. bytes ++ lines_written back) first.joined ∙ sym (lines_written-append front back);
  each = all_append (λ m. IsLineOf m (line_of m)) front back first.each second.each;
}

-- the line of a message is that of the definition
line_is : (m : Data) (line : List ℕ) → IsLineOf m line → IsLineOf m (line_of m)
line_is m line is = subst (IsLineOf m) is.bytes is

-- one line
pub AddsLines-one : (m : Data) (old line new : List ℕ) → IsLineOf m (encode_utf8_all line) → new ≡ old ++ line → AddsLines (m ∷ []) old new
AddsLines-one m old line new is pushed = record {
  joined =
      ap encode_utf8_all pushed
      ∙ encodes-append old line
      ∙ ap (λ bytes. encode_utf8_all old ++ bytes) (is.bytes ∙ sym (append-nil (line_of m)));
  each = (line_is m (encode_utf8_all line) is, tt);
}

-- none
pub AddsLines-none : (text : List ℕ) → AddsLines [] text text
AddsLines-none text = record { joined = sym (append-nil (encode_utf8_all text)); each = tt }

-- ---- a loop that puts the line of what each item gives at the end

-- the text so far, and the lines of the items from i on, are the text at first and the lines of all; and all items have lines, and are as
-- they should be, where those from i on have and are
pub record Pushed {A : Type 0} (give : A → Data) (P : A → Type 0) (items : List A) (i : ℕ) (old new : List ℕ) : Type 0 where
  pub joined : encode_utf8_all new ++ lines_written (map give (drop i items)) ≡ encode_utf8_all old ++ lines_written (map give items)
  pub each : HaveLines (map give (drop i items)) → HaveLines (map give items)
  pub kept : AllByRecursion P (drop i items) → AllByRecursion P items

pub Pushed-none : {A : Type 0} (give : A → Data) (P : A → Type 0) (items : List A) (text : List ℕ) → Pushed give P items 0 text text
Pushed-none give P items text = record { joined = refl; each = λ all. all; kept = λ all. all }

-- the item at i, and those after it
pub drop-item : {A : Type 0} (items : List A) (i : ℕ) (none x : A) → i < length items → x ≡ get_or items i none → drop i items ≡ x ∷ drop (i + 1) items
drop-item items i none x below is = drop-cons items i none below ∙ ap (λ y. y ∷ drop (suc i) items) (sym is) ∙ ap (λ j. x ∷ drop j items) (sym (add-one i))

pub Pushed-next : {A : Type 0} (give : A → Data) (P : A → Type 0) (items : List A) (i : ℕ) (old new line newer : List ℕ) (none x : A)
    → Pushed give P items i old new → i < length items → x ≡ get_or items i none → IsLineOf (give x) (encode_utf8_all line) → P x
    → newer ≡ new ++ line → Pushed give P items (i + 1) old newer
Pushed-next give P items i old new line newer none x h below is line_of_x kept pushed =
    let step = drop-item items i none x below is in
    let rest : List ℕ = lines_written (map give (drop (i + 1) items)) in
    record {
      joined =
          ap (λ bytes. bytes ++ rest) (ap encode_utf8_all pushed ∙ encodes-append new line)
          ∙ append_assoc (encode_utf8_all new) (encode_utf8_all line) rest
          ∙ ap (λ bytes. encode_utf8_all new ++ (bytes ++ rest)) line_of_x.bytes
          ∙ ap (λ xs. encode_utf8_all new ++ lines_written (map give xs)) (sym step)
          ∙ h.joined;
      each = λ all. h.each (subst (λ xs. HaveLines (map give xs)) (sym step) (line_is (give x) (encode_utf8_all line) line_of_x, all));
      kept = λ all. h.kept (subst (AllByRecursion P) (sym step) (kept, all));
    }

pub Pushed-all : {A : Type 0} (give : A → Data) (P : A → Type 0) (items : List A) (i : ℕ) (old new : List ℕ)
    → Pushed give P items i old new → length items ≤ i → AddsLines (map give items) old new
Pushed-all give P items i old new h end =
    let none = drop_all i items end in
    record {
      joined =
          sym (append-nil (encode_utf8_all new))
          ∙ ap (λ xs. encode_utf8_all new ++ lines_written (map give xs)) (sym none)
          ∙ h.joined;
      each = h.each (subst (λ xs. HaveLines (map give xs)) (sym none) tt);
    }

pub Pushed-kept : {A : Type 0} (give : A → Data) (P : A → Type 0) (items : List A) (i : ℕ) (old new : List ℕ)
    → Pushed give P items i old new → length items ≤ i → AllByRecursion P items
Pushed-kept give P items i old new h end = h.kept (subst (AllByRecursion P) (sym (drop_all i items end)) tt)
