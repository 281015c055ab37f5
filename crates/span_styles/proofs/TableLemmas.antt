-- Lemmas on the table of styles.
use Rattle.std.proofs.Common.{◌≡◌, ◌⊎◌, inl, inr, ℕ, zero, suc, ◌+◌, ◌<◌, Bool, true, false, cond, if◌then◌else◌, List, [], ◌∷◌, ◌++◌, length, take, Option, Some, None, slice_get, refl, ap, ap₂, sym, subst, ◌∙◌, arith}
use Rattle.std.specs.Prelude.{nat_lt, ◌==◌, ◌↔◌, IfSome}
use Rattle.std.specs.declared.cmp.Ordering.{Ordering}
use Rattle.std.specs.declared.cmp.Ordering.TheVariants.{Less, Equal, Greater}
use Rattle.std.specs.Ordering.{nat_cmp, bool_cmp, ordering_then, is_eq}
use Rattle.std.specs.Option.{option_cmp}
use Rattle.std.specs.BTreeMap.{BTreeMap, get}
use Rattle.std.proofs.lemmas.Bool.{eqb-true, eq-eqb, ltb-true}
use Rattle.plain_edits.specs.declared.style.Style.{Style}
use Rattle.span_styles.specs.declared.key.StyleKey.{StyleKey}
use Rattle.span_styles.specs.Table.{HasId, IsAbsent}
use Rattle.span_styles.specs.Keys.{key_of, key_cmp, id_from, IsTable}

-- ---- keys that are equal in the order are one

same_number : (a b : ℕ) → nat_cmp a b ≡ Equal → a ≡ b
same_number a b is = by (nat_lt a b) (a == b) (eqb-true a b) is
  where
    by : (l e : Bool) → (e ≡ true → a ≡ b) → cond l Less (cond e Equal Greater) ≡ Equal → a ≡ b
    by true e same is = absurd (let no = is in cc)
    by false true same is = same refl
    by false false same is = absurd (let no = is in cc)

same_truth : (a b : Bool) → bool_cmp a b ≡ Equal → a ≡ b
same_truth true true is = refl
same_truth false false is = refl
same_truth true false is = absurd (let no = is in cc)
same_truth false true is = absurd (let no = is in cc)

same_option : {X : Type 0} (cmp : X → X → Ordering) → ((a b : X) → cmp a b ≡ Equal → a ≡ b) → (a b : Option X) → option_cmp cmp a b ≡ Equal → a ≡ b
same_option cmp same None None is = refl
same_option cmp same None (Some b) is = absurd (let no = is in cc)
same_option cmp same (Some a) None is = absurd (let no = is in cc)
same_option cmp same (Some a) (Some b) is = ap Some (same a b is)

both_equal : (x y : Ordering) → ordering_then x y ≡ Equal → (x ≡ Equal) × (y ≡ Equal)
both_equal Less y is = absurd (let no = is in cc)
both_equal Equal y is = (refl, is)
both_equal Greater y is = absurd (let no = is in cc)

is_eq-equal : (x : Ordering) → is_eq x ≡ true → x ≡ Equal
is_eq-equal Less is = absurd (let no = is in cc)
is_eq-equal Equal is = refl
is_eq-equal Greater is = absurd (let no = is in cc)

same_style : (a b : Style) → is_eq (key_cmp (key_of a) (key_of b)) ≡ true → a ≡ b
same_style a b is =
    let one = both_equal (option_cmp nat_cmp a.fg_color b.fg_color) _ (is_eq-equal _ is) in
    let two = both_equal (option_cmp nat_cmp a.bg_color b.bg_color) _ one.1 in
    let three = both_equal (option_cmp nat_cmp a.weight b.weight) _ two.1 in
    let four = both_equal (option_cmp bool_cmp a.italic b.italic) _ three.1 in
    let fg : Option ℕ → Style = λ x. record { fg_color = x; bg_color = a.bg_color; weight = a.weight; italic = a.italic; underline = a.underline } in
    let bg : Option ℕ → Style = λ x. record { fg_color = b.fg_color; bg_color = x; weight = a.weight; italic = a.italic; underline = a.underline } in
    let weight : Option ℕ → Style = λ x. record { fg_color = b.fg_color; bg_color = b.bg_color; weight = x; italic = a.italic; underline = a.underline } in
    let italic : Option Bool → Style = λ x. record { fg_color = b.fg_color; bg_color = b.bg_color; weight = b.weight; italic = x; underline = a.underline } in
    let underline : Option Bool → Style = λ x. record { fg_color = b.fg_color; bg_color = b.bg_color; weight = b.weight; italic = b.italic; underline = x } in
    ap fg (same_option nat_cmp same_number a.fg_color b.fg_color one.0) ∙ ap bg (same_option nat_cmp same_number a.bg_color b.bg_color two.0) ∙
    ap weight (same_option nat_cmp same_number a.weight b.weight three.0) ∙ ap italic (same_option bool_cmp same_truth a.italic b.italic four.0) ∙
    ap underline (same_option bool_cmp same_truth a.underline b.underline four.1)

number_itself : (a : ℕ) → nat_cmp a a ≡ Equal
number_itself a = by (nat_lt a a) (a == a) (λ (is : nat_lt a a ≡ true). absurd (let no : a < a = ltb-true a a is in omega arith)) (eq-eqb a a refl)
  where
    by : (l e : Bool) → (l ≡ true → ⊥) → e ≡ true → cond l Less (cond e Equal Greater) ≡ Equal
    by true e never is = absurd (never refl)
    by false true never is = refl
    by false false never is = absurd (let wrong = is in cc)

truth_itself : (a : Bool) → bool_cmp a a ≡ Equal
truth_itself true = refl
truth_itself false = refl

option_itself : {X : Type 0} (cmp : X → X → Ordering) → ((a : X) → cmp a a ≡ Equal) → (a : Option X) → option_cmp cmp a a ≡ Equal
option_itself cmp itself None = refl
option_itself cmp itself (Some a) = itself a

then_equal : (x y : Ordering) → x ≡ Equal → y ≡ Equal → ordering_then x y ≡ Equal
then_equal x y first second = ap₂ ordering_then first second

key_itself : (key : StyleKey) → is_eq (key_cmp key key) ≡ true
key_itself key = ap is_eq
    (then_equal _ _ (option_itself nat_cmp number_itself key.fg_color)
    (then_equal _ _ (option_itself nat_cmp number_itself key.bg_color)
    (then_equal _ _ (option_itself nat_cmp number_itself key.weight)
    (then_equal _ _ (option_itself bool_cmp truth_itself key.italic) (option_itself bool_cmp truth_itself key.underline)))))

-- ---- the id by the key is that of the style

-- the id that is found is that of the style, counted from the first
id_from-found : (first id : ℕ) (styles : List Style) (style : Style) → id_from first styles (key_of style) ≡ Some id →
    (index : ℕ) × (id ≡ index + first) × (slice_get styles index ≡ Some style)
id_from-found first id [] style is = absurd (let no = is in cc)
id_from-found first id (s ∷ styles) style is = by (is_eq (key_cmp (key_of s) (key_of style))) (same_style s style) (id_from-found (first + 1) id styles style) is
  where
    by : (b : Bool) → (b ≡ true → s ≡ style) →
        (id_from (first + 1) styles (key_of style) ≡ Some id → (index : ℕ) × (id ≡ index + (first + 1)) × (slice_get styles index ≡ Some style)) →
        (if b then Some first else id_from (first + 1) styles (key_of style)) ≡ Some id →
        (index : ℕ) × (id ≡ index + first) × (slice_get (s ∷ styles) index ≡ Some style)
    by true same rest is = (0, (let here : first ≡ id = cc in omega arith), ap Some (same refl))
    by false same rest is = let found = rest is in (suc found.0, omega (arith, found.1), found.2)

id_from-absent : (first : ℕ) (styles : List Style) (style : Style) → id_from first styles (key_of style) ≡ None → (index : ℕ) → slice_get styles index ≡ Some style → ⊥
id_from-absent first [] style is index there = let no = there in cc
id_from-absent first (s ∷ styles) style is index there =
    by (is_eq (key_cmp (key_of s) (key_of style))) refl (id_from-absent (first + 1) styles style) is index there
  where
    by : (b : Bool) → is_eq (key_cmp (key_of s) (key_of style)) ≡ b →
        (id_from (first + 1) styles (key_of style) ≡ None → (i : ℕ) → slice_get styles i ≡ Some style → ⊥) →
        (if b then Some first else id_from (first + 1) styles (key_of style)) ≡ None → (i : ℕ) → slice_get (s ∷ styles) i ≡ Some style → ⊥
    by true same rest is i there = let no = is in cc
    by false same rest is zero there =
        let here : s ≡ style = cc in
        let equal : is_eq (key_cmp (key_of s) (key_of style)) ≡ true = subst (λ x. is_eq (key_cmp (key_of s) (key_of x)) ≡ true) here (key_itself (key_of s)) in
        let no = sym same ∙ equal in cc
    by false same rest is (suc i) there = rest is i there

-- whatever id is found by the key, it is the one id of the style; where none is, the style is not there
pub record IsFound (styles : List Style) (style : Style) (found : Option ℕ) : Type 0 where
  pub has : IfSome found (HasId styles style)
  pub one : IfSome found (λ id. (other : ℕ) → HasId styles style other → other ≡ id)
  pub absent : (found ≡ None) ↔ IsAbsent styles style

pub IsFound-from : (styles : List Style) (ids : BTreeMap StyleKey ℕ) (style : Style) (found : Option ℕ) → IsTable styles ids → found ≡ get key_cmp ids (key_of style) →
    IsFound styles style found
IsFound-from styles ids style found table is = by found (is ∙ table.found (key_of style))
  where
    by : (o : Option ℕ) → o ≡ id_from 2 styles (key_of style) → IsFound styles style o
    by None none = record {
      has = tt;
      one = tt;
      absent = (λ same id (index, at, there). id_from-absent 2 styles style (sym none) index there, λ gone. refl);
    }
    by (Some id) some =
        let here = id_from-found 2 id styles style (sym some) in
        record {
          has = here;
          one = λ other (index, at, there). let same : index ≡ here.0 = table.distinct index here.0 style there here.2 in omega (arith, at, here.1, same);
          absent = (λ none. absurd (let no = none in cc), λ gone. absurd (gone id here));
        }

-- ---- one style more

slice_get-push : (styles : List Style) (style other : Style) (i : ℕ) → slice_get (styles ++ style ∷ []) i ≡ Some other →
    (slice_get styles i ≡ Some other) ⊎ ((i ≡ length styles) × (style ≡ other))
slice_get-push [] style other zero is = inr (refl, let same : style ≡ other = cc in same)
slice_get-push [] style other (suc i) is = absurd (let no = is in cc)
slice_get-push (s ∷ styles) style other zero is = inl is
slice_get-push (s ∷ styles) style other (suc i) is =
    elim (slice_get-push styles style other i is) [ inl there ↦ inl there | inr last ↦ inr (omega (arith, last.0), last.1) ]

id_from-push_other : (first : ℕ) (styles : List Style) (style : Style) (key : StyleKey) → is_eq (key_cmp (key_of style) key) ≡ false →
    id_from first (styles ++ style ∷ []) key ≡ id_from first styles key
id_from-push_other first [] style key differ = by (is_eq (key_cmp (key_of style) key)) differ
  where
    by : (b : Bool) → b ≡ false → (if b then Some first else None) ≡ None
    by true is = absurd (let wrong = is in cc)
    by false is = refl
id_from-push_other first (s ∷ styles) style key differ =
    ap (λ o. if is_eq (key_cmp (key_of s) key) then Some first else o) (id_from-push_other (first + 1) styles style key differ)

id_from-push_same : (first : ℕ) (styles : List Style) (style : Style) (key : StyleKey) → is_eq (key_cmp (key_of style) key) ≡ true → id_from first styles key ≡ None →
    id_from first (styles ++ style ∷ []) key ≡ Some (first + length styles)
id_from-push_same first [] style key same none = by (is_eq (key_cmp (key_of style) key)) same
  where
    by : (b : Bool) → b ≡ true → (if b then Some first else None) ≡ Some (first + 0)
    by true is = let here : first ≡ first + 0 = omega arith in ap Some here
    by false is = absurd (let wrong = is in cc)
id_from-push_same first (s ∷ styles) style key same none =
    by (is_eq (key_cmp (key_of s) key)) (id_from-push_same (first + 1) styles style key same) none
  where
    by : (b : Bool) → (id_from (first + 1) styles key ≡ None → id_from (first + 1) (styles ++ style ∷ []) key ≡ Some (first + 1 + length styles)) →
        (if b then Some first else id_from (first + 1) styles key) ≡ None →
        (if b then Some first else id_from (first + 1) (styles ++ style ∷ []) key) ≡ Some (first + suc (length styles))
    by true rest is = absurd (let wrong = is in cc)
    by false rest is = rest is ∙ (let next : first + 1 + length styles ≡ first + suc (length styles) = omega arith in ap Some next)

-- a key is that of the style with its members
style_with : StyleKey → Style
style_with key = record { fg_color = key.fg_color; bg_color = key.bg_color; weight = key.weight; italic = key.italic; underline = key.underline }

absent_key : (styles : List Style) (style : Style) (key : StyleKey) → IsAbsent styles style → is_eq (key_cmp (key_of style) key) ≡ true → id_from 2 styles key ≡ None
unfolding style_with
absent_key styles style key absent same = by (id_from 2 styles key) refl
  where
    by : (o : Option ℕ) → id_from 2 styles key ≡ o → o ≡ None
    by None is = refl
    by (Some id) is =
        let there = id_from-found 2 id styles (style_with key) is in
        absurd (absent id (there.0, there.1, there.2 ∙ ap Some (sym (same_style style (style_with key) same))))

pub IsTable-push : (styles new : List Style) (ids ids' : BTreeMap StyleKey ℕ) (style : Style) (id : ℕ) → IsTable styles ids → IsAbsent styles style → new ≡ styles ++ style ∷ [] →
    id ≡ length styles + 2 → ((key : StyleKey) → get key_cmp ids' key ≡ cond (is_eq (key_cmp (key_of style) key)) (Some id) (get key_cmp ids key)) → IsTable new ids'
IsTable-push styles new ids ids' style id table absent is id_is updates = record {
  distinct = rw is distinct;
  found = rw is (λ key. updates key ∙ found key (is_eq (key_cmp (key_of style) key)) refl);
}
  where
    found : (key : StyleKey) (b : Bool) → is_eq (key_cmp (key_of style) key) ≡ b → cond b (Some id) (get key_cmp ids key) ≡ id_from 2 (styles ++ style ∷ []) key
    found key true same =
        (let next : id ≡ 2 + length styles = omega (arith, id_is) in ap Some next) ∙
        sym (id_from-push_same 2 styles style key same (absent_key styles style key absent same))
    found key false differ = table.found key ∙ sym (id_from-push_other 2 styles style key differ)

    distinct : (i j : ℕ) (other : Style) → slice_get (styles ++ style ∷ []) i ≡ Some other → slice_get (styles ++ style ∷ []) j ≡ Some other → i ≡ j
    distinct i j other one two = elim (slice_get-push styles style other i one) [
      | inl there ↦ elim (slice_get-push styles style other j two) [
        | inl here ↦ table.distinct i j other there here
        | inr last ↦ absurd (absent (i + 2) (i, refl, there ∙ ap Some (sym last.1)))
      ]
      | inr last ↦ elim (slice_get-push styles style other j two) [
        | inl here ↦ absurd (absent (j + 2) (j, refl, here ∙ ap Some (sym last.1)))
        | inr end ↦ omega (arith, last.0, end.0)
      ]
    ]

-- ---- a style that comes later is not among those before it

slice_get-take : (n i : ℕ) (styles : List Style) (style : Style) → slice_get (take n styles) i ≡ Some style → (i < n) × (slice_get styles i ≡ Some style)
slice_get-take zero i styles style is = absurd (let no = is in cc)
slice_get-take (suc n) i [] style is = absurd (let no = is in cc)
slice_get-take (suc n) zero (s ∷ styles) style is = (omega arith, is)
slice_get-take (suc n) (suc i) (s ∷ styles) style is = let rest = slice_get-take n i styles style is in (omega (arith, rest.0), rest.1)

pub IsAbsent-later : (styles : List Style) (i : ℕ) (style : Style) → ((j k : ℕ) (other : Style) → slice_get styles j ≡ Some other → slice_get styles k ≡ Some other → j ≡ k) →
    slice_get styles i ≡ Some style → IsAbsent (take i styles) style
IsAbsent-later styles i style distinct there = λ id (index, at, earlier).
    let before = slice_get-take i index styles style earlier in
    omega (arith, before.0, distinct index i style before.1 there)
