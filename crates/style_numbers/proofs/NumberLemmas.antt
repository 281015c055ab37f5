-- Lemmas on the ids of styles.
use Rattle.std.proofs.Common.{◌≡◌, ℕ, zero, suc, ◌+◌, ◌<◌, ◌≤◌, Bool, true, false, if◌then◌else◌, List, [], ◌∷◌, ◌++◌, length, drop, get_or, Option, Some, None, slice_get, refl, ap, sym, subst, ◌∙◌, arith, append_assoc, append-nil, add-one}
use Rattle.std.specs.Prelude.{◌↔◌, IfSome, unwrap_or}
use Rattle.std.proofs.Math.Seq.{drop-cons}
use Rattle.std.proofs.lemmas.List.{drop_all}
use Rattle.plain_edits.specs.declared.style.Span.{Span}
use Rattle.plain_edits.specs.declared.style.Style.{Style}
use Rattle.view_update.specs.declared.note.NumberedStyle.{NumberedStyle}
use Rattle.xi_plain.specs.declared.span.WireSpan.{WireSpan}
use Rattle.span_styles.specs.Table.{HasId, IsAbsent, next_id}
use Rattle.style_numbers.specs.declared.numbered.Numbered.{Numbered}
use Rattle.style_numbers.specs.InMemory.{HasStyle, IsNumbered, IsNumbering, table_after}
use Rattle.style_numbers.specs.Numbers.{defined_by, id_for, id_from, id_of, is_same, new_by, new_style, new_styles, spans_with_ids, styles_with, with_id, with_style}
use Rattle.style_numbers.proofs.SameLemmas.{same_style, style_itself}

-- ---- the id that is found is that of the style

-- counted from the first
pub id_from-found : (first id : ℕ) (styles : List Style) (style : Style) → id_from first styles style ≡ Some id →
    (index : ℕ) × (id ≡ index + first) × (slice_get styles index ≡ Some style)
id_from-found first id [] style is = absurd (let no = is in cc)
id_from-found first id (s ∷ styles) style is = by (is_same s style) (same_style s style) (id_from-found (first + 1) id styles style) is
  where
    by : (b : Bool) → (b ≡ true → s ≡ style) →
        (id_from (first + 1) styles style ≡ Some id → (index : ℕ) × (id ≡ index + (first + 1)) × (slice_get styles index ≡ Some style)) →
        (if b then Some first else id_from (first + 1) styles style) ≡ Some id →
        (index : ℕ) × (id ≡ index + first) × (slice_get (s ∷ styles) index ≡ Some style)
    by true same rest is = (0, (let here : first ≡ id = cc in omega arith), ap Some (same refl))
    by false same rest is = let found = rest is in (suc found.0, omega (arith, found.1), found.2)

id_from-absent : (first : ℕ) (styles : List Style) (style : Style) → id_from first styles style ≡ None → (index : ℕ) →
    slice_get styles index ≡ Some style → ⊥
id_from-absent first [] style is index there = let no = there in cc
id_from-absent first (s ∷ styles) style is index there =
    by (is_same s style) refl (id_from-absent (first + 1) styles style) is index there
  where
    by : (b : Bool) → is_same s style ≡ b →
        (id_from (first + 1) styles style ≡ None → (i : ℕ) → slice_get styles i ≡ Some style → ⊥) →
        (if b then Some first else id_from (first + 1) styles style) ≡ None → (i : ℕ) → slice_get (s ∷ styles) i ≡ Some style → ⊥
    by true same rest is i there = let no = is in cc
    by false same rest is zero there =
        let here : s ≡ style = cc in
        let itself : is_same s style ≡ true = subst (λ x. is_same s x ≡ true) here (style_itself s) in
        let no = sym same ∙ itself in cc
    by false same rest is (suc i) there = rest is i there

-- a style without an id is not there
pub absent : (styles : List Style) (style : Style) → id_of styles style ≡ None → IsAbsent styles style
absent styles style none = λ id (index, at, there). id_from-absent 2 styles style none index there

-- what a table finds, whatever it is: a style has one id, or is not there
pub found_is : (styles : List Style) (style : Style) (found : Option ℕ) → IfSome found (HasId styles style) →
    IfSome found (λ id. (other : ℕ) → HasId styles style other → other ≡ id) → ((found ≡ None) ↔ IsAbsent styles style) → found ≡ id_of styles style
found_is styles style None has one none = by (id_of styles style) refl
  where
    by : (o : Option ℕ) → id_of styles style ≡ o → None ≡ o
    by None is = refl
    by (Some id) is = absurd (none.0 refl id (id_from-found 2 id styles style is))
found_is styles style (Some id) has one none = by (id_of styles style) refl
  where
    by : (o : Option ℕ) → id_of styles style ≡ o → Some id ≡ o
    by None is = absurd (absent styles style is id has)
    by (Some other) is = ap Some (sym (one other (id_from-found 2 other styles style is)))

-- ---- a style of a span

-- one that has an id leaves all as it was
pub HasStyle-old : (table : List Style) (style : Style) (id : ℕ) (old : Numbered) → id_of (table_after table old.grown) style ≡ Some id →
    HasStyle table style old old
HasStyle-old table style id old is =
    let now = table_after table old.grown in
    record {
      table = ap (λ found. defined_by found now style) (sym is);
      fresh = sym (append-nil old.fresh) ∙ ap (λ found. old.fresh ++ new_by found now style) (sym is);
      spans = refl;
    }

-- one that has none stands behind the others
pub HasStyle-new : (table : List Style) (style : Style) (id : ℕ) (old new : Numbered) → id_of (table_after table old.grown) style ≡ None →
    table_after table new.grown ≡ table_after table old.grown ++ style ∷ [] → id ≡ next_id (table_after table old.grown) →
    new.fresh ≡ old.fresh ++ record { id = id; style = style } ∷ [] → new.spans ≡ old.spans → HasStyle table style old new
HasStyle-new table style id old new none grown next fresh spans =
    let now = table_after table old.grown in
    record {
      table = grown ∙ ap (λ found. defined_by found now style) (sym none);
      fresh =
          fresh ∙ ap (λ (n : ℕ). old.fresh ++ record { id = n; style = style } ∷ []) next ∙
          ap (λ found. old.fresh ++ new_by found now style) (sym none);
      spans = spans;
    }

-- the id that it has, or gets
pub id_for-some : (styles : List Style) (style : Style) (id : ℕ) → id_of styles style ≡ Some id → id ≡ id_for styles style
id_for-some styles style id is = ap (λ found. unwrap_or found (next_id styles)) (sym is)

pub id_for-none : (styles : List Style) (style : Style) (id : ℕ) → id_of styles style ≡ None → id ≡ next_id styles → id ≡ id_for styles style
id_for-none styles style id none next = next ∙ ap (λ found. unwrap_or found (next_id styles)) (sym none)

-- ---- spans one after the other

pub IsNumbering-none : (table : List Style) (spans : List WireSpan) → IsNumbering table spans spans (record { spans = []; fresh = []; grown = None })
IsNumbering-none table spans = record { spans = refl; fresh = refl; table = refl }

next_by : (table : List Style) (all rest : List WireSpan) (span : WireSpan) (now next : Numbered) → IsNumbering table all (span ∷ rest) now →
    table_after table next.grown ≡ with_style (table_after table now.grown) span.style →
    next.fresh ≡ now.fresh ++ new_style (table_after table now.grown) span.style →
    next.spans ≡ now.spans ++ with_id (id_for (table_after table now.grown) span.style) span ∷ [] → IsNumbering table all rest next
next_by table all rest span now next is grown fresh spans =
    let old = table_after table now.grown in
    let new = with_style old span.style in
    let own : List Span = with_id (id_for old span.style) span ∷ [] in
    record {
      spans =
          ap (λ (xs : List Span). xs ++ spans_with_ids (table_after table next.grown) rest) spans ∙
          ap (λ (styles : List Style). (now.spans ++ own) ++ spans_with_ids styles rest) grown ∙
          append_assoc now.spans own (spans_with_ids new rest) ∙ is.spans;
      fresh =
          ap (λ (xs : List NumberedStyle). xs ++ new_styles (table_after table next.grown) rest) fresh ∙
          ap (λ (styles : List Style). (now.fresh ++ new_style old span.style) ++ new_styles styles rest) grown ∙
          append_assoc now.fresh (new_style old span.style) (new_styles new rest) ∙ is.fresh;
      table = ap (λ (styles : List Style). styles_with styles rest) grown ∙ is.table;
    }

-- one more of a slice
pub IsNumbering-next : (table : List Style) (spans : List WireSpan) (i : ℕ) (none span : WireSpan) (now next : Numbered) → i < length spans →
    span ≡ get_or spans i none → IsNumbering table spans (drop i spans) now →
    table_after table next.grown ≡ with_style (table_after table now.grown) span.style →
    next.fresh ≡ now.fresh ++ new_style (table_after table now.grown) span.style →
    next.spans ≡ now.spans ++ with_id (id_for (table_after table now.grown) span.style) span ∷ [] →
    IsNumbering table spans (drop (i + 1) spans) next
IsNumbering-next table spans i none span now next below item is grown fresh made =
    let here : drop i spans ≡ span ∷ drop (i + 1) spans =
    drop-cons spans i none below ∙ ap (λ y. y ∷ drop (suc i) spans) (sym item) ∙ ap (λ j. span ∷ drop j spans) (sym (add-one i)) in
    next_by table spans (drop (i + 1) spans) span now next (subst (λ rest. IsNumbering table spans rest now) here is) grown fresh made

all_done : (table : List Style) (spans rest : List WireSpan) (made : Numbered) → rest ≡ [] → IsNumbering table spans rest made → IsNumbered table spans made
all_done table spans [] made none is =
    record { spans = sym (append-nil made.spans) ∙ is.spans; fresh = sym (append-nil made.fresh) ∙ is.fresh; table = is.table }
all_done table spans (span ∷ rest) made none is = absurd (let no = none in cc)

pub IsNumbered-all : (table : List Style) (spans : List WireSpan) (i : ℕ) (made : Numbered) → length spans ≤ i → IsNumbering table spans (drop i spans) made →
    IsNumbered table spans made
IsNumbered-all table spans i made end is = all_done table spans (drop i spans) made (drop_all i spans end) is
