-- What a table of styles keeps: the id of each style, by a key that has an order.
use Rattle.std.specs.Prelude.{◌≡◌, ℕ, ◌+◌, List, [], ◌∷◌, Option, None, Some, slice_get, if◌then◌else◌}
use Rattle.std.specs.declared.cmp.Ordering.{Ordering}
use Rattle.std.specs.Ordering.{nat_cmp, bool_cmp, ordering_then, is_eq}
use Rattle.std.specs.Option.{option_cmp}
use Rattle.std.specs.BTreeMap.{BTreeMap, get}
use Rattle.plain_edits.specs.declared.style.Style.{Style}
use Rattle.span_styles.specs.declared.key.StyleKey.{StyleKey}

-- the key of a style
abbrev pub key_of : Style → StyleKey
key_of style = record {
  fg_color = style.fg_color;
  bg_color = style.bg_color;
  weight = style.weight;
  italic = style.italic;
  underline = style.underline;
}

-- keys by their members, one after the other
abbrev pub key_cmp : StyleKey → StyleKey → Ordering
key_cmp a b =
    ordering_then (option_cmp nat_cmp a.fg_color b.fg_color)
    (ordering_then (option_cmp nat_cmp a.bg_color b.bg_color)
    (ordering_then (option_cmp nat_cmp a.weight b.weight)
    (ordering_then (option_cmp bool_cmp a.italic b.italic) (option_cmp bool_cmp a.underline b.underline))))

-- the id of the first style with this key, where the first of the list has this id
abbrev pub id_from : ℕ → List Style → StyleKey → Option ℕ
id_from id [] key = None
id_from id (first ∷ styles) key = if is_eq (key_cmp (key_of first) key) then Some id else id_from (id + 1) styles key

-- no two styles are the same, and each has its id by its key
pub record IsTable (styles : List Style) (ids : BTreeMap StyleKey ℕ) : Type 0 where
  pub distinct : (i j : ℕ) (style : Style) → slice_get styles i ≡ Some style → slice_get styles j ≡ Some style → i ≡ j
  pub found : (key : StyleKey) → get key_cmp ids key ≡ id_from 2 styles key
