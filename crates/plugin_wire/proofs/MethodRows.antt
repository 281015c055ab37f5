-- The table of names leads to the methods of the names.
use Rattle.std.proofs.Common.{◌≡◌, ℕ, zero, suc, ◌<◌, List, [], Bool, true, false, Option, Some, None, option_map, codes, refl, sym, ap, ◌∙◌, subst, arith}
use Rattle.std.specs.Prelude.{◌↔◌, IfSome, slice_get, unwrap_or}
use Rattle.std.specs.Str.{bytes_eq}
use Rattle.std.proofs.lemmas.Slice.Eq.{bytes_eq-Decides}
use Rattle.plugin_wire.specs.declared.method.Method.{Method}
use Rattle.plugin_wire.specs.Methods.{method_names, method_at, method_named}

-- the row is that of the name, if the name has one
abbrev pub IsRowOf : Option ℕ → List ℕ → Type 0
IsRowOf found name = (row : ℕ) → (found ≡ Some row) ↔ (slice_get method_names row ≡ Some name)

same_name : (k name : List ℕ) → Some k ≡ Some name → k ≡ name
same_name k name e = ap (λ o. unwrap_or o []) e

named : (k name : List ℕ) (row : ℕ) → Some k ≡ Some name → Some (method_at row) ≡ method_named k → Some (method_at row) ≡ method_named name
named k name row e h = subst (λ n. Some (method_at row) ≡ method_named n) (same_name k name e) h

-- the name of a row has its method
row_named : (row : ℕ) (name : List ℕ) → row < 6 → slice_get method_names row ≡ Some name → Some (method_at row) ≡ method_named name
row_named zero name h is = named (codes "ack") name 0 is refl
row_named (suc zero) name h is = named (codes "alert") name 1 is refl
row_named (suc (suc zero)) name h is = named (codes "edit") name 2 is refl
row_named (suc (suc (suc zero))) name h is = named (codes "get_data") name 3 is refl
row_named (suc (suc (suc (suc zero)))) name h is = named (codes "line_count") name 4 is refl
row_named (suc (suc (suc (suc (suc zero))))) name h is = named (codes "update_spans") name 5 is refl
row_named (suc (suc (suc (suc (suc (suc row)))))) name h is = absurd (omega (arith, h))

-- a name that has no row is none of the names
differs : (name k : List ℕ) (row : ℕ) (b : Bool) → bytes_eq name k ≡ b → slice_get method_names row ≡ Some k → IsRowOf None name → b ≡ false
differs name k row true e is none = absurd (no_row_at ((none row).1 (is ∙ ap Some (sym ((bytes_eq-Decides name k).0 e)))))
  where
    no_row_at : None ≡ Some row → ⊥
    no_row_at same = cc
differs name k row false e is none = refl

unnamed : (name : List ℕ) → IsRowOf None name → None ≡ method_named name
unnamed name none =
    rw (
      differs name (codes "ack") 0 _ refl refl none,
      differs name (codes "alert") 1 _ refl refl none,
      differs name (codes "edit") 2 _ refl refl none,
      differs name (codes "get_data") 3 _ refl refl none,
      differs name (codes "line_count") 4 _ refl refl none,
      differs name (codes "update_spans") 5 _ refl refl none,
    ) refl

pub method_named-row : (found : Option ℕ) (name : List ℕ) → IsRowOf found name → IfSome found (λ row. row < 6) → option_map method_at found ≡ method_named name
method_named-row None name own within = unnamed name own
method_named-row (Some row) name own within = row_named row name within ((own row).0 refl)

-- the same, row by row
pub method_of_row : (found : Option ℕ) (name : List ℕ) (row : ℕ) (m : Method) → IsRowOf found name → IfSome found (λ at. at < 6) → found ≡ Some row → m ≡ method_at row → Some m ≡ method_named name
method_of_row found name row m own within is gives = ap Some gives ∙ ap (option_map method_at) (sym is) ∙ method_named-row found name own within

pub method_of_none : (found : Option ℕ) (name : List ℕ) → IsRowOf found name → IfSome found (λ at. at < 6) → found ≡ None → None ≡ method_named name
method_of_none found name own within is = ap (option_map method_at) (sym is) ∙ method_named-row found name own within
