-- The loop that makes a list of values of the elements of a delta.
use Rattle.std.proofs.Common.{◌≡◌, ℕ, suc, ◌+◌, ◌<◌, ◌≤◌, ◌^◌, List, [], ◌∷◌, ◌++◌, map, length, drop, get_or, refl, sym, ap, ◌∙◌, subst, add-one, append_assoc, append-nil}
use Rattle.std.proofs.Math.Seq.{drop-cons}
use Rattle.std.proofs.lemmas.List.{map-append, drop_all}
use Rattle.std.specs.List.{AllByRecursion}
use Rattle.plain_edits.specs.declared.delta.El.{El}
use Rattle.serde_json.specs.View.{view}
use Rattle.serde_json.specs.declared.value.Value.{Value}
use Rattle.plugin_wire.specs.Told.{el_data}
use Rattle.plugin_wire.specs.Fair.{IsFairEl}

-- the values made so far, and those that the elements from i on are to give, are those of all elements; and all elements are fair
-- where those from i on are
pub record MadeOfEls (els : List El) (i : ℕ) (made : List Value) : Type 0 where
  pub values : map view made ++ map el_data (drop i els) ≡ map el_data els
  pub fair : AllByRecursion (IsFairEl (2 ^ 64)) (drop i els) → AllByRecursion (IsFairEl (2 ^ 64)) els

pub MadeOfEls-none : (els : List El) → MadeOfEls els 0 []
MadeOfEls-none els = record { values = refl; fair = λ all. all }

-- the element at i, and those after it
next_el : (els : List El) (i : ℕ) (el : El) → i < length els → el ≡ get_or els i el → drop i els ≡ el ∷ drop (i + 1) els
next_el els i el below is = drop-cons els i el below ∙ ap (λ e. e ∷ drop (suc i) els) (sym is) ∙ ap (λ j. el ∷ drop j els) (sym (add-one i))

pub MadeOfEls-next : (els : List El) (i : ℕ) (made : List Value) (value : Value) (el : El) → MadeOfEls els i made → i < length els → el ≡ get_or els i el
    → IsFairEl (2 ^ 64) el → view value ≡ el_data el → MadeOfEls els (i + 1) (made ++ value ∷ [])
MadeOfEls-next els i made value el h below is fair gives =
    let step = next_el els i el below is in
    record {
      values =
          ap (λ ds. ds ++ map el_data (drop (i + 1) els)) (map-append view made (value ∷ []))
          ∙ append_assoc (map view made) (view value ∷ []) (map el_data (drop (i + 1) els))
          ∙ ap (λ d. map view made ++ d ∷ map el_data (drop (i + 1) els)) gives
          ∙ ap (λ rest. map view made ++ map el_data rest) (sym step)
          ∙ h.values;
      fair = λ all. h.fair (subst (AllByRecursion (IsFairEl (2 ^ 64))) (sym step) (fair, all));
    }

pub MadeOfEls-values : (els : List El) (i : ℕ) (made : List Value) → MadeOfEls els i made → length els ≤ i → map view made ≡ map el_data els
MadeOfEls-values els i made h end =
    sym (append-nil (map view made)) ∙ ap (λ rest. map view made ++ map el_data rest) (sym (drop_all i els end)) ∙ h.values

pub MadeOfEls-fair : (els : List El) (i : ℕ) (made : List Value) → MadeOfEls els i made → length els ≤ i → AllByRecursion (IsFairEl (2 ^ 64)) els
MadeOfEls-fair els i made h end = h.fair (subst (AllByRecursion (IsFairEl (2 ^ 64))) (sym (drop_all i els end)) tt)
