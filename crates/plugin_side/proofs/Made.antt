-- The loop that makes a list of values of spans.
use Rattle.std.proofs.Common.{◌≡◌, ℕ, suc, ◌+◌, ◌<◌, ◌≤◌, List, [], ◌∷◌, ◌++◌, map, length, drop, get_or, refl, sym, ap, ◌∙◌, subst, add-one, append_assoc, append-nil}
use Rattle.std.proofs.Math.Seq.{drop-cons}
use Rattle.std.proofs.lemmas.List.{map-append, drop_all}
use Rattle.std.specs.List.{AllByRecursion}
use Rattle.xi_plain.specs.declared.span.WireSpan.{WireSpan}
use Rattle.serde_json.specs.View.{view}
use Rattle.serde_json.specs.declared.value.Value.{Value}
use Rattle.plugin_side.specs.Asking.{span_data}
use Rattle.plugin_side.specs.Range.{IsHeldSpan}

-- the values made so far, and those that the spans from i on are to give, are those of all spans; and all spans are held where those
-- from i on are
pub record MadeOfSpans (spans : List WireSpan) (i : ℕ) (made : List Value) : Type 0 where
  pub values : map view made ++ map span_data (drop i spans) ≡ map span_data spans
  pub held : AllByRecursion IsHeldSpan (drop i spans) → AllByRecursion IsHeldSpan spans

pub MadeOfSpans-none : (spans : List WireSpan) → MadeOfSpans spans 0 []
MadeOfSpans-none spans = record { values = refl; held = λ all. all }

-- the span at i, and those after it
next_span : (spans : List WireSpan) (i : ℕ) (span : WireSpan) → i < length spans → span ≡ get_or spans i span → drop i spans ≡ span ∷ drop (i + 1) spans
next_span spans i span below is = drop-cons spans i span below ∙ ap (λ e. e ∷ drop (suc i) spans) (sym is) ∙ ap (λ j. span ∷ drop j spans) (sym (add-one i))

pub MadeOfSpans-next : (spans : List WireSpan) (i : ℕ) (made : List Value) (value : Value) (span : WireSpan) → MadeOfSpans spans i made → i < length spans → span ≡ get_or spans i span
    → IsHeldSpan span → view value ≡ span_data span → MadeOfSpans spans (i + 1) (made ++ value ∷ [])
MadeOfSpans-next spans i made value span h below is held gives =
    let step = next_span spans i span below is in
    record {
      values =
          ap (λ ds. ds ++ map span_data (drop (i + 1) spans)) (map-append view made (value ∷ []))
          ∙ append_assoc (map view made) (view value ∷ []) (map span_data (drop (i + 1) spans))
          ∙ ap (λ d. map view made ++ d ∷ map span_data (drop (i + 1) spans)) gives
          ∙ ap (λ rest. map view made ++ map span_data rest) (sym step)
          ∙ h.values;
      held = λ all. h.held (subst (AllByRecursion IsHeldSpan) (sym step) (held, all));
    }

pub MadeOfSpans-values : (spans : List WireSpan) (i : ℕ) (made : List Value) → MadeOfSpans spans i made → length spans ≤ i → map view made ≡ map span_data spans
MadeOfSpans-values spans i made h end =
    sym (append-nil (map view made)) ∙ ap (λ rest. map view made ++ map span_data rest) (sym (drop_all i spans end)) ∙ h.values

pub MadeOfSpans-held : (spans : List WireSpan) (i : ℕ) (made : List Value) → MadeOfSpans spans i made → length spans ≤ i → AllByRecursion IsHeldSpan spans
MadeOfSpans-held spans i made h end = h.held (subst (AllByRecursion IsHeldSpan) (sym (drop_all i spans end)) tt)
