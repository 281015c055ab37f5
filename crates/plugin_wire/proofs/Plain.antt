-- The values that tell a plugin are proper, have no float and nest a few levels deep, so each has its line.
use Rattle.std.proofs.Common.{◌≡◌, ℕ, ◌≤◌, ◌^◌, ◌||◌, List, [], ◌∷◌, map, true, false, codes, refl, ap, ◌∙◌, arith}
use Rattle.std.specs.List.{AllByRecursion}
use Rattle.std.specs.Str.{all_scalars}
use Rattle.json.proofs.Printed.Utf8.{IsUtf8-are_ascii}
use Rattle.plain_edits.specs.declared.delta.El.{El}
use Rattle.plain_edits.specs.declared.delta.El.TheVariants.{Copy, Insert}
use Rattle.plain_edits.specs.declared.delta.Delta.{Delta}
use Rattle.xi_plain.specs.declared.config.Notice.{Notice}
use Rattle.serde_json.specs.Data.{Data, depth, items_depth}
use Rattle.serde_json.specs.View.{items_of}
use Rattle.serde_json.specs.Written.{has_float, items_have_float}
use Rattle.json_rpc.specs.Line.{line_of, IsLineOf}
use Rattle.json_rpc.specs.Proper.{IsProper, AreProper}
use Rattle.json_rpc.specs.Response.{text_data, note_data}
use Rattle.json_rpc.proofs.ForCallers.{IsLineOf-line_of}
use Rattle.plugin_wire.specs.Told.{Told, started, opened, changed, closed, stopped, el_data, delta_data, change_params, told_name, told_params, told_data}
use Rattle.plugin_wire.specs.Fair.{HasScalars, IsFairEl, IsFairDelta, IsFairNotice, IsFairTold}

-- a proper value with no float, nested at most n deep
pub record IsWritable (n : ℕ) (d : Data) : Type 0 where
  pub proper : IsProper d
  pub whole : has_float d ≡ false
  pub shallow : depth d ≤ n

proper_text : (text : List ℕ) → HasScalars text → IsProper (text_data text)
proper_text text h = (text, (h, refl))

proper_el : (el : El) → IsFairEl (2 ^ 64) el → IsProper (el_data el)
proper_el (Copy a b) h = (IsUtf8-are_ascii (codes "copy") refl, (h.0, (h.1, tt)), tt, tt)
proper_el (Insert text) h = (IsUtf8-are_ascii (codes "insert") refl, proper_text text h, tt, tt)

proper_els : (els : List El) → AllByRecursion (IsFairEl (2 ^ 64)) els → AreProper (items_of (map el_data els))
proper_els [] all = tt
proper_els (el ∷ els) all = (proper_el el all.0, proper_els els all.1)

whole_el : (el : El) → has_float (el_data el) ≡ false
whole_el (Copy a b) = refl
whole_el (Insert text) = refl

whole_els : (els : List El) → items_have_float (items_of (map el_data els)) ≡ false
whole_els [] = refl
whole_els (el ∷ els) = ap (λ b. b || items_have_float (items_of (map el_data els))) (whole_el el) ∙ whole_els els

shallow_el : (el : El) → depth (el_data el) ≤ 2
shallow_el (Copy a b) = omega arith
shallow_el (Insert text) = omega arith

shallow_els : (els : List El) → items_depth (items_of (map el_data els)) ≤ 2
shallow_els [] = omega arith
shallow_els (el ∷ els) = omega (arith, shallow_el el, shallow_els els)

IsWritable-delta_data : (delta : Delta) → IsFairDelta (2 ^ 64) delta → IsWritable 4 (delta_data delta)
IsWritable-delta_data delta h = record {
  proper = (IsUtf8-are_ascii (codes "base_len") refl, h.base_len, (refl, tt), (IsUtf8-are_ascii (codes "els") refl, proper_els delta.els h.els, tt, tt));
  whole = ap (λ b. b || false) (whole_els delta.els);
  shallow = omega (arith, shallow_els delta.els);
}

IsWritable-change_params : (notice : Notice) → IsFairNotice notice → IsWritable 5 (change_params notice)
IsWritable-change_params notice h =
    let delta = IsWritable-delta_data notice.delta h.delta in
    record {
      proper = (
        IsUtf8-are_ascii (codes "author") refl,
        h.author,
        (refl, (refl, (refl, (refl, tt)))),
        (
          IsUtf8-are_ascii (codes "delta") refl,
          delta.proper,
          (refl, (refl, (refl, tt))),
          (
            IsUtf8-are_ascii (codes "new_len") refl,
            h.new_len,
            (refl, (refl, tt)),
            (
              IsUtf8-are_ascii (codes "rev") refl,
              h.rev,
              (refl, tt),
              (IsUtf8-are_ascii (codes "view_id") refl, proper_text notice.view h.view, tt, tt),
            ),
          ),
        ),
      );
      whole = ap (λ b. b || false) delta.whole;
      shallow = omega (arith, delta.shallow);
    }

pub IsWritable-told_params : (told : Told) → IsFairTold told → IsWritable 5 (told_params told)
IsWritable-told_params (started caller) h = record { proper = (IsUtf8-are_ascii (codes "plugin_id") refl, h, tt, tt); whole = refl; shallow = omega arith }
IsWritable-told_params (opened view len) h = record {
  proper = (
    IsUtf8-are_ascii (codes "len") refl,
    h.1,
    (refl, (refl, tt)),
    (IsUtf8-are_ascii (codes "rev") refl, omega arith, (refl, tt), (IsUtf8-are_ascii (codes "view_id") refl, proper_text view h.0, tt, tt)),
  );
  whole = refl;
  shallow = omega arith;
}
IsWritable-told_params (changed notice) h = IsWritable-change_params notice h
IsWritable-told_params (closed view) h = record { proper = (IsUtf8-are_ascii (codes "view_id") refl, proper_text view h, tt, tt); whole = refl; shallow = omega arith }
IsWritable-told_params stopped h = record { proper = tt; whole = refl; shallow = omega arith }

pub told_name-scalars : (told : Told) → all_scalars (told_name told) ≡ true
told_name-scalars (started caller) = refl
told_name-scalars (opened view len) = refl
told_name-scalars (changed notice) = refl
told_name-scalars (closed view) = refl
told_name-scalars stopped = refl

IsWritable-note_data : (name : List ℕ) (params : Data) → HasScalars name → IsWritable 5 params → IsWritable 6 (note_data name params)
IsWritable-note_data name params h k = record {
  proper = (IsUtf8-are_ascii (codes "method") refl, proper_text name h, (refl, tt), (IsUtf8-are_ascii (codes "params") refl, k.proper, tt, tt));
  whole = ap (λ b. b || false) k.whole;
  shallow = omega (arith, k.shallow);
}

pub IsWritable-told_data : (told : Told) → IsFairTold told → IsWritable 6 (told_data told)
IsWritable-told_data told h = IsWritable-note_data (told_name told) (told_params told) (told_name-scalars told) (IsWritable-told_params told h)

pub IsLineOf-told_data : (told : Told) → IsFairTold told → IsLineOf (told_data told) (line_of (told_data told))
IsLineOf-told_data told h =
    let plain = IsWritable-told_data told h in
    IsLineOf-line_of (told_data told) plain.proper plain.whole (omega (arith, plain.shallow))
