-- What the values that are written are to their reader.
use Rattle.std.proofs.Common.{◌≡◌, ℕ, ◌^◌, ◌<◌, List, [], ◌∷◌, map, cond, Some, None, option_map, option_and_then, refl, ap, ◌∙◌}
use Rattle.std.specs.List.{AllByRecursion}
use Rattle.std.proofs.lemmas.Bool.{lt-ltb}
use Rattle.std.proofs.lemmas.Str.{chars-encodes}
use Rattle.plain_edits.specs.declared.delta.El.{El}
use Rattle.plain_edits.specs.declared.delta.El.TheVariants.{Copy, Insert}
use Rattle.plain_edits.specs.declared.delta.Delta.{Delta}
use Rattle.xi_plain.specs.declared.config.Notice.{Notice}
use Rattle.serde_json.specs.View.{items_of}
use Rattle.json_rpc.specs.Response.{text_data}
use Rattle.plugin_wire.specs.Told.{Told, started, opened, changed, closed, stopped, whole_data, el_data, delta_data, change_params, told_name, told_params}
use Rattle.plugin_wire.specs.Shapes.{whole_shape, text_shape, each_shape, el_shape, delta_from, delta_shape}
use Rattle.plugin_wire.specs.Hearing.{notice_from, heard_notice, opening_from, heard}
use Rattle.plugin_wire.specs.Fair.{HasScalars, IsFairEl, IsFairDelta, IsFairNotice, IsFairTold}

pub whole_shape-whole_data : (limit n : ℕ) → n < limit → whole_shape limit (whole_data n) ≡ Some n
whole_shape-whole_data limit n h = ap (λ b. cond b (Some n) None) (lt-ltb n limit h)

pub text_shape-text_data : (text : List ℕ) → HasScalars text → text_shape (text_data text) ≡ Some text
text_shape-text_data text h = ap Some (chars-encodes text h)

el_shape-el_data : (limit : ℕ) (el : El) → IsFairEl limit el → el_shape limit (el_data el) ≡ Some el
el_shape-el_data limit (Copy a b) h =
    let from = whole_shape-whole_data limit a h.0 in let to = whole_shape-whole_data limit b h.1 in
    λ i. option_and_then (λ x. option_map (Copy x) (to i)) (from i)
el_shape-el_data limit (Insert text) h = ap (option_map Insert) (text_shape-text_data text h)

each_shape-els : (limit : ℕ) (els : List El) → AllByRecursion (IsFairEl limit) els → each_shape (el_shape limit) (items_of (map el_data els)) ≡ Some els
each_shape-els limit [] all = refl
each_shape-els limit (el ∷ els) all =
    ap (option_and_then (λ x. option_map (λ xs. x ∷ xs) (each_shape (el_shape limit) (items_of (map el_data els))))) (el_shape-el_data limit el all.0)
    ∙ ap (option_map (λ xs. el ∷ xs)) (each_shape-els limit els all.1)

-- a delta that is written is a delta to whoever reads numbers below this limit
pub delta_shape-delta_data : (limit : ℕ) (delta : Delta) → IsFairDelta limit delta → delta_shape limit (delta_data delta) ≡ Some delta
delta_shape-delta_data limit delta h =
    let length = whole_shape-whole_data limit delta.base_len h.base_len in let els = each_shape-els limit delta.els h.els in
    λ i. delta_from (length i) (els i)

heard_notice-change_params : (notice : Notice) → IsFairNotice notice → heard_notice (change_params notice) ≡ Some notice
heard_notice-change_params notice h =
    let author = whole_shape-whole_data (2 ^ 64) notice.author h.author in
    let delta = delta_shape-delta_data (2 ^ 64) notice.delta h.delta in
    let new_len = whole_shape-whole_data (2 ^ 64) notice.new_len h.new_len in
    let rev = whole_shape-whole_data (2 ^ 64) notice.rev h.rev in
    let id = text_shape-text_data notice.view h.view in
    λ i. notice_from (author i) (delta i) (new_len i) (rev i) (id i)

pub heard-told_params : (told : Told) → IsFairTold told → heard (told_name told) (told_params told) ≡ Some told
heard-told_params (started caller) h = ap (option_map started) (whole_shape-whole_data (2 ^ 64) caller h)
heard-told_params (opened view len) h =
    let length = whole_shape-whole_data (2 ^ 64) len h.1 in let id = text_shape-text_data view h.0 in
    λ i. opening_from (length i) (Some 0) (id i)
heard-told_params (changed notice) h = ap (option_map changed) (heard_notice-change_params notice h)
heard-told_params (closed view) h = ap (option_map closed) (text_shape-text_data view h)
heard-told_params stopped h = refl
