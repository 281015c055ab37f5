-- What a book asks, page by page.
use Rattle.std.proofs.Common.{◌≡◌, ℕ, ◌+◌, ◌<◌, List, [], ◌∷◌, ◌++◌, map, take, drop, length, get_or, set, ap, sym, ◌∙◌, append_assoc, arith}
use Rattle.std.specs.Str.{encode_utf8_all}
use Rattle.std.proofs.lemmas.List.{drop_more, drop-set-lt, map-append, take_more_set}
use Rattle.plugin_side.specs.Asking.{turn_bytes}
use Rattle.plugin_mirror.specs.declared.leaf.Leaf.{Leaf}
use Rattle.plugin_mirror.specs.Asks.{asks_of, next_after, leaf_asked, commands, leaves_asked, next_asked}

-- one more page was asked for
pub asked_step : (piece id index : ℕ) (lines more : List (List ℕ)) (leaves : List Leaf) (d : Leaf) → index < length leaves →
    map encode_utf8_all more ≡ map encode_utf8_all lines ++ map turn_bytes (asks_of piece id (get_or leaves index d)) →
    map encode_utf8_all more ++ map turn_bytes (commands piece (next_after id (get_or leaves index d)) (drop (index + 1) leaves)) ≡
    map encode_utf8_all lines ++ map turn_bytes (commands piece id (drop index leaves))
asked_step piece id index lines more leaves d inside put =
    let leaf = get_or leaves index d in
    let later = commands piece (next_after id leaf) (drop (index + 1) leaves) in
    ap (λ front. front ++ map turn_bytes later) put ∙
    append_assoc (map encode_utf8_all lines) (map turn_bytes (asks_of piece id leaf)) (map turn_bytes later) ∙
    ap (λ rest. map encode_utf8_all lines ++ rest) (sym (map-append turn_bytes (asks_of piece id leaf) later)) ∙
    ap (λ rest. map encode_utf8_all lines ++ map turn_bytes (commands piece id rest)) (sym (drop_more leaves index d inside))

-- one more page was noted
pub next_step : (id place : ℕ) (leaves : List Leaf) (d : Leaf) → place < length leaves →
    next_asked (next_after id (get_or leaves place d)) (drop (place + 1) (set leaves place (leaf_asked id (get_or leaves place d)))) ≡
    next_asked id (drop place leaves)
next_step id place leaves d inside =
    let leaf = get_or leaves place d in
    ap (next_asked (next_after id leaf)) (drop-set-lt (place + 1) leaves place (leaf_asked id leaf) (omega arith)) ∙
    ap (next_asked id) (sym (drop_more leaves place d inside))

pub leaves_step : (id place : ℕ) (leaves : List Leaf) (d : Leaf) → place < length leaves →
    take (place + 1) (set leaves place (leaf_asked id (get_or leaves place d))) ++
    leaves_asked (next_after id (get_or leaves place d)) (drop (place + 1) (set leaves place (leaf_asked id (get_or leaves place d)))) ≡
    take place leaves ++ leaves_asked id (drop place leaves)
leaves_step id place leaves d inside =
    let leaf = get_or leaves place d in
    let new = leaf_asked id leaf in
    let after = next_after id leaf in
    ap (λ front. front ++ leaves_asked after (drop (place + 1) (set leaves place new))) (take_more_set leaves place new inside) ∙
    ap (λ rest. (take place leaves ++ new ∷ []) ++ leaves_asked after rest) (drop-set-lt (place + 1) leaves place new (omega arith)) ∙
    append_assoc (take place leaves) (new ∷ []) (leaves_asked after (drop (place + 1) leaves)) ∙
    ap (λ rest. take place leaves ++ leaves_asked id rest) (sym (drop_more leaves place d inside))
