-- An undo and a redo directly after one another.
use Rattle.std.proofs.Common.{◌≡◌, ◌+◌, ◌-◌, ◌<◌, true, if◌then◌else◌, [], ◌∷◌, ◌++◌, length, take, drop, get_or, refl, ap, ap₂, sym, ◌∙◌, arith}
use Rattle.std.proofs.lemmas.Bool.{or_right, eq-eqb}
use Rattle.std.proofs.lemmas.List.{take_more, drop_more}
use Rattle.plain_text.specs.Numbers.{has, with_number, without_number}
use Rattle.plain_text.proofs.callers.NumberLemmas.{differ}
use Rattle.undo_groups.specs.Groups.{Groups, groups_of, after_opening, undone_one, redone_one}
use Rattle.undo_groups.specs.Laws.{OpeningEndsRedo, RedoTakesUndoBack, UndoTakesRedoBack}
use Rattle.number_set.proofs.ForCallers.{has-append, has-own, without-with, with-without}

pub undone_is : (s : Groups) → 0 < s.index → undone_one s ≡ groups_of s.live (s.index - 1) s.retired (with_number s.undone (get_or s.live (s.index - 1) 0)) s.given
undone_is s some = ap (λ t. if t then s else groups_of s.live (s.index - 1) s.retired (with_number s.undone (get_or s.live (s.index - 1) 0)) s.given) (differ s.index 0 (λ none. omega arith))

pub redone_is : (s : Groups) → s.index < length s.live → redone_one s ≡ groups_of s.live (s.index + 1) s.retired (without_number s.undone (get_or s.live s.index 0)) s.given
redone_is s some = ap (λ t. if t then s else groups_of s.live (s.index + 1) s.retired (without_number s.undone (get_or s.live s.index 0)) s.given) (differ s.index (length s.live) (λ all. omega arith))

pub redo_takes_undo_back : RedoTakesUndoBack
redo_takes_undo_back s is some =
    let group = get_or s.live (s.index - 1) 0 in
    let back : s.index - 1 + 1 ≡ s.index = omega arith in
    let inside : s.index - 1 < length s.live = omega (arith, is.reached) in
    let front : take s.index s.live ≡ take (s.index - 1) s.live ++ group ∷ [] = ap (λ i. take i s.live) (sym back) ∙ take_more s.live (s.index - 1) 0 inside in
    let there : has (take s.index s.live) group ≡ true = ap (λ ys. has ys group) front ∙ has-append (take (s.index - 1) s.live) (group ∷ []) group ∙ or_right _ _ (has-own group []) in
    ap redone_one (undone_is s some) ∙ redone_is (groups_of s.live (s.index - 1) s.retired (with_number s.undone group) s.given) inside ∙
    ap₂ (λ i undone. groups_of s.live i s.retired undone s.given) back (without-with s.undone group (is.done group there))

pub undo_takes_redo_back : UndoTakesRedoBack
undo_takes_redo_back s is some =
    let group = get_or s.live s.index 0 in
    let same : s.index + 1 - 1 ≡ s.index = omega arith in
    let rest : drop s.index s.live ≡ group ∷ drop (s.index + 1) s.live = drop_more s.live s.index 0 some in
    let there : has (drop s.index s.live) group ≡ true = ap (λ ys. has ys group) rest ∙ has-own group (drop (s.index + 1) s.live) in
    ap undone_one (redone_is s some) ∙ undone_is (groups_of s.live (s.index + 1) s.retired (without_number s.undone group) s.given) (omega arith) ∙
    ap (λ i. groups_of s.live i s.retired (with_number (without_number s.undone group) (get_or s.live i 0)) s.given) same ∙
    ap (λ undone. groups_of s.live s.index s.retired undone s.given) (with-without s.undone group is.undone_rise (is.taken_back group there))

pub opening_ends_redo : OpeningEndsRedo
opening_ends_redo s =
    let after = after_opening s in
    (ap (λ t. if t then after else groups_of after.live (after.index + 1) after.retired (without_number after.undone (get_or after.live after.index 0)) after.given) (eq-eqb after.index after.index refl), λ group there. there)
