-- Lemmas on the edit step.
use Rattle.std.proofs.Common.{◌≡◌, ℕ, ◌+◌, Bool, true, false, List, [], ◌∷◌, ◌++◌, refl, ap, sym, ◌∙◌, map, suc, arith}
use Rattle.std.specs.List.{flat_map, range_with_len, count_by, insert, position_or_len}
use Rattle.std.proofs.lemmas.List.Sums.{length-filter}
use Rattle.plain_edits.specs.History.{Tagged, Revision, edit, History, is_visible}
use Rattle.plain_edits.specs.Rank.{is_lower}
use Rattle.plain_edits.specs.Edits.{PlainEdit, inserted_at, edited, with_earlier, insertion_rank}
use Rattle.plain_history.specs.declared.unit_edit.UnitEdit.{UnitEdit}
use Rattle.plain_history.specs.UnitEdit.{edit_of}
use Rattle.plain_history.specs.Inner.{inserted_from, is_not_lower}
use Rattle.plain_history.proofs.Lists.{flat_map-range_push}

-- what is inserted at an index comes from the gaps before the last, and from the last
pub inserted_at-last : (h : History) (e : PlainEdit) (index gap last : ℕ) → gap ≡ last → last ≡ count_by (is_visible h.revisions e.base) h.characters →
    inserted_at h e index ≡ flat_map (inserted_from h e index) (range_with_len 0 gap) ++ inserted_from h e index last
inserted_at-last h e index gap last at_end counted =
    ap (λ n. flat_map (inserted_from h e index) (range_with_len 0 (n + 1))) (length-filter (is_visible h.revisions e.base) h.characters ∙ sym counted) ∙
    flat_map-range_push (inserted_from h e index) last ∙
    ap (λ n. flat_map (inserted_from h e index) (range_with_len 0 n) ++ inserted_from h e index last) (sym at_end)

-- a history of the parts of the edit step is the edit step
pub edited-parts : (h : History) (e : PlainEdit) (characters : List Tagged) (revisions : List Revision) (floor : ℕ) (collected : List ℕ) →
    characters ≡ (edited h e).characters → revisions ≡ h.revisions ++ edit e.base e.group e.priority e.author ∷ [] →
    floor ≡ h.floor → collected ≡ h.collected →
    record { characters = characters; revisions = revisions; floor = floor; collected = collected } ≡ edited h e
edited-parts h e characters revisions floor collected is_characters is_revisions is_floor is_collected =
    rw (is_characters, is_revisions, is_floor, is_collected) refl

-- the index of the first edit whose rank is not lower
abbrev pub higher_index : UnitEdit → List UnitEdit → ℕ
higher_index e edits = position_or_len (is_not_lower (insertion_rank (edit_of e))) edits

-- an item goes in behind the front of a list
pub insert-cons : {X : Type 0} (x y : X) (xs : List X) (at place : ℕ) → at ≡ 1 + place → insert (x ∷ xs) at y ≡ x ∷ insert xs place y
insert-cons x y xs at place is =
    let next : at ≡ suc place = omega arith in
    rw next refl

-- one more edit at the front of a list, whether it goes before the front or not
pub map-insert_cons : (e f : UnitEdit) (edits : List UnitEdit) (b : Bool) → is_lower (insertion_rank (edit_of f)) (insertion_rank (edit_of e)) ≡ b →
    map edit_of (insert edits (higher_index e edits) e) ≡ with_earlier (edit_of e) (map edit_of edits) →
    map edit_of (insert (f ∷ edits) (higher_index e (f ∷ edits)) e) ≡ with_earlier (edit_of e) (edit_of f ∷ map edit_of edits)
map-insert_cons e f edits false is rest = rw is refl
map-insert_cons e f edits true is rest =
    let behind : higher_index e (f ∷ edits) ≡ 1 + higher_index e edits = rw is refl in
    let goes : with_earlier (edit_of e) (edit_of f ∷ map edit_of edits) ≡ edit_of f ∷ with_earlier (edit_of e) (map edit_of edits) = rw is refl in
    ap (map edit_of) (insert-cons f e edits (higher_index e (f ∷ edits)) (higher_index e edits) behind) ∙
    ap (λ fs. edit_of f ∷ fs) rest ∙ sym goes

-- an edit before the first whose rank is not lower
pub map-insert_first : (e : UnitEdit) (edits : List UnitEdit) →
    map edit_of (insert edits (higher_index e edits) e) ≡ with_earlier (edit_of e) (map edit_of edits)
map-insert_first e [] = refl
map-insert_first e (f ∷ edits) = map-insert_cons e f edits (is_lower (insertion_rank (edit_of f)) (insertion_rank (edit_of e))) refl (map-insert_first e edits)
