-- What is visible at a revision, and which insertions go right of it, the revisions up to it decide alone.
use Rattle.std.proofs.Common.{◌≡◌, ℕ, zero, suc, ◌<◌, ◌≤◌, Bool, true, false, not, ◌&&◌, ◌||◌, nat_lt, nat_le, List, [], ◌∷◌, take, slice_get, refl, ap, ap₂, arith}
use Rattle.std.specs.List.{list_all}
use Rattle.std.proofs.lemmas.Bool.{leb-true, ltb-false}
use Rattle.std.proofs.lemmas.List.{take-take}
use Rattle.plain_text.specs.Numbers.{has}
use Rattle.plain_edits.specs.declared.rank.Rank.{Rank}
use Rattle.plain_edits.specs.History.{Tagged, Revision, revision_at, edit_group, edit_rank, undone_after, is_undone, is_visible}
use Rattle.plain_edits.specs.Rank.{is_lower}
use Rattle.plain_edits.specs.Place.{goes_right}

slice_get-take : {X : Type 0} (n k : ℕ) (xs : List X) → n < k → slice_get (take k xs) n ≡ slice_get xs n
slice_get-take n zero xs below = absurd (omega arith)
slice_get-take n (suc k) [] below = refl
slice_get-take zero (suc k) (x ∷ xs) below = refl
slice_get-take (suc n) (suc k) (x ∷ xs) below = slice_get-take n k xs (omega arith)

revision_at-take : (revisions : List Revision) (count rev : ℕ) → rev ≤ count → revision_at (take count revisions) rev ≡ revision_at revisions rev
revision_at-take revisions count zero within = refl
revision_at-take revisions count (suc rev) within = slice_get-take rev count revisions within

pub goes_right-take : (revisions : List Revision) (count : ℕ) (rank : Rank) (rev : ℕ) → rev ≤ count →
    goes_right (take count revisions) rank rev ≡ goes_right revisions rank rev
goes_right-take revisions count rank rev within =
    ap (λ found. not (is_lower rank (edit_rank found))) (revision_at-take revisions count rev within)

is_undone-take : (revisions : List Revision) (count at rev : ℕ) → at ≤ count → rev ≤ count →
    is_undone (take count revisions) at rev ≡ is_undone revisions at rev
is_undone-take revisions count at rev at_within within =
    ap₂ (λ first found. has (undone_after [] first) (edit_group found)) (take-take at count revisions at_within)
    (revision_at-take revisions count rev within)

pub is_visible-take : (revisions : List Revision) (count at : ℕ) (tagged : Tagged) → at ≤ count →
    is_visible (take count revisions) at tagged ≡ is_visible revisions at tagged
is_visible-take revisions count at tagged within =
    ap₂ (λ a b. a && b) (come (nat_le tagged.inserted at) refl) (stays tagged.deleted)
  where
    come : (b : Bool) → nat_le tagged.inserted at ≡ b →
        (b && not (is_undone (take count revisions) at tagged.inserted)) ≡ (b && not (is_undone revisions at tagged.inserted))
    come true is =
        ap (λ gone. true && not gone)
        (is_undone-take revisions count at tagged.inserted within (omega (arith, leb-true tagged.inserted at is)))
    come false is = refl

    stays_by : (rev : ℕ) (b : Bool) → nat_lt at rev ≡ b → (b || is_undone (take count revisions) at rev) ≡ (b || is_undone revisions at rev)
    stays_by rev true is = refl
    stays_by rev false is =
        is_undone-take revisions count at rev within (omega (arith, ltb-false at rev is))

    stays : (deleted : List ℕ) → list_all (λ rev. nat_lt at rev || is_undone (take count revisions) at rev) deleted ≡
        list_all (λ rev. nat_lt at rev || is_undone revisions at rev) deleted
    stays [] = refl
    stays (rev ∷ deleted) = ap₂ (λ a b. a && b) (stays_by rev (nat_lt at rev) refl) (stays deleted)
