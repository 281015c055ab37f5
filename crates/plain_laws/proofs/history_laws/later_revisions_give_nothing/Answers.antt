use Rattle.std.proofs.Common.{◌≡◌, ℕ, List, [], ◌∷◌, None, refl, ap, ◌∙◌, arith}
use Rattle.plain_edits.specs.Collection.{clean_floor, collection_at, resting_groups}
use Rattle.plain_edits.proofs.callers.CollectionLemmas.{greatest_clean_floor}
use Rattle.plain_edits.proofs.callers.WellFormedLemmas.{clean_floor-later, resting_groups-later}
use Rattle.plain_laws.proofs.history_laws.later_revisions_give_nothing.Goals as goal

none_collected : (floor : ℕ) (groups : List ℕ) → collection_at floor groups ≡ None → groups ≡ []
none_collected floor [] none = refl
none_collected floor (group ∷ groups) none = absurd cc

pub returns : goal.returns
returns c = λ history next more retired most within revisions collected none.
    let floor = clean_floor history.revisions most in
    let low = clean_floor next.revisions most in
    let inside = (greatest_clean_floor history.revisions most).is_within in
    ap (collection_at low)
    (resting_groups-later history next more revisions collected retired low floor
    (clean_floor-later history next more revisions collected most within) (omega (arith, inside, within))
    (none_collected floor (resting_groups history retired floor) none))
