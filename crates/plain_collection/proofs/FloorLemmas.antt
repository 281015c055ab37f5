-- The greatest clean floor, one revision further down.
use Rattle.std.proofs.Common.{◌≡◌, ℕ, zero, suc, ◌-◌, ◌<◌, false, true, List, refl, ap, ◌∙◌, arith}
use Rattle.plain_edits.specs.History.{Revision}
use Rattle.plain_edits.specs.Collection.{is_clean, clean_floor}

-- below an unclean floor it is the same
pub lower_floor : (revisions : List Revision) (most : ℕ) → 0 < most → is_clean revisions most ≡ false →
    clean_floor revisions (most - 1) ≡ clean_floor revisions most
lower_floor revisions zero some unclean = absurd (omega (arith, some))
lower_floor revisions (suc most) some unclean =
    let below : suc most - 1 ≡ most = omega arith in
    let step : clean_floor revisions most ≡ clean_floor revisions (suc most) = rw unclean refl in
    ap (clean_floor revisions) below ∙ step

-- a clean floor is itself the greatest up to there
pub own_floor : (revisions : List Revision) (most : ℕ) → is_clean revisions most ≡ true → clean_floor revisions most ≡ most
own_floor revisions zero clean = refl
own_floor revisions (suc most) clean = rw clean refl
