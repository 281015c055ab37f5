use Rattle.std.proofs.Common.{length, subst, sym}
use Rattle.regex_find.specs.Spots.{AreSpots}
use Rattle.spot_cases.proofs.spots.is_found.Goals as goal

pub is_replaced-requires : goal.is_replaced-requires
is_replaced-requires g c =
    subst (AreSpots (length c.in_ok-text.text) 0) (sym c.in_ok-runs.ensures.found) (g.met.S.Spot.law.stand c.args.spot.now c.in_ok-text.text)
