-- The gaps of carets rise.
use Rattle.std.proofs.Common.{◌≡◌, ℕ, ◌+◌, ◌-◌, ◌≤◌, Bool, true, false, List, [], ◌∷◌, refl, arith}
use Rattle.std.specs.Prelude.{◌&&◌, if◌then◌else◌, nat_le, nat_lt}
use Rattle.std.proofs.lemmas.Bool.{and_parts, leb-true, ltb-true}
use Rattle.span_runs.specs.Places.{RiseUpTo}
use Rattle.span_runs.proofs.ForCallers.{RiseUpTo-lower}
use Rattle.line_render.specs.Inner.{shown_gaps}

pub RiseUpTo-shown : (start gaps last low : ℕ) (carets : List ℕ) → gaps ≤ last + 1 → RiseUpTo low last (shown_gaps start gaps low carets)
RiseUpTo-shown start gaps last low [] few = tt
RiseUpTo-shown start gaps last low (caret ∷ carets) few =
    by (nat_le (start + low) caret && nat_lt caret (start + gaps)) refl (RiseUpTo-shown start gaps last (caret - start + 1) carets few) (RiseUpTo-shown start gaps last low carets few)
  where
    by : (b : Bool) → (nat_le (start + low) caret && nat_lt caret (start + gaps)) ≡ b → RiseUpTo (caret - start + 1) last (shown_gaps start gaps (caret - start + 1) carets) →
        RiseUpTo low last (shown_gaps start gaps low carets) →
        RiseUpTo low last (if b then (caret - start) ∷ shown_gaps start gaps (caret - start + 1) carets else shown_gaps start gaps low carets)
    by true within one other =
        let both = and_parts (nat_le (start + low) caret) (nat_lt caret (start + gaps)) within in
        let from = leb-true (start + low) caret both.0 in
        let to = ltb-true caret (start + gaps) both.1 in
        (omega arith, omega arith, RiseUpTo-lower (caret - start) (caret - start + 1) last (shown_gaps start gaps (caret - start + 1) carets) (omega arith) one)
    by false within one other = other
