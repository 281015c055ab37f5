-- Where the pieces of a logical line begin and end.
use Rattle.std.proofs.Common.{◌≡◌, ◌⊎◌, inl, inr, ℕ, zero, suc, ◌+◌, ◌-◌, ◌<◌, ◌≤◌, Bool, true, false, List, [], ◌∷◌, length, drop, cond, Some, refl, ap, sym, ◌∙◌, arith, length-drop}
use Rattle.std.specs.Prelude.{is_some, not, slice_get}
use Rattle.std.specs.List.{prefix_len}
use Rattle.std.proofs.lemmas.Bool.{both_ways, cases_lt}
use Rattle.plain_screen.specs.declared.piece.Piece.{Piece}
use Rattle.plain_screen.specs.View.{ArePieces, extent_of, layout_line_of, line_under}
use Rattle.plain_screen.proofs.callers.OwnLemmas.{HasOwn, HasOwn-line}
use Rattle.doc_layout.proofs.ForCallers.{slice-drop}
use Rattle.line_updates.proofs.ForCallers.{next-end, next-past}
use Rattle.line_stays.specs.Edges.{past_piece}

prefix-is : {X : Type 0} (p : X → Bool) (xs : List X) (k : ℕ) → k ≤ length xs → ((i : ℕ) (x : X) → i < k → slice_get xs i ≡ Some x → p x ≡ true) →
    ((x : X) → slice_get xs k ≡ Some x → p x ≡ false) → prefix_len p xs ≡ k
prefix-is p [] zero inside each stop = refl
prefix-is p [] (suc k) inside each stop = absurd (omega (arith, inside))
prefix-is p (x ∷ xs) zero inside each stop = ap (λ (b : Bool). cond b (1 + prefix_len p xs) 0) (stop x refl)
prefix-is p (x ∷ xs) (suc k) inside each stop =
    let rest = prefix-is p xs k (omega (arith, inside)) (λ i y less is. each (suc i) y (omega (arith, less)) is) stop in
    ap (λ (b : Bool). cond b (1 + prefix_len p xs) 0) (each 0 x (omega arith) refl) ∙ omega (arith, rest)

-- the piece behind a logical line is the one behind its own
pub past-is : (text : List ℕ) (pieces : List Piece) (index first past : ℕ) → HasOwn text pieces index first past → past_piece pieces index ≡ past
past-is text pieces index first past own =
    let k : ℕ = past - (index + 1) in
    let on : index + 1 + k ≡ past = omega (arith, own.high) in
    let rest = prefix-is (λ (piece : Piece). not (is_some piece.ln)) (drop (index + 1) pieces) k
    (omega (arith, own.inside, length-drop (index + 1) pieces, own.high))
    (λ i piece less is. ap not (own.rest (index + 1 + i) piece (omega (arith, own.low)) (omega (arith, less, on)) (sym (slice-drop (index + 1) i pieces) ∙ is)))
    (λ piece is. ap not (own.next piece (ap (slice_get pieces) (sym on) ∙ sym (slice-drop (index + 1) k pieces) ∙ is)).1) in
    omega (arith, rest, on)

module _ (text : List ℕ) (pieces : List Piece) (index next : ℕ) (are : ArePieces text pieces) (there : index < length pieces)
    (is_next : next ≡ layout_line_of pieces (extent_of (line_under text pieces index)).end) where
  own : (first : ℕ) × (past : ℕ) × HasOwn text pieces index first past
  own = HasOwn-line text pieces index are there

  -- the layout line of its end has a number, and stands behind
  pub past-next : (piece : Piece) → slice_get pieces next ≡ Some piece → index < next → is_some piece.ln ≡ true → next ≡ past_piece pieces index
  past-next piece is behind numbered = elim (cases_lt own.1 (length pieces)) [
    | inl less ↦ next-past text pieces index next own.0 own.1 are own.2 is_next less ∙ sym (past-is text pieces index own.0 own.1 own.2)
    | inr ge ↦
        let last = next-end text pieces index next own.0 own.1 are own.2 is_next (omega (arith, ge, own.2.inside)) in
        absurd (both_ways (is_some piece.ln) (own.2.rest next piece (omega (arith, behind, own.2.low)) (omega (arith, last)) is) numbered)
  ]

  -- or it does not
  pub past-all : (piece : Piece) → slice_get pieces next ≡ Some piece → (next ≤ index) ⊎ (is_some piece.ln ≡ false) → length pieces ≡ past_piece pieces index
  past-all piece is which = elim (cases_lt own.1 (length pieces)) [
    | inl less ↦ absurd (not_next (next-past text pieces index next own.0 own.1 are own.2 is_next less) which)
    | inr ge ↦ omega (arith, ge, own.2.inside, past-is text pieces index own.0 own.1 own.2)
  ]
    where
      not_next : next ≡ own.1 → (next ≤ index) ⊎ (is_some piece.ln ≡ false) → ⊥
      not_next same (inl low) = omega (arith, same, low, own.2.high)
      not_next same (inr none) = both_ways (is_some piece.ln) none (own.2.next piece (ap (slice_get pieces) (sym same) ∙ is)).1
