-- The logical lines that pieces are of, by the indices of their first pieces and of the pieces behind them, and the gaps that are theirs.
use Rattle.std.proofs.Common.{◌≡◌, inl, inr, ℕ, zero, suc, ◌+◌, ◌-◌, ◌<◌, ◌≤◌, Bool, true, false, List, [], ◌∷◌, ◌++◌, length, drop, replicate, Some, refl, ap, sym, subst, ◌∙◌, arith, length-drop}
use Rattle.std.specs.Prelude.{is_some, slice_get}
use Rattle.std.proofs.lemmas.Bool.{both_ways, cases_lt}
use Rattle.std.proofs.lemmas.List.{nil_from_length}
use Rattle.plain_screen.specs.declared.piece.Piece.{Piece}
use Rattle.plain_screen.specs.View.{ArePieces, layout_line_of, start_of}
use Rattle.plain_screen.proofs.callers.OwnLemmas.{HasOwn, HasOwn-line, get_piece, layout_line_of-start, line-before, line-from, start_of-get}
use Rattle.plain_screen.proofs.callers.ViewLemmas.{IsLayoutLineOf-layout_line_of}
use Rattle.subset_runs.specs.Subset.{contains}
use Rattle.line_stays.specs.Edges.{first_piece, past_piece}
use Rattle.line_stays.specs.Inner.{IsUnmarked}
use Rattle.line_stays.proofs.EdgeLemmas.{past-is}

-- ---- flags

contains-none : (k : ℕ) → contains [] k ≡ false
contains-none zero = refl
contains-none (suc k) = refl

-- flags behind others
pub contains-drop : (flags : List Bool) (n k : ℕ) → contains (drop n flags) k ≡ contains flags (n + k)
contains-drop flags zero k = let here : k ≡ 0 + k = omega arith in ap (contains flags) here
contains-drop [] (suc n) k = contains-none k ∙ sym (contains-none (suc n + k))
contains-drop (flag ∷ flags) (suc n) k =
    let on : suc (n + k) ≡ suc n + k = omega arith in contains-drop flags n k ∙ ap (contains (flag ∷ flags)) on

-- so many that are one
pub contains-front : (b : Bool) (n k : ℕ) (rest : List Bool) → k < n → contains (replicate n b ++ rest) k ≡ b
contains-front b zero k rest less = absurd (omega (arith, less))
contains-front b (suc n) zero rest less = refl
contains-front b (suc n) (suc k) rest less = contains-front b n k rest (omega (arith, less))

-- a walk that is not at the end has gone on by fewer
pub walk-more : (walk rest : List Bool) (n : ℕ) → rest ≡ drop n walk → (rest ≡ [] → ⊥) → n < length walk
walk-more walk rest n is some = elim (cases_lt n (length walk)) [
  | inl less ↦ less
  | inr all ↦ absurd (some (is ∙ nil_from_length (drop n walk) (omega (arith, length-drop n walk, all))))
]

pub walk-done : (walk rest : List Bool) (n : ℕ) → rest ≡ drop n walk → rest ≡ [] → length walk ≤ n
walk-done walk rest n is none = omega (arith, ap length is, ap length none, length-drop n walk)

module _ (text : List ℕ) (pieces : List Piece) (are : ArePieces text pieces) where
  -- ---- the logical line of a piece

  first_piece-is : (index first past : ℕ) → HasOwn text pieces index first past → first_piece text pieces index ≡ first
  first_piece-is index first past own =
      let there : first < length pieces = omega (arith, own.low, own.high, own.inside) in
      let piece = get_piece pieces first there in
      ap (layout_line_of pieces) (sym (own.start piece.0 piece.1).0 ∙ sym (start_of-get pieces first piece.0 piece.1)) ∙
      layout_line_of-start text pieces first are there

  pub own-at : (index : ℕ) → index < length pieces → HasOwn text pieces index (first_piece text pieces index) (past_piece pieces index)
  own-at index there =
      let own = HasOwn-line text pieces index are there in
      subst (λ f. HasOwn text pieces index f (past_piece pieces index)) (sym (first_piece-is index own.0 own.1 own.2))
      (subst (λ p. HasOwn text pieces index own.0 p) (sym (past-is text pieces index own.0 own.1 own.2)) own.2)

  -- within a logical line none but the first piece has a number
  clash : (x i : ℕ) (piece : Piece) → x < length pieces → first_piece text pieces x < i → i < past_piece pieces x → slice_get pieces i ≡ Some piece →
      is_some piece.ln ≡ true → ⊥
  clash x i piece there low high is numbered = both_ways (is_some piece.ln) ((own-at x there).rest i piece low high is) numbered

  first-numbered : (x : ℕ) (piece : Piece) → x < length pieces → slice_get pieces (first_piece text pieces x) ≡ Some piece → is_some piece.ln ≡ true
  first-numbered x piece there is = ((own-at x there).start piece is).1

  past-numbered : (x : ℕ) (piece : Piece) → x < length pieces → slice_get pieces (past_piece pieces x) ≡ Some piece → is_some piece.ln ≡ true
  past-numbered x piece there is = ((own-at x there).next piece is).1

  -- its pieces are of one logical line
  pub first-same : (x y : ℕ) → x < length pieces → first_piece text pieces x ≤ y → y < past_piece pieces x → first_piece text pieces y ≡ first_piece text pieces x
  first-same x y there low high =
      let own = own-at x there in
      let inside : y < length pieces = omega (arith, high, own.inside) in
      let twin = own-at y inside in
      elim (cases_lt (first_piece text pieces y) (first_piece text pieces x)) [
        | inl before ↦
            let piece = get_piece pieces (first_piece text pieces x) (omega (arith, low, inside)) in
            absurd (clash y (first_piece text pieces x) piece.0 inside before (omega (arith, low, twin.high)) piece.1 (first-numbered x piece.0 there piece.1))
        | inr ge ↦ elim (cases_lt (first_piece text pieces x) (first_piece text pieces y)) [
          | inl after ↦
              let piece = get_piece pieces (first_piece text pieces y) (omega (arith, twin.low, inside)) in
              absurd (clash x (first_piece text pieces y) piece.0 there after (omega (arith, twin.low, high)) piece.1 (first-numbered y piece.0 inside piece.1))
          | inr le ↦ omega (arith, ge, le)
        ]
      ]

  pub past-same : (x y : ℕ) → x < length pieces → first_piece text pieces x ≤ y → y < past_piece pieces x → past_piece pieces y ≡ past_piece pieces x
  past-same x y there low high =
      let own = own-at x there in
      let inside : y < length pieces = omega (arith, high, own.inside) in
      let twin = own-at y inside in
      elim (cases_lt (past_piece pieces y) (past_piece pieces x)) [
        | inl before ↦
            let piece = get_piece pieces (past_piece pieces y) (omega (arith, before, own.inside)) in
            absurd (clash x (past_piece pieces y) piece.0 there (omega (arith, low, twin.high)) before piece.1 (past-numbered y piece.0 inside piece.1))
        | inr ge ↦ elim (cases_lt (past_piece pieces x) (past_piece pieces y)) [
          | inl after ↦
              let piece = get_piece pieces (past_piece pieces x) (omega (arith, after, twin.inside)) in
              absurd (clash y (past_piece pieces x) piece.0 inside (omega (arith, twin.low, high)) after piece.1 (past-numbered x piece.0 there piece.1))
          | inr le ↦ omega (arith, ge, le)
        ]
      ]

  -- its first piece begins it
  pub first-first : (x : ℕ) → x < length pieces → first_piece text pieces (first_piece text pieces x) ≡ first_piece text pieces x
  first-first x there =
      let own = own-at x there in first-same x (first_piece text pieces x) there (omega arith) (omega (arith, own.low, own.high))

  -- a logical line ends by where a later one begins
  pub past-before : (x y : ℕ) → x < y → y < length pieces → first_piece text pieces y ≡ y → past_piece pieces x ≤ y
  past-before x y less there begins =
      let inside : x < length pieces = omega (arith, less, there) in
      elim (cases_lt y (past_piece pieces x)) [
        | inl before ↦
            let piece = get_piece pieces y there in
            absurd (clash x y piece.0 inside (omega (arith, less, (own-at x inside).low)) before piece.1
            (first-numbered y piece.0 there (ap (slice_get pieces) begins ∙ piece.1)))
        | inr fine ↦ fine
      ]

  -- and the logical line of a piece behind it begins behind it
  pub first-behind : (x y : ℕ) → x < length pieces → y < length pieces → past_piece pieces x ≤ y → past_piece pieces x ≤ first_piece text pieces y
  first-behind x y there inside behind = elim (cases_lt (first_piece text pieces y) (past_piece pieces x)) [
    | inl before ↦
        let piece = get_piece pieces (past_piece pieces x) (omega (arith, behind, inside)) in
        absurd (clash y (past_piece pieces x) piece.0 inside before (omega (arith, behind, (own-at y inside).high)) piece.1 (past-numbered x piece.0 there piece.1))
    | inr fine ↦ fine
  ]

  -- it starts where the last piece before it ends
  pub start-past : (x : ℕ) (piece : Piece) → x < length pieces → past_piece pieces x < length pieces → slice_get pieces (past_piece pieces x - 1) ≡ Some piece →
      start_of pieces (past_piece pieces x) ≡ piece.end
  start-past x piece there behind is =
      let own = own-at x there in
      let next = get_piece pieces (past_piece pieces x) behind in
      start_of-get pieces (past_piece pieces x) next.0 next.1 ∙ (own.next next.0 next.1).0 ∙
      sym (own.end (past_piece pieces x - 1) piece (omega (arith, own.high)) is)

  -- ---- gaps

  pub line-rise : (gap later : ℕ) → gap ≤ later → layout_line_of pieces gap ≤ layout_line_of pieces later
  line-rise gap later le =
      let own = IsLayoutLineOf-layout_line_of text pieces gap are in
      let piece = get_piece pieces (layout_line_of pieces gap) own.inside in
      line-from text pieces later (layout_line_of pieces gap) piece.0 are piece.1 (omega (arith, le, own.by_then piece.0 piece.1))

  pub line-low : (line gap : ℕ) → line < length pieces → gap < start_of pieces line → layout_line_of pieces gap < line
  line-low line gap there less =
      let piece = get_piece pieces line there in
      line-before text pieces gap line piece.0 are piece.1 (omega (arith, less, start_of-get pieces line piece.0 piece.1))

  pub line-inside : (gap : ℕ) → layout_line_of pieces gap < length pieces
  line-inside gap = (IsLayoutLineOf-layout_line_of text pieces gap are).inside

  -- where the next mark stands behind a line, none stands before that
  pub marks-gone : (walk : List Bool) (from n end : ℕ) → ((k : ℕ) → k < n → contains walk k ≡ false) →
      end ≤ first_piece text pieces (layout_line_of pieces (from + n)) → (k : ℕ) → layout_line_of pieces (from + k) < end → contains walk k ≡ false
  marks-gone walk from n end gone behind k below = elim (cases_lt k n) [
    | inl less ↦ gone k less
    | inr ge ↦
        let own = own-at (layout_line_of pieces (from + n)) (line-inside (from + n)) in
        absurd (omega (arith, own.low, behind, below, line-rise (from + n) (from + k) (omega (arith, ge))))
  ]

  -- ---- logical lines without a mark

  module _ (marks : List Bool) (start gap at x : ℕ) (front : start ≤ gap) (here : gap ≡ start_of pieces at) (there : at < length pieces)
      (low : at ≤ first_piece text pieces x) where
    -- a gap of theirs stands behind the marks that are passed
    gap-behind : (k : ℕ) → first_piece text pieces x ≤ layout_line_of pieces (start + k) → gap ≤ start + k
    gap-behind k from = elim (cases_lt (start + k) gap) [
      | inl before ↦ absurd (omega (arith, from, low, line-low at (start + k) there (omega (arith, before, here))))
      | inr fine ↦ fine
    ]

    passed : (k : ℕ) → gap ≤ start + k → contains (drop (gap - start) marks) (k - (gap - start)) ≡ contains marks k
    passed k behind =
        let on : gap - start + (k - (gap - start)) ≡ k = omega (arith, behind, front) in
        contains-drop marks (gap - start) (k - (gap - start)) ∙ ap (contains marks) on

    -- before the logical line of the next mark
    pub unmarked-before : (mark : ℕ) → ((k : ℕ) → gap + k < mark → contains (drop (gap - start) marks) k ≡ false) →
        x < first_piece text pieces (layout_line_of pieces mark) → IsUnmarked text pieces marks start x
    unmarked-before mark gone before = λ k less from to.
        let own = own-at (layout_line_of pieces mark) (line-inside mark) in
        let past = past-before x (first_piece text pieces (layout_line_of pieces mark)) before
        (omega (arith, own.low, line-inside mark)) (first-first (layout_line_of pieces mark) (line-inside mark)) in
        let behind = gap-behind k from in
        elim (cases_lt (start + k) mark) [
          | inl fine ↦ sym (passed k behind) ∙ gone (k - (gap - start)) (omega (arith, fine, behind, front))
          | inr ge ↦ absurd (omega (arith, line-rise mark (start + k) ge, own.low, past, to))
        ]

    -- where none is left before a line
    pub unmarked-rest : (end : ℕ) → ((k : ℕ) → k < length (drop (gap - start) marks) → layout_line_of pieces (gap + k) < end → contains (drop (gap - start) marks) k ≡ false) →
        past_piece pieces x ≤ end → IsUnmarked text pieces marks start x
    unmarked-rest end none past = λ k less from to.
        let behind = gap-behind k from in
        let on : start + k ≡ gap + (k - (gap - start)) = omega (arith, behind, front) in
        sym (passed k behind) ∙
        none (k - (gap - start)) (omega (arith, less, behind, front, length-drop (gap - start) marks))
        (subst (λ g. layout_line_of pieces g < end) on (omega (arith, to, past)))
