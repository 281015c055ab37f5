-- Lemmas on the test of breaks: what a layout computes with passes it, and nothing else does.
use Rattle.std.proofs.Common.{◌≡◌, ◌⊎◌, inl, inr, ⊎_elim, ℕ, zero, suc, ◌+◌, ◌<◌, ◌≤◌, nat_lt, nat_le, ◌==◌, Bool, true, false, cond, ◌||◌, List, [], ◌∷◌, length, None, Ok, Err, refl, sym, ap, ap₂, subst, ◌∙◌, arith}
use Rattle.std.specs.Prelude.{Result, IfOk, unwrap_or, slice_get}
use Rattle.std.specs.Option.{option_or}
use Rattle.std.specs.List.{Contains, concat, filter, last_or}
use Rattle.std.specs.Str.{all_scalars}
use Rattle.std.proofs.lemmas.Bool.{cases_lt, lt-ltb, le-ltb, le-leb, ltb-true, leb-true, eq-eqb, eqb-true}
use Rattle.std.proofs.lemmas.Bool.Decides.{nat_tests}
use Rattle.cluster_core.specs.Boundaries.{clusters_in}
use Rattle.line_break.specs.Breaks.{cluster_ends, is_candidate, fits, piece_end, breaks_from, breaks_of}
use Rattle.line_break.specs.Test.{IsEndPast, IsFittingEnd, IsFittingCandidate, IsPieceEnd, AreBreaksFrom, AreBreaks}
use Rattle.line_break.proofs.ClusterLemmas.{clusters-whole}
use Rattle.line_break.proofs.EndLemmas.{IsRisingFrom, ends_from-rises, first_is, in_none, low-le, IsRisingFrom-filter, in_filter, from_filter, last_or-is, end-le, end-last}

-- ---- tests as facts

past_is : (start end : ℕ) → nat_lt start end ≡ true → start < end
past_is start end passes = ltb-true start end passes

is_past : (start end : ℕ) → start < end → nat_lt start end ≡ true
is_past start end lt = lt-ltb start end lt

fits_is : (n width : ℕ) → nat_le n width ≡ true → n ≤ width
fits_is n width passes = leb-true n width passes

is_fit : (n width : ℕ) → n ≤ width → nat_le n width ≡ true
is_fit n width le = le-leb n width le

candidate_is : (end len : ℕ) (b : Bool) → (end == len || b) ≡ true → (end ≡ len) ⊎ (b ≡ true)
candidate_is end len true passes = inr refl
candidate_is end len false passes = inl (eqb-true end len (sym (or_false (end == len)) ∙ passes))
  where
    or_false : (x : Bool) → (x || false) ≡ x
    or_false true = refl
    or_false false = refl

is_candidate_by : (end len : ℕ) (b : Bool) → (end ≡ len) ⊎ (b ≡ true) → (end == len || b) ≡ true
is_candidate_by end len b (inl same) = ap (λ x. x || b) (eq-eqb end len same)
is_candidate_by end len b (inr may) = ap (λ x. end == len || x) may ∙ or_true (end == len)
  where
    or_true : (x : Bool) → (x || true) ≡ true
    or_true true = refl
    or_true false = refl

-- ---- the end of a piece

module _ (width tab : ℕ) (line : List ℕ) (start : ℕ) where
  ahead-in : (end : ℕ) → IsEndPast line start end → Contains (filter (λ e. nat_lt start e) (cluster_ends line)) end
  ahead-in end is = in_filter (λ e. nat_lt start e) (cluster_ends line) end is.cluster (is_past start end is.past)

  ahead-out : (end : ℕ) → Contains (filter (λ e. nat_lt start e) (cluster_ends line)) end → IsEndPast line start end
  ahead-out end found =
      let both = from_filter (λ e. nat_lt start e) (cluster_ends line) end found in record { cluster = both.0; past = past_is start end both.1 }

  fitting-in : (end : ℕ) → IsFittingEnd width tab line start end →
      Contains (filter (fits width tab line start) (filter (λ e. nat_lt start e) (cluster_ends line))) end
  fitting-in end is = in_filter (fits width tab line start) _ end (ahead-in end is.end_past) (is_fit _ width is.fits)

  fitting-out : (end : ℕ) → Contains (filter (fits width tab line start) (filter (λ e. nat_lt start e) (cluster_ends line))) end →
      IsFittingEnd width tab line start end
  fitting-out end found =
      let both = from_filter (fits width tab line start) (filter (λ e. nat_lt start e) (cluster_ends line)) end found in
      record { end_past = ahead-out end both.0; fits = fits_is _ width both.1 }

  candidate-in : (end : ℕ) → IsFittingCandidate width tab line start end →
      Contains (filter (is_candidate line) (filter (fits width tab line start) (filter (λ e. nat_lt start e) (cluster_ends line)))) end
  candidate-in end is = in_filter (is_candidate line) _ end (fitting-in end is.fitting) (is_candidate_by end (length line) _ is.candidate)

  candidate-out : (end : ℕ) → Contains (filter (is_candidate line) (filter (fits width tab line start) (filter (λ e. nat_lt start e) (cluster_ends line)))) end →
      IsFittingCandidate width tab line start end
  candidate-out end found =
      let both = from_filter (is_candidate line) (filter (fits width tab line start) (filter (λ e. nat_lt start e) (cluster_ends line))) end found in
      record { fitting = fitting-out end both.0; candidate = candidate_is end (length line) _ both.1 }

  nothing_in : (xs ys : List ℕ) → xs ≡ ys → ys ≡ [] → (end : ℕ) → ¬ (Contains xs end)
  nothing_in xs ys same none end found = in_none end (subst (λ zs. Contains zs end) (same ∙ none) found)

  -- by what the filters leave
  chosen : (hs fs cs : List ℕ) →
      filter (λ e. nat_lt start e) (cluster_ends line) ≡ hs →
      filter (fits width tab line start) (filter (λ e. nat_lt start e) (cluster_ends line)) ≡ fs →
      filter (is_candidate line) (filter (fits width tab line start) (filter (λ e. nat_lt start e) (cluster_ends line))) ≡ cs →
      IsRisingFrom 0 hs → IsRisingFrom 0 fs → IsRisingFrom 0 cs → (0 < length hs) →
      IsPieceEnd width tab line start (unwrap_or (option_or (last_or None cs) (last_or (slice_get hs 0) fs)) (length line))
  chosen hs fs (c ∷ cs) is_ahead is_fitting is_cands rising_as rising_fs rising_cs some =
      let found = last_or-is c cs rising_cs.1 in
      subst (λ o. IsPieceEnd width tab line start (unwrap_or (option_or o (last_or (slice_get hs 0) fs)) (length line))) (sym found.is)
      (inl (record {
        is = candidate-out found.last (subst (λ zs. Contains zs found.last) (sym is_cands) found.inside);
        greatest = λ other passes. found.greatest other (subst (λ zs. Contains zs other) is_cands (candidate-in other passes));
      }))
  chosen hs (f ∷ fs) [] is_ahead is_fitting is_cands rising_as rising_fs rising_cs some =
      let found = last_or-is f fs rising_fs.1 in
      subst (λ o. IsPieceEnd width tab line start (unwrap_or o (length line))) (sym found.is)
      (inr (inl (
        λ other passes. nothing_in _ _ is_cands refl other (candidate-in other passes),
        record {
          is = fitting-out found.last (subst (λ zs. Contains zs found.last) (sym is_fitting) found.inside);
          greatest = λ other passes. found.greatest other (subst (λ zs. Contains zs other) is_fitting (fitting-in other passes));
        },
      )))
  chosen (a ∷ hs) [] [] is_ahead is_fitting is_cands rising_as rising_fs rising_cs some =
      inr (inr (
        λ other passes. nothing_in _ _ is_fitting refl other (fitting-in other passes),
        record {
          is = ahead-out a (subst (λ zs. Contains zs a) (sym is_ahead) (first_is a hs));
          least = λ other passes. low-le a (a ∷ hs) (let le : a ≤ a = omega arith in (le, rising_as.1)) other (subst (λ zs. Contains zs other) is_ahead (ahead-in other passes));
        },
      ))
  chosen [] [] [] is_ahead is_fitting is_cands rising_as rising_fs rising_cs some = absurd (omega arith)

  pub IsPieceEnd-piece_end : all_scalars line ≡ true → start < length line → IsPieceEnd width tab line start (piece_end width tab line start)
  IsPieceEnd-piece_end scalars inside =
      let whole = clusters-whole line scalars in
      let long = ap length whole in
      let sum : 0 + length (concat (clusters_in line)) ≡ length line = omega arith in
      let last : Contains (cluster_ends line) (length line) =
      subst (Contains (cluster_ends line)) sum (end-last 0 (clusters_in line) (omega arith)) in
      let found = ahead-in (length line) (record { cluster = last; past = inside }) in
      let rising = ends_from-rises 0 (clusters_in line) in
      let rising_ahead = IsRisingFrom-filter (λ e. nat_lt start e) 0 (cluster_ends line) rising in
      let rising_fitting = IsRisingFrom-filter (fits width tab line start) 0 _ rising_ahead in
      chosen _ _ _ refl refl refl rising_ahead rising_fitting (IsRisingFrom-filter (is_candidate line) 0 _ rising_fitting)
      (let lt = found.1 in omega arith)

  pub IsEndPast-piece : (end : ℕ) → IsPieceEnd width tab line start end → IsEndPast line start end
  IsEndPast-piece end (inl candidate) = candidate.is.fitting.end_past
  IsEndPast-piece end (inr (inl fitting)) = fitting.1.is.end_past
  IsEndPast-piece end (inr (inr first)) = first.1.is

  IsPieceEnd-same : (end other : ℕ) → IsPieceEnd width tab line start end → IsPieceEnd width tab line start other → end ≡ other
  IsPieceEnd-same end other (inl a) (inl b) = let one = a.greatest other b.is in let two = b.greatest end a.is in omega arith
  IsPieceEnd-same end other (inl a) (inr (inl b)) = absurd (b.0 end a.is)
  IsPieceEnd-same end other (inl a) (inr (inr b)) = absurd (b.0 end a.is.fitting)
  IsPieceEnd-same end other (inr (inl a)) (inl b) = absurd (a.0 other b.is)
  IsPieceEnd-same end other (inr (inl a)) (inr (inl b)) = let one = a.1.greatest other b.1.is in let two = b.1.greatest end a.1.is in omega arith
  IsPieceEnd-same end other (inr (inl a)) (inr (inr b)) = absurd (b.0 end a.1.is)
  IsPieceEnd-same end other (inr (inr a)) (inl b) = absurd (a.0 other b.is.fitting)
  IsPieceEnd-same end other (inr (inr a)) (inr (inl b)) = absurd (a.0 other b.1.is)
  IsPieceEnd-same end other (inr (inr a)) (inr (inr b)) = let one = a.1.least other b.1.is in let two = b.1.least end a.1.is in omega arith

-- what the rule says is the end of the piece
pub piece_end-by : (width tab : ℕ) (line : List ℕ) (start end : ℕ) → all_scalars line ≡ true → start < length line → IsPieceEnd width tab line start end →
    end ≡ piece_end width tab line start
piece_end-by width tab line start end scalars inside is =
    IsPieceEnd-same width tab line start end (piece_end width tab line start) is (IsPieceEnd-piece_end width tab line start scalars inside)

-- an end of a cluster is inside the line
pub IsEndPast-le : (line : List ℕ) (start end : ℕ) → all_scalars line ≡ true → IsEndPast line start end → end ≤ length line
IsEndPast-le line start end scalars is =
    let le = end-le 0 (clusters_in line) end is.cluster in
    let long = ap length (clusters-whole line scalars) in omega arith

-- ---- the breaks of a line

AreBreaksFrom-same : (width tab : ℕ) (line : List ℕ) (start : ℕ) (ends others : List ℕ) →
    AreBreaksFrom width tab line start ends → AreBreaksFrom width tab line start others → ends ≡ others
AreBreaksFrom-same width tab line start [] [] are too = refl
AreBreaksFrom-same width tab line start [] (other ∷ others) are too = let lt = too.0 in absurd (omega arith)
AreBreaksFrom-same width tab line start (end ∷ ends) [] are too = let lt = are.0 in absurd (omega arith)
AreBreaksFrom-same width tab line start (end ∷ ends) (other ∷ others) are too =
    let same = IsPieceEnd-same width tab line start end other are.1 too.1 in
    ap₂ (λ (n : ℕ) (ns : List ℕ). n ∷ ns) same
    (AreBreaksFrom-same width tab line other ends others (subst (λ n. AreBreaksFrom width tab line n ends) same are.2) too.2)

pub AreBreaks-same : (width tab : ℕ) (line ends others : List ℕ) → AreBreaks width tab line ends → AreBreaks width tab line others → ends ≡ others
AreBreaks-same width tab [] ends others are too = are ∙ sym too
AreBreaks-same zero tab (c ∷ line) ends others are too = are ∙ sym too
AreBreaks-same (suc width) tab (c ∷ line) ends others are too = AreBreaksFrom-same (suc width) tab (c ∷ line) 0 ends others are too

breaks_from-pass : (width tab : ℕ) (line : List ℕ) (start bound : ℕ) → all_scalars line ≡ true → start ≤ length line → length line ≤ start + bound →
    AreBreaksFrom width tab line start (breaks_from width tab line start bound)
breaks_from-pass width tab line start zero scalars low high = omega arith
breaks_from-pass width tab line start (suc bound) scalars low high = ⊎_elim
    (λ lt. let is = IsPieceEnd-piece_end width tab line start scalars lt in
    let end = IsEndPast-piece width tab line start (piece_end width tab line start) is in
    let le = IsEndPast-le line start (piece_end width tab line start) scalars end in
    let past = end.past in
    subst (λ b. AreBreaksFrom width tab line start (cond b (piece_end width tab line start ∷ breaks_from width tab line (piece_end width tab line start) bound) []))
    (sym (lt-ltb start (length line) lt))
    (lt, is, breaks_from-pass width tab line (piece_end width tab line start) bound scalars le (omega arith)))
    (λ ge. let same : start ≡ length line = omega arith in
    subst (λ b. AreBreaksFrom width tab line start (cond b (piece_end width tab line start ∷ breaks_from width tab line (piece_end width tab line start) bound) []))
    (sym (le-ltb start (length line) ge)) same)
    (cases_lt start (length line))

cut_line : (width len : ℕ) → (suc width == 0 || suc len == 0) ≡ false
cut_line width len = grind (arith, nat_tests)

pub breaks_of-pass : (width tab : ℕ) (line : List ℕ) → all_scalars line ≡ true → AreBreaks width tab line (breaks_of width tab line)
breaks_of-pass width tab [] scalars = ap (λ b. cond b (0 ∷ []) []) (or_true (width == 0))
  where
    or_true : (x : Bool) → (x || true) ≡ true
    or_true true = refl
    or_true false = refl
breaks_of-pass zero tab (c ∷ line) scalars = refl
breaks_of-pass (suc width) tab (c ∷ line) scalars =
    subst (λ b. AreBreaksFrom (suc width) tab (c ∷ line) 0 (cond b (length (c ∷ line) ∷ []) (breaks_from (suc width) tab (c ∷ line) 0 (length (c ∷ line)))))
    (sym (cut_line width (length line))) (breaks_from-pass (suc width) tab (c ∷ line) 0 (length (c ∷ line)) scalars (omega arith) (omega arith))

pub AreBreaks-narrow : (width tab : ℕ) (line ends : List ℕ) → width ≡ 0 → ends ≡ length line ∷ [] → AreBreaks width tab line ends
AreBreaks-narrow width tab [] ends none is = is
AreBreaks-narrow zero tab (c ∷ line) ends none is = is
AreBreaks-narrow (suc width) tab (c ∷ line) ends none is = absurd (omega arith)

pub AreBreaks-empty : (width tab : ℕ) (line ends : List ℕ) → length line ≡ 0 → ends ≡ length line ∷ [] → AreBreaks width tab line ends
AreBreaks-empty width tab [] ends none is = is
AreBreaks-empty width tab (c ∷ line) ends none is = absurd (omega arith)

pub AreBreaks-cut : (width tab : ℕ) (line ends : List ℕ) → 0 < width → 0 < length line → AreBreaksFrom width tab line 0 ends → AreBreaks width tab line ends
AreBreaks-cut width tab [] ends wide some are = absurd (omega arith)
AreBreaks-cut zero tab (c ∷ line) ends wide some are = absurd (omega arith)
AreBreaks-cut (suc width) tab (c ∷ line) ends wide some are = are

-- breaks that pass the test are those that a layout computes with
pub AreBreaks-value : (width tab : ℕ) (line ends : List ℕ) → all_scalars line ≡ true → AreBreaks width tab line ends → ends ≡ breaks_of width tab line
AreBreaks-value width tab line ends scalars are = AreBreaks-same width tab line ends (breaks_of width tab line) are (breaks_of-pass width tab line scalars)

-- one piece more, where the next ones begin at its end
pub AreBreaksFrom-more : (width tab : ℕ) (line : List ℕ) (start end : ℕ) (ends : List ℕ) → all_scalars line ≡ true → start < end → end ≤ length line →
    end ≡ piece_end width tab line start → AreBreaksFrom width tab line end ends → AreBreaksFrom width tab line start (end ∷ ends)
AreBreaksFrom-more width tab line start end ends scalars past within is are =
    let inside : start < length line = omega arith in
    (inside, subst (IsPieceEnd width tab line start) (sym is) (IsPieceEnd-piece_end width tab line start scalars inside), are)

-- what holds of a list of ends makes something else hold
pub IfOk-more : {X Y : Type 0} (P Q : X → Type 0) (r : Result X Y) → ((x : X) → P x → Q x) → IfOk r P → IfOk r Q
IfOk-more P Q (Ok x) more is = more x is
IfOk-more P Q (Err y) more is = tt
