-- A boundary of a line is a place where the rule of grapheme clusters breaks it.
use Rattle.std.proofs.Common.{◌≡◌, ◌⊎◌, inl, inr, ⊎_elim, ℕ, zero, suc, ◌+◌, ◌≤◌, Bool, true, false, List, [], ◌∷◌, ◌++◌, map, reverse, length, take, drop, refl, sym, ap, ap₂, subst, ◌∙◌, arith, append_assoc, append-nil, length-append, length-take-le, zero-add, take_at, drop_at, cond}
use Rattle.std.specs.List.{Contains}
use Rattle.std.specs.Prelude.{encode_utf8, encode_utf8_all}
use Rattle.std.specs.Str.{chars, IsUtf8, IsCharBoundary}
use Rattle.std.proofs.lemmas.List.{take-append-drop, reverse-append}
use Rattle.std.proofs.lemmas.List.Elements.{Contains-append_right}
use Rattle.std.proofs.lemmas.Str.{chars-append, encodes-append, encodes-chars, chars_from_encodes, IsUtf8-take, IsUtf8-drop, IsUtf8-past_char, IsCharBoundary-start, IsCharBoundary-end, IsCharBoundary-at_seam}
use Rattle.unicode_segmentation.specs.Grapheme.{is_grapheme_break}
use Rattle.unicode_segmentation.specs.Segments.{Rule, chars_before, chars_from, breaks_at, cut, segments}
use Rattle.unicode_segmentation.proofs.CursorLemmas.{breaks_at-start, breaks_at-end}
use Rattle.unicode_segmentation.proofs.SegmentsLemmas.{attach}
use Rattle.cluster_core.proofs.RisingLemmas.{first_or_later}
use Rattle.cluster_core.specs.Boundaries.{ends_from, ends_of, IsBoundary}

-- the ends of the pieces into which the rule cuts the characters after `before`, which begin at `at`
abbrev ends_after : Rule → ℕ → List ℕ → List ℕ → List ℕ
ends_after rule at before cs = ends_from at (map encode_utf8_all (cut rule before cs []))

-- the characters of cs in reverse, and then `before`
abbrev pub onto : List ℕ → List ℕ → List ℕ
onto [] before = before
onto (c ∷ cs) before = onto cs (c ∷ before)

-- the rule breaks the characters after `before` at this offset, past the first of them
record IsBreakIn (rule : Rule) (at : ℕ) (before cs : List ℕ) (end : ℕ) : Type 0 where
  pub front : List ℕ
  pub back : List ℕ
  pub parts : cs ≡ front ++ back
  pub place : at + length (encode_utf8_all front) ≡ end
  pub breaks : rule (onto front before) back ≡ true

-- a piece of one character, as a piece of its own or as the front of the first
ends_from-attach : (is_break : Bool) (at c : ℕ) (pieces : List (List ℕ)) → (pieces ≡ [] → is_break ≡ true)
    → ends_from at (map encode_utf8_all (attach is_break (c ∷ []) pieces))
    ≡ cond is_break ((at + length (encode_utf8 c)) ∷ ends_from (at + length (encode_utf8 c)) (map encode_utf8_all pieces))
    (ends_from (at + length (encode_utf8 c)) (map encode_utf8_all pieces))
ends_from-attach true at c pieces last =
    ap (λ bs. (at + length bs) ∷ ends_from (at + length bs) (map encode_utf8_all pieces)) (append-nil (encode_utf8 c))
ends_from-attach false at c [] last = let broken = last refl in cc
ends_from-attach false at c (piece ∷ pieces) last =
    let long : at + length (encode_utf8 c ++ encode_utf8_all piece) ≡ at + length (encode_utf8 c) + length (encode_utf8_all piece) =
    omega (arith, length-append (encode_utf8 c) (encode_utf8_all piece)) in
    ap (λ n. n ∷ ends_from n (map encode_utf8_all pieces)) long

pub cut_nonempty : (rule : Rule) (before cs : List ℕ) (c : ℕ) → cut rule before (c ∷ cs) [] ≡ [] → ⊥
unfolding cut
cut_nonempty rule before cs c none = attached (rule (c ∷ before) (cs ++ [])) (cut rule (c ∷ before) cs []) none
  where
    attached : (is_break : Bool) (pieces : List (List ℕ)) → attach is_break (c ∷ []) pieces ≡ [] → ⊥
    attached true pieces e = cc
    attached false [] e = cc
    attached false (piece ∷ pieces) e = cc

module _ (rule : Rule) (stops : (before : List ℕ) → rule before [] ≡ true) where
  -- the ends, by the first character
  ends_after-step : (at : ℕ) (before cs : List ℕ) (c : ℕ) → ends_after rule at before (c ∷ cs)
      ≡ cond (rule (c ∷ before) cs) ((at + length (encode_utf8 c)) ∷ ends_after rule (at + length (encode_utf8 c)) (c ∷ before) cs)
      (ends_after rule (at + length (encode_utf8 c)) (c ∷ before) cs)
  unfolding cut
  ends_after-step at before cs c =
      ends_from-attach (rule (c ∷ before) (cs ++ [])) at c (cut rule (c ∷ before) cs []) (last cs)
      ∙ ap (λ rest. cond (rule (c ∷ before) rest) ((at + length (encode_utf8 c)) ∷ ends_after rule (at + length (encode_utf8 c)) (c ∷ before) cs)
      (ends_after rule (at + length (encode_utf8 c)) (c ∷ before) cs)) (append-nil cs)
    where
      last : (rest : List ℕ) → cut rule (c ∷ before) rest [] ≡ [] → rule (c ∷ before) (rest ++ []) ≡ true
      last [] none = stops (c ∷ before)
      last (d ∷ rest) none = absurd (cut_nonempty rule (c ∷ before) rest d none)

  -- what comes first breaks there, or comes later
  broken_or_later : (is_break : Bool) (end other : ℕ) (ends : List ℕ) → Contains (cond is_break (end ∷ ends) ends) other
      → ((is_break ≡ true) × (end ≡ other)) ⊎ Contains ends other
  broken_or_later true end other ends at = ⊎_elim (λ here. inl (refl, here)) (λ past. inr past) (first_or_later end ends other at)
  broken_or_later false end other ends at = inr at

  later_too : (is_break : Bool) (end other : ℕ) (ends : List ℕ) → Contains ends other → Contains (cond is_break (end ∷ ends) ends) other
  later_too true end other ends at = Contains-append_right (end ∷ []) ends other at
  later_too false end other ends at = at

  -- an end is a place where the rule breaks, and the other way round
  IsBreakIn-from_end : (at : ℕ) (before cs : List ℕ) (end : ℕ) → Contains (ends_after rule at before cs) end → IsBreakIn rule at before cs end
  unfolding cut
  IsBreakIn-from_end at before [] end (k, lt, is) = absurd (omega arith)
  IsBreakIn-from_end at before (c ∷ cs) end found =
      let next = at + length (encode_utf8 c) in
      ⊎_elim
      (λ here. record {
        front = c ∷ [];
        back = cs;
        parts = refl;
        place = ap (λ bs. at + length bs) (append-nil (encode_utf8 c)) ∙ here.1;
        breaks = here.0;
      })
      (λ later. let rest = IsBreakIn-from_end next (c ∷ before) cs end later in record {
        front = c ∷ rest.front;
        back = rest.back;
        parts = ap (λ t. c ∷ t) rest.parts;
        place = let p = rest.place in omega (arith, length-append (encode_utf8 c) (encode_utf8_all rest.front));
        breaks = rest.breaks;
      })
      (broken_or_later (rule (c ∷ before) cs) next end (ends_after rule next (c ∷ before) cs)
      (subst (λ ends. Contains ends end) (ends_after-step at before cs c) found))

  end_from_break : (at : ℕ) (before front back : List ℕ) (c : ℕ) → rule (onto (c ∷ front) before) back ≡ true
      → Contains (ends_after rule at before (c ∷ front ++ back)) (at + length (encode_utf8_all (c ∷ front)))
  end_from_break at before [] back c breaks =
      let next = at + length (encode_utf8 c) in
      let end : at + length (encode_utf8_all (c ∷ [])) ≡ next = ap (λ bs. at + length bs) (append-nil (encode_utf8 c)) in
      rw (end, ends_after-step at before back c, breaks) (0, omega arith, refl)
  end_from_break at before (d ∷ front) back c breaks =
      let next = at + length (encode_utf8 c) in
      let end : next + length (encode_utf8_all (d ∷ front)) ≡ at + length (encode_utf8_all (c ∷ d ∷ front)) =
      omega (arith, length-append (encode_utf8 c) (encode_utf8_all (d ∷ front))) in
      subst (Contains (ends_after rule at before (c ∷ d ∷ front ++ back))) end
      (rw (ends_after-step at before (d ∷ front ++ back) c)
      (later_too (rule (c ∷ before) (d ∷ front ++ back)) next _ _ (end_from_break next (c ∷ before) front back d breaks)))

abbrev pub cluster_rule : Rule
cluster_rule = is_grapheme_break true

pub cluster_rule-stops : (before : List ℕ) → cluster_rule before [] ≡ true
unfolding is_grapheme_break
cluster_rule-stops [] = refl
cluster_rule-stops (c ∷ before) = refl

pub onto-reverse : (cs before : List ℕ) → onto cs (reverse before) ≡ reverse (before ++ cs)
onto-reverse [] before = ap reverse (sym (append-nil before))
onto-reverse (c ∷ cs) before =
    ap (onto cs) (sym (reverse-append before (c ∷ []))) ∙ onto-reverse cs (before ++ c ∷ []) ∙ ap reverse (append_assoc before (c ∷ []) cs)

pub IsUtf8-past : (cs rest : List ℕ) → IsUtf8 (encode_utf8_all cs ++ rest) → IsUtf8 rest
IsUtf8-past [] rest u = u
IsUtf8-past (c ∷ cs) rest u = IsUtf8-past cs rest (IsUtf8-past_char _ _ c u (append_assoc (encode_utf8 c) (encode_utf8_all cs) rest))

-- the line is cut between characters, and the rule breaks it there
pub record IsBreakOf (line : List ℕ) (at : ℕ) : Type 0 where
  pub place : IsCharBoundary line at
  pub breaks : breaks_at (is_grapheme_break true) line at ≡ true

module _ (line : List ℕ) (u : IsUtf8 line) where
  IsBreakOf-start : IsBreakOf line 0
  IsBreakOf-start = record { place = IsCharBoundary-start line u; breaks = sym (breaks_at-start true line 0 refl) }

  IsBreakOf-parts : (at : ℕ) → IsBreakIn cluster_rule 0 [] (chars line) at → IsBreakOf line at
  IsBreakOf-parts at h =
      let front = encode_utf8_all h.front in
      let back = encode_utf8_all h.back in
      let bytes : line ≡ front ++ back = sym (encodes-chars line u) ∙ ap encode_utf8_all h.parts ∙ encodes-append h.front h.back in
      let rest : IsUtf8 back = IsUtf8-past h.front back (subst IsUtf8 bytes u) in
      let cut_here : IsCharBoundary line (length front) = IsCharBoundary-at_seam line front back bytes rest in
      let left : take (length front) line ≡ front = ap (take (length front)) bytes ∙ take_at front back (length front) refl in
      let right : drop (length front) line ≡ back = ap (drop (length front)) bytes ∙ drop_at front back (length front) refl in
      let before : chars_before line (length front) ≡ onto h.front [] =
      ap (λ bs. reverse (chars bs)) left
      ∙ ap reverse (sym (chars_from_encodes h.front front (subst IsUtf8 left (IsUtf8-take line (length front) u cut_here)) refl))
      ∙ sym (onto-reverse h.front []) in
      let after : chars_from line (length front) ≡ h.back = ap chars right ∙ sym (chars_from_encodes h.back back rest refl) in
      subst (IsBreakOf line) (sym (zero-add (length front)) ∙ h.place) (record { place = cut_here; breaks = ap₂ cluster_rule before after ∙ h.breaks })

  pub IsBreakOf-from_boundary : (at : ℕ) → IsBoundary line at → IsBreakOf line at
  unfolding segments
  IsBreakOf-from_boundary at found =
      ⊎_elim (λ start. subst (IsBreakOf line) start IsBreakOf-start)
      (λ end. IsBreakOf-parts at (IsBreakIn-from_end cluster_rule cluster_rule-stops 0 [] (chars line) at end))
      (first_or_later 0 (ends_of line) at found)

  pub IsBoundary-from_break : (at : ℕ) → IsCharBoundary line at → breaks_at (is_grapheme_break true) line at ≡ true → IsBoundary line at
  unfolding segments
  IsBoundary-from_break zero place breaks = (0, omega arith, refl)
  IsBoundary-from_break (suc k) place breaks =
      let at = suc k in
      let left = IsUtf8-take line at u place in
      let right = IsUtf8-drop line at u place in
      let parts : chars line ≡ chars (take at line) ++ chars (drop at line) =
      ap chars (sym (take-append-drop at line)) ∙ chars-append (take at line) (drop at line) left in
      let long : length (encode_utf8_all (chars (take at line))) ≡ at =
      ap length (encodes-chars (take at line) left) ∙ length-take-le at line place.0 in
      Contains-append_right (0 ∷ []) (ends_of line) at
      (rw parts (ends (chars (take at line)) (chars (drop at line)) long (ap (λ before. cluster_rule before (chars (drop at line))) (onto-reverse (chars (take at line)) []) ∙ breaks)))
    where
      ends : (front back : List ℕ) → length (encode_utf8_all front) ≡ suc k → cluster_rule (onto front []) back ≡ true
          → Contains (ends_after cluster_rule 0 [] (front ++ back)) (suc k)
      ends [] back long breaks = absurd (omega arith)
      ends (c ∷ front) back long breaks =
          subst (Contains (ends_after cluster_rule 0 [] (c ∷ front ++ back))) (zero-add _ ∙ long)
          (end_from_break cluster_rule cluster_rule-stops 0 [] front back c breaks)

  -- the line's end is the last boundary
  pub IsBoundary-end : IsBoundary line (length line)
  IsBoundary-end = IsBoundary-from_break (length line) (IsCharBoundary-end line) (sym (breaks_at-end true line (length line) refl))

  pub boundary-le-length : (at : ℕ) → IsBoundary line at → at ≤ length line
  boundary-le-length at found = (IsBreakOf-from_boundary at found).place.0
