-- Lemmas on a line end: it takes no room.
use Rattle.std.proofs.Common.{◌≡◌, ◌⊎◌, inl, inr, ⊎_elim, ℕ, zero, suc, ◌+◌, ◌-◌, ◌<◌, ◌≤◌, ◌==◌, ◌&&◌, cond, true, List, [], ◌∷◌, ◌++◌, length, reverse, take, drop, refl, sym, ap, ap₂, subst, ◌∙◌, arith, append_assoc, length-append}
use Rattle.std.specs.Prelude.{slice_index, slice_range}
use Rattle.std.specs.List.{Contains, concat, fold}
use Rattle.std.specs.Str.{all_scalars}
use Rattle.std.proofs.lemmas.Bool.{cases_Bool, eqb-true}
use Rattle.std.proofs.lemmas.List.{get_or_append_left, take-append-drop, take-append-le, drop-append-le, take_all, reverse-append, reverse-reverse, length-drop}
use Rattle.std.proofs.lemmas.List.Elements.{Contains-append_left, Contains-append_right, Contains-append_cases}
use Rattle.std.proofs.lemmas.List.Folds.{list_all-append}
use Rattle.unicode_segmentation.proofs.TextLemmas.{length-slice_range}
use Rattle.cluster_core.specs.Boundaries.{clusters_in, ends_from}
use Rattle.cluster_core.specs.Columns.{column_after, clipped, columns_between}
use Rattle.cluster_core.proofs.ForCallers.{clusters-feed, clusters-return_feed}
use Rattle.line_break.specs.Breaks.{cluster_ends, is_breaking, past_return, past_line_end, past_blanks, shown_len, piece_columns, breaks_of}
use Rattle.line_break.specs.LineEnds.{EndsIn, IsLineEnd, EachClusterFits}
use Rattle.line_break.specs.Pieces.{EachPiece}
use Rattle.line_break.specs.Test.{IsFittingEnd, IsFittingCandidate, IsPieceEnd, AreBreaksFrom, AreBreaks}
use Rattle.line_break.proofs.ClusterLemmas.{clusters-whole, clusters-some}
use Rattle.line_break.proofs.ColumnLemmas.{clipped-append, clipped-past, fold-append, columns-none}
use Rattle.line_break.proofs.EndLemmas.{NoneEmpty, IsRisingFrom, first_is, first_or_later, later_is, in_none, low-le, ends_from-rises, end-le, end-last}
use Rattle.line_break.proofs.TailLemmas.{past_return-other, shown-le-solid, solid_len-le}
use Rattle.line_break.proofs.TestLemmas.{IsEndPast-le, IsEndPast-piece, AreBreaks-narrow, AreBreaks-cut, AreBreaks-value, breaks_of-pass}

-- ---- what is shown before a line end

past_line_end-other : (text : List ℕ) → ((rest : List ℕ) → text ≡ 10 ∷ rest → ⊥) → past_line_end text ≡ text
past_line_end-other [] other = refl
past_line_end-other (c ∷ text) other = ⊎_elim
    (λ feed. absurd (other text (ap (λ d. d ∷ text) (eqb-true c 10 feed))))
    (λ another. ap (λ b. cond b (past_return text) (c ∷ text)) another)
    (cases_Bool (c == 10))

-- the characters read from the back begin with what they end in
from_back : (text rest : List ℕ) (c : ℕ) → reverse text ≡ c ∷ rest → EndsIn c text
from_back text rest c is = (reverse rest, sym (reverse-reverse text) ∙ ap reverse is ∙ reverse-append (c ∷ []) rest)

-- a text that a line ends in ends as it does
EndsIn-more : (front text : List ℕ) (c : ℕ) → EndsIn c text → EndsIn c (front ++ text)
EndsIn-more front text c is = (front ++ is.0, ap (λ t. front ++ t) is.1 ∙ sym (append_assoc front is.0 (c ∷ [])))

shown-no_feed : (text : List ℕ) → ¬ EndsIn 10 text → shown_len text ≡ past_blanks (reverse text)
shown-no_feed text other = ap past_blanks (past_line_end-other (reverse text) (λ rest is. other (from_back text rest 10 is)))

shown-with_end : (text end : List ℕ) → IsLineEnd text end → shown_len (text ++ end) ≡ shown_len text
shown-with_end text end (other, kind) =
    ap (λ t. past_blanks (past_line_end t)) (reverse-append text end) ∙ by kind ∙ sym (shown-no_feed text other)
  where
    by : ((end ≡ 10 ∷ []) × ¬ EndsIn 13 text) ⊎ (end ≡ 13 ∷ 10 ∷ []) → past_blanks (past_line_end (reverse end ++ reverse text)) ≡ past_blanks (reverse text)
    by (inl feed) =
        ap (λ e. past_blanks (past_line_end (reverse e ++ reverse text))) feed.0 ∙
        ap past_blanks (past_return-other (reverse text) (λ rest is. feed.1 (from_back text rest 13 is)))
    by (inr both) = ap (λ e. past_blanks (past_line_end (reverse e ++ reverse text))) both

-- ---- each cluster alone

-- what holds of the first piece, and of each later one, holds of a start and the least end past it
first-least : (P : ℕ → ℕ → Type 0) (at next : ℕ) (later : List ℕ) → at < next → IsRisingFrom next later → P at next → (start stop : ℕ) →
    ((next ≡ start) ⊎ Contains later start → Contains later stop → ((other : ℕ) → Contains later other → start < other → stop ≤ other) → P start stop) →
    (at ≡ start) ⊎ Contains (next ∷ later) start → Contains (next ∷ later) stop → start < stop →
    ((other : ℕ) → Contains (next ∷ later) other → start < other → stop ≤ other) → P start stop
first-least P at next later longer rising own start stop again (inl same) is past least =
    let le = least next (first_is next later) (omega arith) in
    let ge : next ≤ stop = ⊎_elim (λ first. omega arith) (low-le next later rising stop) (first_or_later next later stop is) in
    let here : next ≡ stop = omega arith in
    subst (λ n. P n stop) same (subst (P at) here own)
first-least P at next later longer rising own start stop again (inr found) is past least =
    let begins = first_or_later next later start found in
    let le : next ≤ start = ⊎_elim (λ here. omega arith) (low-le next later rising start) begins in
    again begins (⊎_elim (λ first. absurd (omega arith)) (λ there. there) (first_or_later next later stop is))
    (λ other there more. least other (later_is next later other there) more)

-- the first end past a gap where a cluster begins ends that cluster
each-least : (P : ℕ → ℕ → Type 0) (at : ℕ) (pieces : List (List ℕ)) → NoneEmpty pieces → EachPiece P at (ends_from at pieces) → (start stop : ℕ) →
    (at ≡ start) ⊎ Contains (ends_from at pieces) start → Contains (ends_from at pieces) stop → start < stop →
    ((other : ℕ) → Contains (ends_from at pieces) other → start < other → stop ≤ other) → P start stop
each-least P at [] full each start stop begins is past least = absurd (in_none stop is)
each-least P at (piece ∷ pieces) full each start stop begins is past least =
    first-least P at (at + length piece) (ends_from (at + length piece) pieces) (let some = full.0 in omega arith) (ends_from-rises (at + length piece) pieces) each.0
    start stop (λ here there below. each-least P (at + length piece) pieces full.1 each.1 start stop here there past below) begins is past least

ends_from-append : (at : ℕ) (front back : List (List ℕ)) → ends_from at (front ++ back) ≡ ends_from at front ++ ends_from (at + length (concat front)) back
ends_from-append at [] back = let same : at ≡ at + 0 = omega arith in ap (λ n. ends_from n back) same
ends_from-append at (piece ∷ front) back =
    let sum : at + length piece + length (concat front) ≡ at + length (piece ++ concat front) = omega (arith, length-append piece (concat front)) in
    ap (λ es. (at + length piece) ∷ es)
    (ends_from-append (at + length piece) front back ∙ ap (λ n. ends_from (at + length piece) front ++ ends_from n back) sum)

-- ---- a line with a line end

clusters-with_end : (line end : List ℕ) → all_scalars line ≡ true → IsLineEnd line end → clusters_in (line ++ end) ≡ clusters_in line ++ end ∷ []
clusters-with_end line end scalars (other, inl feed) =
    subst (λ e. clusters_in (line ++ e) ≡ clusters_in line ++ e ∷ []) (sym feed.0)
    (clusters-feed line scalars (λ before is. feed.1 (before, is)))
clusters-with_end line end scalars (other, inr both) =
    subst (λ e. clusters_in (line ++ e) ≡ clusters_in line ++ e ∷ []) (sym both) (clusters-return_feed line scalars)

end-scalars : (text end : List ℕ) → IsLineEnd text end → all_scalars end ≡ true
end-scalars text end (other, inl feed) = ap all_scalars feed.0
end-scalars text end (other, inr both) = ap all_scalars both

some_end : (text end : List ℕ) → IsLineEnd text end → 0 < length end
some_end text end (other, inl feed) = let long = ap length feed.0 in omega arith
some_end text end (other, inr both) = let long = ap length both in omega arith

module _ (width tab : ℕ) (line end : List ℕ) (scalars : all_scalars line ≡ true) (is_end : IsLineEnd line end) where
  abbrev full : List ℕ
  full = line ++ end

  long : length full ≡ length line + length end
  long = length-append line end

  longer : length line < length full
  longer = let some = some_end line end is_end in omega (arith, long)

  full_scalars : all_scalars full ≡ true
  full_scalars = list_all-append _ line end ∙ ap₂ (λ a b. a && b) scalars (end-scalars line end is_end)

  parts : clusters_in full ≡ clusters_in line ++ end ∷ []
  parts = clusters-with_end line end scalars is_end

  whole : 0 + length (concat (clusters_in line)) ≡ length line
  whole = let same = ap length (clusters-whole line scalars) in omega arith

  ends-full : cluster_ends full ≡ cluster_ends line ++ length full ∷ []
  ends-full =
      ap (ends_from 0) parts ∙ ends_from-append 0 (clusters_in line) (end ∷ []) ∙
      ap (λ n. cluster_ends line ++ (n + length end) ∷ []) whole ∙ ap (λ n. cluster_ends line ++ n ∷ []) (sym long)

  end-of_line : (stop : ℕ) → Contains (cluster_ends full) stop → Contains (cluster_ends line) stop ⊎ (stop ≡ length full)
  end-of_line stop found = ⊎_elim inl (λ last. inr (only last)) (Contains-append_cases (cluster_ends line) (length full ∷ []) stop (subst (λ es. Contains es stop) ends-full found))
    where
      only : Contains (length full ∷ []) stop → stop ≡ length full
      only (zero, lt, is) = sym is
      only (suc k, lt, is) = absurd (omega arith)

  end-kept : (stop : ℕ) → Contains (cluster_ends line) stop → Contains (cluster_ends full) stop
  end-kept stop found = subst (λ es. Contains es stop) (sym ends-full) (Contains-append_left (cluster_ends line) (length full ∷ []) stop found)

  end-within : (stop : ℕ) → Contains (cluster_ends line) stop → stop ≤ length line
  end-within stop found = let le = end-le 0 (clusters_in line) stop found in omega (arith, whole)

  columns-kept : (from to : ℕ) → to ≤ length line → columns_between tab full from to ≡ columns_between tab line from to
  columns-kept from to within =
      let columns : ℕ → List (List ℕ) → ℕ = fold (column_after tab) in
      ap (λ cs. columns 0 (clipped from to 0 cs)) parts ∙
      ap (columns 0) (clipped-append from to 0 (clusters_in line) (end ∷ [])) ∙
      fold-append tab 0 (clipped from to 0 (clusters_in line)) (clipped from to (0 + length (concat (clusters_in line))) (end ∷ [])) ∙
      clipped-past tab (columns 0 (clipped from to 0 (clusters_in line))) from to (0 + length (concat (clusters_in line))) (end ∷ []) (omega (arith, whole))

  -- ---- pieces of both

  slice-kept : (from to : ℕ) → from ≤ to → to ≤ length line → slice_range full from to ≡ slice_range line from to
  slice-kept from to rises within =
      ap (take (to - from)) (drop-append-le from line end (omega arith)) ∙
      take-append-le (to - from) (drop from line) end (omega (arith, length-drop from line))

  shown-within : (from to : ℕ) → from ≤ to → to ≤ length line → from + shown_len (slice_range line from to) ≤ to
  shown-within from to rises within =
      omega (
        arith,
        shown-le-solid (slice_range line from to),
        solid_len-le (slice_range line from to),
        length-slice_range line from to within,
      )

  columns-of_piece : (from to : ℕ) → from ≤ to → to ≤ length line → piece_columns tab full from to ≡ piece_columns tab line from to
  columns-of_piece from to rises within =
      ap (λ t. columns_between tab full from (from + shown_len t)) (slice-kept from to rises within) ∙
      columns-kept from (from + shown_len (slice_range line from to)) (omega (arith, shown-within from to rises within))

  columns-of_last : (from : ℕ) → from ≤ length line → piece_columns tab full from (length full) ≡ piece_columns tab line from (length line)
  columns-of_last from within =
      let last : List ℕ = slice_range line from (length line) in
      let all : slice_range full from (length full) ≡ last ++ end =
      ap (take (length full - from)) (drop-append-le from line end within) ∙
      take_all (length full - from) (drop from line ++ end) (omega (arith, long, length-append (drop from line) end, length-drop from line)) ∙
      ap (λ t. t ++ end) (sym (take_all (length line - from) (drop from line) (omega (arith, length-drop from line)))) in
      let cut : line ≡ take from line ++ last =
      sym (take-append-drop from line) ∙
      ap (λ t. take from line ++ t) (sym (take_all (length line - from) (drop from line) (omega (arith, length-drop from line)))) in
      let shown : shown_len (slice_range full from (length full)) ≡ shown_len last =
      ap shown_len all ∙ shown-with_end last end (last_end last (take from line) cut is_end) in
      ap (λ n. columns_between tab full from (from + n)) shown ∙
      columns-kept from (from + shown_len last) (omega (arith, shown-within from (length line) within (omega arith)))
    where
      ends_too : (last front : List ℕ) (c : ℕ) → line ≡ front ++ last → ¬ EndsIn c line → ¬ EndsIn c last
      ends_too last front c cut other is = other (subst (EndsIn c) (sym cut) (EndsIn-more front last c is))

      last_end : (last front : List ℕ) → line ≡ front ++ last → IsLineEnd line end → IsLineEnd last end
      last_end last front cut (other, inl feed) = (ends_too last front 10 cut other, inl (feed.0, ends_too last front 13 cut feed.1))
      last_end last front cut (other, inr both) = (ends_too last front 10 cut other, inr both)

  breaking-kept : (stop : ℕ) → 0 < stop → stop ≤ length line → is_breaking (slice_index full (stop - 1)) ≡ is_breaking (slice_index line (stop - 1))
  breaking-kept stop some within = ap is_breaking (get_or_append_left line end 0 (stop - 1) (omega arith))

  -- ---- where pieces end

  -- a fitting end of the longer line is one of the line; its own end is the line's
  fitting-back : (start stop : ℕ) → IsFittingEnd width tab full start stop → start < length line →
      ((stop ≤ length line) × IsFittingEnd width tab line start stop) ⊎ (IsFittingEnd width tab line start (length line) × (stop ≡ length full))
  fitting-back start stop is inside = ⊎_elim
      (λ own. let within = end-within stop own in let past = is.end_past.past in
      inl (
        within,
        record {
          end_past = record { cluster = own; past = past };
          fits = subst (λ n. n ≤ width) (columns-of_piece start stop (omega arith) within) is.fits;
        },
      ))
      (λ last. inr (
        record {
          end_past = record { cluster = last_end; past = inside };
          fits = subst (λ n. n ≤ width) (ap (piece_columns tab full start) last ∙ columns-of_last start (omega arith)) is.fits;
        },
        last,
      ))
      (end-of_line stop is.end_past.cluster)
    where
      last_end : Contains (cluster_ends line) (length line)
      last_end = subst (Contains (cluster_ends line)) whole (end-last 0 (clusters_in line) (omega (arith, whole)))

  fitting-on : (start stop : ℕ) → IsFittingEnd width tab line start stop → IsFittingEnd width tab full start stop
  fitting-on start stop is =
      let within = end-within stop is.end_past.cluster in
      let past = is.end_past.past in
      record {
        end_past = record { cluster = end-kept stop is.end_past.cluster; past = past };
        fits = subst (λ n. n ≤ width) (sym (columns-of_piece start stop (omega arith) within)) is.fits;
      }

  -- where the line's end does not fit, the fitting candidates are the same
  candidate-back : (start stop : ℕ) → start < length line → IsFittingCandidate width tab full start stop →
      IsFittingCandidate width tab line start stop ⊎ IsFittingCandidate width tab line start (length line)
  candidate-back start stop inside is = ⊎_elim
      (λ (within, own). let past = own.end_past.past in inl (record {
        fitting = own;
        candidate = ⊎_elim (λ last. absurd (omega (arith, longer)))
            (λ breaks. inr (sym (breaking-kept stop (omega arith) within) ∙ breaks)) is.candidate;
      }))
      (λ (last, same). inr (record { fitting = last; candidate = inl refl }))
      (fitting-back start stop is.fitting inside)

  candidate-on : (start stop : ℕ) → stop < length line → IsFittingCandidate width tab line start stop → IsFittingCandidate width tab full start stop
  candidate-on start stop inside is =
      let past = is.fitting.end_past.past in
      record {
        fitting = fitting-on start stop is.fitting;
        candidate = ⊎_elim (λ last. absurd (omega arith))
            (λ breaks. inr (breaking-kept stop (omega arith) (omega arith) ∙ breaks)) is.candidate;
      }

  IsPieceEnd-kept : (start stop : ℕ) → stop < length line → IsPieceEnd width tab line start stop → IsPieceEnd width tab full start stop
  IsPieceEnd-kept start stop inside (inl best) =
      let past = best.is.fitting.end_past.past in
      inl (record {
        is = candidate-on start stop inside best.is;
        greatest = λ other also. ⊎_elim (best.greatest other)
            (λ last. let le = best.greatest (length line) last in absurd (omega arith))
            (candidate-back start other (omega arith) also);
      })
  IsPieceEnd-kept start stop inside (inr (inl (none, best))) =
      let past = best.is.end_past.past in
      inr (inl (
        λ other also. ⊎_elim (none other) (none (length line)) (candidate-back start other (omega arith) also),
        record {
          is = fitting-on start stop best.is;
          greatest = λ other also. ⊎_elim (λ (within, own). best.greatest other own)
              (λ (last, same). absurd (none (length line) (record { fitting = last; candidate = inl refl })))
              (fitting-back start other also (omega arith));
        },
      ))
  IsPieceEnd-kept start stop inside (inr (inr (none, first))) =
      let past = first.is.past in
      inr (inr (
        λ other also. ⊎_elim (λ (within, own). none other own) (λ (last, same). none (length line) last) (fitting-back start other also (omega arith)),
        record {
          is = record { cluster = end-kept stop first.is.cluster; past = past };
          least = λ other also. ⊎_elim (λ own. first.least other (record { cluster = own; past = also.past }))
              (λ last. omega (arith, longer)) (end-of_line other also.cluster);
        },
      ))

  IsPieceEnd-last : (start : ℕ) → start ≤ length line → piece_columns tab line start (length line) ≤ width → IsPieceEnd width tab full start (length full)
  IsPieceEnd-last start within fits = inl (record {
    is = record {
      fitting = record {
        end_past = record {
          cluster = subst (λ es. Contains es (length full)) (sym ends-full) (Contains-append_right (cluster_ends line) (length full ∷ []) (length full) (0, omega arith, refl));
          past = omega (arith, longer);
        };
        fits = subst (λ n. n ≤ width) (sym (columns-of_last start within)) fits;
      };
      candidate = inl refl;
    };
    greatest = λ other also. IsEndPast-le full start other full_scalars also.fitting.end_past;
  })

  -- the end of a piece that a cluster alone would fit
  last-fits : (start : ℕ) → EachClusterFits width tab line → (0 ≡ start) ⊎ Contains (cluster_ends line) start →
      IsPieceEnd width tab line start (length line) → piece_columns tab line start (length line) ≤ width
  last-fits start each begins (inl best) = best.is.fitting.fits
  last-fits start each begins (inr (inl best)) = best.1.is.fits
  last-fits start each begins (inr (inr first)) =
      each-least (λ from to. piece_columns tab line from to ≤ width) 0 (clusters_in line) (clusters-some line scalars) each start (length line) begins
      first.1.is.cluster first.1.is.past (λ other found past. first.1.least other (record { cluster = found; past = past }))

  AreBreaksFrom-end : EachClusterFits width tab line → (start : ℕ) (ends : List ℕ) → (0 ≡ start) ⊎ Contains (cluster_ends line) start →
      AreBreaksFrom width tab line start (ends ++ length line ∷ []) → AreBreaksFrom width tab full start (ends ++ length full ∷ [])
  AreBreaksFrom-end each start [] begins are =
      let inside = are.0 in
      (omega (arith, longer), IsPieceEnd-last start (omega arith) (last-fits start each begins are.1), refl)
  AreBreaksFrom-end each start (stop ∷ ends) begins are =
      let inside = are.0 in
      let cluster = (IsEndPast-piece width tab line start stop are.1).cluster in
      (omega (arith, longer), IsPieceEnd-kept start stop (further ends are.2) are.1, AreBreaksFrom-end each stop ends (inr cluster) are.2)
    where
      further : (those : List ℕ) → AreBreaksFrom width tab line stop (those ++ length line ∷ []) → stop < length line
      further [] more = more.0
      further (next ∷ those) more = more.0

ends-none : (ends : List ℕ) (n : ℕ) → ends ++ n ∷ [] ≡ n ∷ [] → ends ≡ []
ends-none [] n is = refl
ends-none (first ∷ ends) n is = let long = ap length is in absurd (omega (arith, length-append ends (n ∷ [])))

pub line_end-takes_no_room : (width tab : ℕ) (line end ends : List ℕ) → all_scalars line ≡ true → (0 < width → EachClusterFits width tab line) → IsLineEnd line end →
    breaks_of width tab line ≡ ends ++ length line ∷ [] → breaks_of width tab (line ++ end) ≡ ends ++ length (line ++ end) ∷ []
line_end-takes_no_room width tab line end ends scalars each is_end breaks =
    sym (AreBreaks-value width tab (line ++ end) (ends ++ length (line ++ end) ∷ []) (full_scalars width tab line end scalars is_end)
    (by width line scalars each is_end (subst (AreBreaks width tab line) breaks (breaks_of-pass width tab line scalars))))
  where
    narrow : (text : List ℕ) → ends ++ length text ∷ [] ≡ length text ∷ [] → AreBreaks zero tab (text ++ end) (ends ++ length (text ++ end) ∷ [])
    narrow text are = AreBreaks-narrow zero tab (text ++ end) _ refl (ap (λ es. es ++ length (text ++ end) ∷ []) (ends-none ends (length text) are))

    by : (columns : ℕ) (text : List ℕ) → all_scalars text ≡ true → (0 < columns → EachClusterFits columns tab text) → IsLineEnd text end →
        AreBreaks columns tab text (ends ++ length text ∷ []) → AreBreaks columns tab (text ++ end) (ends ++ length (text ++ end) ∷ [])
    by zero [] good fit last are = narrow [] are
    by zero (c ∷ text) good fit last are = narrow (c ∷ text) are
    by (suc columns) [] good fit last are =
        let some = some_end [] end last in
        let none = columns-none tab [] [] (clusters_in []) refl in
        let one : AreBreaksFrom (suc columns) tab end 0 (length end ∷ []) =
        (some, IsPieceEnd-last (suc columns) tab [] end good last 0 (omega arith) (omega arith), refl) in
        AreBreaks-cut (suc columns) tab end (ends ++ length end ∷ []) (omega arith) some
        (subst (λ es. AreBreaksFrom (suc columns) tab end 0 (es ++ length end ∷ [])) (sym (ends-none ends 0 are)) one)
    by (suc columns) (c ∷ text) good fit last are =
        AreBreaks-cut (suc columns) tab ((c ∷ text) ++ end) (ends ++ length ((c ∷ text) ++ end) ∷ []) (omega arith) (omega arith)
        (AreBreaksFrom-end (suc columns) tab (c ∷ text) end good last (fit (omega arith)) 0 ends (inl refl) are)
