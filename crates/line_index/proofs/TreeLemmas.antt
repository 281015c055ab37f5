-- A leaf of cuts among all cuts of a tree, and cuts as the numbers that a leaf keeps.
use Rattle.std.proofs.Common.{◌≡◌, inl, inr, ℕ, zero, suc, ◌+◌, ◌-◌, ◌^◌, ◌<◌, ◌≤◌, IsTrue, List, [], ◌∷◌, ◌++◌, length, take, drop, Option, Some, None, refl, ap, ap₂, sym, subst, ◌∙◌, arith, append_assoc, length-append, length-take, take_all, take-append-drop}
use Rattle.std.specs.Prelude.{if◌then◌else◌, unwrap_or, slice_get}
use Rattle.std.proofs.lemmas.Bool.{lt-ltb, ltb-true}
use Rattle.std.proofs.lemmas.List.{map-append}
use Rattle.plain_screen.specs.declared.piece.Piece.{Piece}
use Rattle.line_index.specs.declared.cut.Cut.{Cut}
use Rattle.line_index.specs.declared.cut.Sizes.{Sizes}
use Rattle.line_index.specs.Cuts.{firsts, pieces_at, span}
use Rattle.line_index.specs.Inner.{IsCutAt}
use Rattle.line_index.specs.Sizes.{cut_of, cuts_in, firsts-append, is_countable, no_sizes, same_sizes, sizes_of, span-append, together}
use Rattle.line_index.proofs.CutLemmas.{firsts-le, front-fits, get-parted, piece-at, span-parted, span-take, take-parted}

-- ---- cuts as numbers

pub cuts-parted : (words : List ℕ) (n : ℕ) → cuts_in words ≡ cuts_in (take n words) ++ cuts_in (drop n words)
cuts-parted words n = ap cuts_in (sym (take-append-drop n words)) ∙ map-append cut_of (take n words) (drop n words)

take-cuts : (words : List ℕ) (n : ℕ) → take n (cuts_in words) ≡ cuts_in (take n words)
take-cuts words zero = refl
take-cuts [] (suc n) = refl
take-cuts (word ∷ words) (suc n) = ap (λ (cuts : List Cut). cut_of word ∷ cuts) (take-cuts words n)

pub span-cuts : (words : List ℕ) (n : ℕ) → span (take n (cuts_in words)) + span (cuts_in (drop n words)) ≡ span (cuts_in words)
span-cuts words n =
    sym (span-append (take n (cuts_in words)) (cuts_in (drop n words))) ∙
    ap (λ (cuts : List Cut). span (cuts ++ cuts_in (drop n words))) (take-cuts words n) ∙ ap span (sym (cuts-parted words n))

pub front-words_fit : (words : List ℕ) (n : ℕ) → IsTrue (is_countable (sizes_of (cuts_in words))) → IsTrue (is_countable (sizes_of (cuts_in (take n words))))
front-words_fit words n fit =
    front-fits (cuts_in (take n words)) (cuts_in (drop n words)) (subst (λ (cuts : List Cut). IsTrue (is_countable (sizes_of cuts))) (cuts-parted words n) fit)

-- a leaf of the first of some cuts fits behind others, where all do
pub leaf-fits : (made all leaf : List Cut) (rest : List ℕ) (n : ℕ) → made ++ cuts_in rest ≡ all → leaf ≡ cuts_in (take n rest) →
    IsTrue (is_countable (sizes_of all)) → IsTrue (is_countable (sizes_of (made ++ leaf)))
leaf-fits made all leaf rest n is same fit =
    let whole : all ≡ (made ++ leaf) ++ cuts_in (drop n rest) =
    sym is ∙ ap (λ (cuts : List Cut). made ++ cuts) (cuts-parted rest n ∙ ap (λ (cuts : List Cut). cuts ++ cuts_in (drop n rest)) (sym same)) ∙
    sym (append_assoc made leaf (cuts_in (drop n rest))) in
    front-fits (made ++ leaf) (cuts_in (drop n rest)) (subst (λ (cuts : List Cut). IsTrue (is_countable (sizes_of cuts))) whole fit)

-- ---- a leaf among others

pub together-fits : (a b : Sizes) (front leaf back : List Cut) (n : ℕ) → a ≡ together no_sizes (sizes_of front) → b ≡ sizes_of (take n leaf) →
    IsTrue (is_countable (sizes_of (front ++ (leaf ++ back)))) → IsTrue (is_countable (together a b))
together-fits a b front leaf back n a_is b_is fit =
    let parted : leaf ≡ take n leaf ++ drop n leaf = sym (take-append-drop n leaf) in
    lt-ltb _ _ (omega (
      arith,
      ltb-true _ (2 ^ 64) fit,
      ap (λ (s : Sizes). s.pieces) a_is,
      ap (λ (s : Sizes). s.lines) a_is,
      ap (λ (s : Sizes). s.chars) a_is,
      ap (λ (s : Sizes). s.pieces) b_is,
      ap (λ (s : Sizes). s.lines) b_is,
      ap (λ (s : Sizes). s.chars) b_is,
      length-append front (leaf ++ back),
      length-append leaf back,
      firsts-append front (leaf ++ back),
      firsts-append leaf back,
      span-append front (leaf ++ back),
      span-append leaf back,
      ap length parted,
      ap firsts parted,
      ap span parted,
      length-append (take n leaf) (drop n leaf),
      firsts-append (take n leaf) (drop n leaf),
      span-append (take n leaf) (drop n leaf),
    ))

pub together-take : (a b : Sizes) (all front leaf back : List Cut) (index n : ℕ) → a ≡ together no_sizes (sizes_of front) → b ≡ sizes_of (take n leaf) →
    all ≡ front ++ (leaf ++ back) → length front + n ≡ index → n ≤ length leaf → together a b ≡ sizes_of (take index all)
together-take a b all front leaf back index n a_is b_is whole at within =
    let shown : take index all ≡ front ++ take n leaf = ap (take index) whole ∙ take-parted front leaf back index n at within in
    same_sizes (a.pieces + b.pieces) (a.lines + b.lines) (a.chars + b.chars) (length (take index all)) (firsts (take index all)) (span (take index all))
    (omega (arith, ap (λ (s : Sizes). s.pieces) a_is, ap (λ (s : Sizes). s.pieces) b_is, ap length shown, length-append front (take n leaf)))
    (omega (arith, ap (λ (s : Sizes). s.lines) a_is, ap (λ (s : Sizes). s.lines) b_is, ap firsts shown, firsts-append front (take n leaf)))
    (omega (arith, ap (λ (s : Sizes). s.chars) a_is, ap (λ (s : Sizes). s.chars) b_is, ap span shown, span-append front (take n leaf)))

pub get-all : (all front leaf back : List Cut) (index n : ℕ) (cut : Cut) → all ≡ front ++ (leaf ++ back) → length front + n ≡ index → n < length leaf →
    slice_get leaf n ≡ Some cut → slice_get all index ≡ Some cut
get-all all front leaf back index n cut whole at within is =
    ap (λ (cuts : List Cut). slice_get cuts index) whole ∙ get-parted front leaf back index n at within ∙ is

-- ---- a cut and what stands before it

span-with : (cuts : List Cut) (i : ℕ) (cut : Cut) → slice_get cuts i ≡ Some cut → span (take i cuts) + cut.len ≤ span cuts
span-with [] i cut is = absurd cc
span-with (own ∷ cuts) zero cut is =
    let same : own.len ≡ cut.len = ap (λ (o : Option Cut). (unwrap_or o own).len) is in omega arith
span-with (own ∷ cuts) (suc i) cut is = omega (arith, span-with cuts i cut is)

pub end-small : (all : List Cut) (index : ℕ) (before : Sizes) (cut : Cut) → IsTrue (is_countable (sizes_of all)) → before ≡ sizes_of (take index all) →
    slice_get all index ≡ Some cut → before.chars + cut.len < 2 ^ 64
end-small all index before cut fit is get =
    omega (arith, ltb-true _ (2 ^ 64) fit, ap (λ (s : Sizes). s.chars) is, span-with all index cut get)

pub number-small : (all : List Cut) (index : ℕ) (before : Sizes) → IsTrue (is_countable (sizes_of all)) → before ≡ sizes_of (take index all) →
    index < length all → before.lines + 1 < 2 ^ 64
number-small all index before fit is inside =
    omega (arith, ltb-true _ (2 ^ 64) fit, ap (λ (s : Sizes). s.lines) is, firsts-le (take index all), length-take index all)

pub piece-made : (all : List Cut) (index : ℕ) (before : Sizes) (cut : Cut) (ln : Option ℕ) → before ≡ sizes_of (take index all) → slice_get all index ≡ Some cut →
    ln ≡ (if cut.first then Some (1 + before.lines) else None) →
    slice_get (pieces_at 1 0 all) index ≡ Some (record { start = before.chars; end = before.chars + cut.len; ln = ln })
piece-made all index before cut ln is get number =
    let start : 0 + span (take index all) ≡ before.chars = omega (arith, ap (λ (s : Sizes). s.chars) is) in
    let lines : 1 + firsts (take index all) ≡ 1 + before.lines = omega (arith, ap (λ (s : Sizes). s.lines) is) in
    piece-at 1 0 all index cut get ∙
    ap₂ (λ (n m : ℕ). (let one : Option Piece = Some (record { start = n; end = n + cut.len; ln = if cut.first then Some m else None }) in one)) start lines ∙
    ap (λ (l : Option ℕ). (let one : Option Piece = Some (record { start = before.chars; end = before.chars + cut.len; ln = l }) in one)) (sym number)

-- ---- the cut of a gap

pub IsCutAt-end : (cuts : List Cut) (gap : ℕ) (all : Sizes) → all ≡ sizes_of cuts → 0 < length cuts → all.chars ≤ gap → IsCutAt cuts gap (all.pieces - 1)
IsCutAt-end cuts gap all is some past =
    let many : all.pieces ≡ length cuts = ap (λ (s : Sizes). s.pieces) is in
    let long : all.chars ≡ span cuts = ap (λ (s : Sizes). s.chars) is in
    record {
      inside = omega arith;
      by_then =
          omega (
            arith,
            span-take (all.pieces - 1) (length cuts) cuts (omega arith),
            ap span (take_all (length cuts) cuts (omega arith)),
          );
      last = inr (omega arith);
    }

pub IsCutAt-found : (cuts front leaf back : List Cut) (gap index : ℕ) (before : Sizes) → cuts ≡ front ++ (leaf ++ back) →
    before ≡ together no_sizes (sizes_of front) → before.chars ≤ gap → index < length leaf → span (take index leaf) ≤ gap - before.chars →
    gap - before.chars < span (take (index + 1) leaf) → IsCutAt cuts gap (before.pieces + index)
IsCutAt-found cuts front leaf back gap index before whole is passed inside by_then last =
    let many : before.pieces ≡ length front = omega (arith, ap (λ (s : Sizes). s.pieces) is) in
    let long : before.chars ≡ span front = omega (arith, ap (λ (s : Sizes). s.chars) is) in
    record {
      inside = omega (arith, ap length whole, length-append front (leaf ++ back), length-append leaf back);
      by_then =
          omega (
            arith,
            ap (λ (all : List Cut). span (take (before.pieces + index) all)) whole,
            span-parted front leaf back (before.pieces + index) index (omega arith) (omega arith),
          );
      last = inl (omega (
        arith,
        ap (λ (all : List Cut). span (take (before.pieces + index + 1) all)) whole,
        span-parted front leaf back (before.pieces + index + 1) (index + 1) (omega arith) (omega arith),
      ));
    }
