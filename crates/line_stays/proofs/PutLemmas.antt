-- Parts of parts, and how the lines of a part are put, run by run and mark by mark.
use Rattle.std.proofs.Common.{◌≡◌, inl, inr, ℕ, ◌+◌, ◌-◌, ◌<◌, ◌≤◌, Bool, true, false, List, length, take, drop, Option, Some, None, ap, sym, subst, ◌∙◌, arith, length-drop}
use Rattle.std.specs.Prelude.{if◌then◌else◌, slice_get}
use Rattle.std.specs.Cmp.Lexicographic.{pointwise}
use Rattle.std.proofs.lemmas.Bool.{cases_lt}
use Rattle.std.proofs.lemmas.List.{drop-drop}
use Rattle.plain_edits.specs.Styles.{Layer}
use Rattle.plain_screen.specs.declared.piece.Piece.{Piece}
use Rattle.plain_screen.specs.declared.screen.Line.{Line}
use Rattle.plain_screen.specs.Touched.{is_same_but_number}
use Rattle.plain_screen.specs.View.{ArePieces, layout_line_of, start_of}
use Rattle.plain_screen.proofs.callers.OwnLemmas.{end-last, get_piece, layout_line_of-start, line-from, start_of-get}
use Rattle.subset_runs.specs.Subset.{contains}
use Rattle.line_cache.specs.Stays.{if_true}
use Rattle.line_cache.specs.declared.stay.Stay.{Stay}
use Rattle.line_stays.specs.declared.change.Change.{Change}
use Rattle.line_stays.specs.Edges.{first_piece, past_piece}
use Rattle.line_stays.specs.Inner.{ArePartnersIn, SayPartners, AreStyledAlike, AreWhole, EndBefore, IsSharedPart, IsUnmarked, is_same_logical}
use Rattle.line_stays.proofs.SettledLemmas.{settled-at, settled-skip}
use Rattle.line_stays.proofs.WholeLemmas.{first-behind, first-first, first-same, line-inside, line-rise, own-at, past-before, past-same, start-past, unmarked-before, unmarked-rest}

unhad : (had : List Bool) (x : ℕ) (same : Bool) → contains had x ≡ false → if_true had (Some (x, same)) ≡ None
unhad had x same none = ap (λ (b : Bool). if b then Some (x, same) else None) none

module _ (text : List ℕ) (pieces : List Piece) (are : ArePieces text pieces) where
  -- a piece behind one that begins a logical line is of one that begins there or later
  pub first-from : (y x : ℕ) → y ≤ x → x < length pieces → first_piece text pieces y ≡ y → y ≤ first_piece text pieces x
  first-from y x le there begins = elim (cases_lt (first_piece text pieces x) y) [
    | inr fine ↦ fine
    | inl before ↦
        let same = first-same text pieces are x y there (omega (arith, before)) (omega (arith, le, (own-at text pieces are x there).high)) in
        absurd (omega (arith, same, begins, before))
  ]

  -- from the first piece of one logical line to the last of another
  pub whole-within : (a b : ℕ) → a ≤ b → b < length pieces →
      AreWhole text pieces (first_piece text pieces a) (past_piece pieces b - first_piece text pieces a)
  whole-within a b le there = λ x low high.
      let there_a : a < length pieces = omega (arith, le, there) in
      let own_a = own-at text pieces are a there_a in
      let own_b = own-at text pieces are b there in
      let below : x < past_piece pieces b = omega (arith, high, own_a.low, le, own_b.high) in
      let inside : x < length pieces = omega (arith, below, own_b.inside) in (
        first-from (first_piece text pieces a) x low inside (first-first text pieces are a there_a),
        (elim (cases_lt x (first_piece text pieces b)) [
          | inl before ↦
              let past = past-before text pieces are x (first_piece text pieces b) before (omega (arith, own_b.low, there)) (first-first text pieces are b there) in
              omega (arith, past, own_b.low, own_b.high, own_a.low, le)
          | inr from ↦ omega (arith, past-same text pieces are b x there from below, own_a.low, le, own_b.high)
        ]),
      )

-- a part of a part, in whole logical lines
pub part-within : (text other : List ℕ) (pieces parts : List Piece) (old new n first m : ℕ) → IsSharedPart text other pieces parts old new n → old ≤ first → first + m ≤ old + n →
    AreWhole text pieces first m → IsSharedPart text other pieces parts first (new + (first - old)) m
part-within text other pieces parts old new n first m part low high whole = record {
  inside = omega (arith, high, part.inside);
  too = omega (arith, low, high, part.too);
  whole = whole;
  near = part.near;
  far = part.far;
  twins = λ k piece twin less is is_twin.
      let one : old + (first - old + k) ≡ first + k = omega (arith, low) in
      let two : new + (first - old + k) ≡ new + (first - old) + k = omega arith in
      part.twins (first - old + k) piece twin (omega (arith, low, high, less)) (ap (slice_get pieces) one ∙ is) (ap (slice_get parts) two ∙ is_twin);
}

pub styled-within : (change : Change) (pieces parts : List Piece) (layers styles : List Layer) (old new n first m : ℕ) →
    AreStyledAlike change pieces parts layers styles old new n → old ≤ first → first + m ≤ old + n →
    AreStyledAlike change pieces parts layers styles first (new + (first - old)) m
styled-within change pieces parts layers styles old new n first m styled low high = λ k piece twin less is is_twin plain.
    let one : old + (first - old + k) ≡ first + k = omega (arith, low) in
    let two : new + (first - old + k) ≡ new + (first - old) + k = omega arith in
    styled (first - old + k) piece twin (omega (arith, low, high, less)) (ap (slice_get pieces) one ∙ is) (ap (slice_get parts) two ∙ is_twin) plain

module _ (text : List ℕ) (pieces : List Piece) (before after : List Line) where
  same-within : (old new first x : ℕ) → old ≤ first → first ≤ first_piece text pieces x →
      is_same_logical text pieces before after old new x ≡ is_same_logical text pieces before after first (new + (first - old)) x
  same-within old new first x low from =
      let at : new + (first_piece text pieces x - old) ≡ new + (first - old) + (first_piece text pieces x - first) = omega (arith, low, from) in
      let count : ℕ = past_piece pieces x - first_piece text pieces x in
      ap (λ d. pointwise is_same_but_number (take count (drop (first_piece text pieces x) before)) (take count (drop d after))) at

  -- its lines have the partners that they have in the whole
  pub partners-within : (old new n first m : ℕ) (partner : ℕ → Option (ℕ × Bool)) → old ≤ first → first + m ≤ old + n → AreWhole text pieces first m →
      ArePartnersIn (is_same_logical text pieces before after old new) old new n partner →
      ArePartnersIn (is_same_logical text pieces before after first (new + (first - old))) first (new + (first - old)) m partner
  partners-within old new n first m partner low high whole partners = λ k less.
      let one : old + (first - old + k) ≡ first + k = omega (arith, low) in
      let two : new + (first - old) + k ≡ new + (first - old + k) = omega arith in
      ap partner two ∙ partners (first - old + k) (omega (arith, low, high, less)) ∙
      ap (λ (i : ℕ). Some (i, is_same_logical text pieces before after old new i)) one ∙
      ap (λ (b : Bool). Some (first + k, b)) (same-within old new first (first + k) low (whole (first + k) (omega arith) (omega (arith, less))).0)

  -- ---- run by run

  -- the lines of a part before one are put
  pub record ArePut (had : List Bool) (old new n : ℕ) (was : List Stay) (at : ℕ) (stays : List Stay) : Type 0 where
    pub low : old ≤ at
    pub high : at ≤ old + n
    pub begins : (x : ℕ) → at ≤ x → x < old + n → at ≤ first_piece text pieces x
    pub settled : (partner : ℕ → Option (ℕ × Bool)) → ArePartnersIn (is_same_logical text pieces before after old new) old new n partner →
        SayPartners had partner old new was → SayPartners had partner at (new + (at - old)) stays

  pub put-none : (had : List Bool) (old new n : ℕ) (was : List Stay) → AreWhole text pieces old n → ArePut had old new n was old was
  put-none had old new n was whole = record {
    low = omega arith;
    high = omega arith;
    begins = λ x low high. (whole x low high).0;
    settled = λ partner partners settled.
        let here : new ≡ new + (old - old) = omega arith in subst (λ i. SayPartners had partner old i was) here settled;
  }

  module _ (are : ArePieces text pieces) (had : List Bool) (old new n at start end : ℕ) (was stays made : List Stay) (inside : old + n ≤ length pieces)
      (whole : AreWhole text pieces old n) (put : ArePut had old new n was at stays) (from : at ≤ start) (some : start < end) (to : end ≤ old + n)
      (none : (index : ℕ) → at ≤ index → index < start → contains had index ≡ false) (run_first run_past : ℕ)
      (first_is : run_first ≡ first_piece text pieces start) (past_is : run_past ≡ past_piece pieces (end - 1)) where
    pub first-low : at ≤ run_first
    first-low = omega (arith, first_is, put.begins start from (omega (arith, some, to)))

    pub first-high : run_first ≤ start
    first-high = omega (arith, first_is, (own-at text pieces are start (omega (arith, some, to, inside))).low)

    pub past-low : end ≤ run_past
    past-low = let high = (own-at text pieces are (end - 1) (omega (arith, some, to, inside))).high in omega (arith, high, past_is)

    pub past-high : run_past ≤ old + n
    past-high = omega (arith, past_is, (whole (end - 1) (omega (arith, put.low, from, some)) (omega (arith, some, to))).1)

    pub lines-whole : AreWhole text pieces run_first (run_past - run_first)
    lines-whole =
        subst (λ f. AreWhole text pieces f (run_past - f)) (sym first_is)
        (subst (λ p. AreWhole text pieces (first_piece text pieces start) (p - first_piece text pieces start)) (sym past_is)
        (whole-within text pieces are start (end - 1) (omega (arith, some)) (omega (arith, some, to, inside))))

    pub lines-high : run_first + (run_past - run_first) ≤ old + n
    lines-high = omega (arith, first-high, some, past-low, past-high)

    -- one run more
    pub put-more : ((flags : List Bool) (partner : ℕ → Option (ℕ × Bool)) →
        ArePartnersIn (is_same_logical text pieces before after run_first (new + (run_first - old))) run_first (new + (run_first - old)) (run_past - run_first) partner →
        SayPartners flags partner run_first (new + (run_first - old)) stays →
        SayPartners flags partner (run_first + (run_past - run_first)) (new + (run_first - old) + (run_past - run_first)) made) → ArePut had old new n was run_past made
    put-more more = record {
      low = omega (arith, put.low, from, some, past-low);
      high = past-high;
      begins = λ x low high.
          omega
          (arith, past_is, first-behind text pieces are (end - 1) x (omega (arith, some, to, inside)) (omega (arith, high, inside)) (omega (arith, low, past_is)));
      settled = λ partner partners settled.
          let so_far = put.settled partner partners settled in
          let there = settled-skip had partner at (new + (at - old)) stays so_far run_first (new + (run_first - old)) first-low
          (omega (arith, first-low, put.low))
          (λ index low high.
          let on : new + (index - new) ≡ index = omega (arith, low) in
          ap (if_true had) (ap partner (sym on) ∙ partners (index - new) (omega (arith, low, high, put.low, first-high, some, to))) ∙
          unhad had (old + (index - new)) (is_same_logical text pieces before after old new (old + (index - new)))
          (none (old + (index - new)) (omega (arith, low, put.low)) (omega (arith, high, first-high, put.low, first-low)))) in
          let one : run_first + (run_past - run_first) ≡ run_past = omega (arith, first-high, some, past-low) in
          let two : new + (run_first - old) + (run_past - run_first) ≡ new + (run_past - old) = omega (arith, first-high, some, past-low, put.low, first-low) in
          settled-at had partner made _ _ _ _ one two
          (more had partner (partners-within old new n run_first (run_past - run_first) partner (omega (arith, put.low, first-low)) lines-high lines-whole partners) there);
    }

  -- and all of them, where no line is left that is valid
  pub put-all : (had : List Bool) (old new n at : ℕ) (was stays : List Stay) → ArePut had old new n was at stays →
      ((index : ℕ) → at ≤ index → index < old + n → contains had index ≡ false) → (partner : ℕ → Option (ℕ × Bool)) →
      ArePartnersIn (is_same_logical text pieces before after old new) old new n partner → SayPartners had partner old new was →
      SayPartners had partner (old + n) (new + n) stays
  put-all had old new n at was stays put none partner partners settled =
      settled-skip had partner at (new + (at - old)) stays (put.settled partner partners settled) (old + n) (new + n) put.high (omega (arith, put.low, put.high))
      (λ index low high.
      let on : new + (index - new) ≡ index = omega (arith, low) in
      ap (if_true had) (ap partner (sym on) ∙ partners (index - new) (omega (arith, low, high))) ∙
      unhad had (old + (index - new)) (is_same_logical text pieces before after old new (old + (index - new)))
      (none (old + (index - new)) (omega (arith, low, put.low)) (omega (arith, low, high))))

  -- ---- mark by mark

  -- the lines of a part before one are put, and the walk over its marks, which begin at a gap, stands at this one
  pub record AreMarked (marks : List Bool) (old new n start : ℕ) (was : List Stay) (at gap : ℕ) (walk : List Bool) (stays : List Stay) : Type 0 where
    pub low : old ≤ at
    pub high : at ≤ old + n
    pub begins : (x : ℕ) → at ≤ x → x < old + n → at ≤ first_piece text pieces x
    pub front : start ≤ gap
    pub within : gap ≤ start + length marks
    pub ahead : walk ≡ drop (gap - start) marks
    pub here : at < old + n → gap ≡ start_of pieces at
    pub settled : (had : List Bool) (partner : ℕ → Option (ℕ × Bool)) → ArePartnersIn (is_same_logical text pieces before after old new) old new n partner →
        SayPartners had partner old new was → SayPartners had partner at (new + (at - old)) stays

  pub marked-none : (marks : List Bool) (old new n start gap : ℕ) (walk : List Bool) (was : List Stay) → AreWhole text pieces old n → start ≡ start_of pieces old →
      gap ≡ start → walk ≡ marks → AreMarked marks old new n start was old gap walk was
  marked-none marks old new n start gap walk was whole is at all = record {
    low = omega arith;
    high = omega arith;
    begins = λ x low high. (whole x low high).0;
    front = omega (arith, at);
    within = omega (arith, at);
    ahead = let none : 0 ≡ gap - start = omega (arith, at) in all ∙ ap (λ k. drop k marks) none;
    here = λ less. at ∙ is;
    settled = λ had partner partners settled.
        let same : new ≡ new + (old - old) = omega arith in subst (λ i. SayPartners had partner old i was) same settled;
  }

  module _ (are : ArePieces text pieces) (marks : List Bool) (old new n start at gap : ℕ) (walk : List Bool) (was stays : List Stay)
      (inside : old + n ≤ length pieces) (whole : AreWhole text pieces old n) (is : start ≡ start_of pieces old) (reach : EndBefore pieces old n (length marks))
      (count : start_of pieces old + length marks ≤ length text + 1)
      (plain : (x : ℕ) → old ≤ x → x < old + n → IsUnmarked text pieces marks (start_of pieces old) x → is_same_logical text pieces before after old new x ≡ true)
      (so_far : AreMarked marks old new n start was at gap walk stays) (more : at < old + n) where
    at-here : gap ≡ start_of pieces at
    at-here = so_far.here more

    at-begins : first_piece text pieces at ≡ at
    at-begins =
        let low = so_far.begins at (omega arith) more in
        let high = (own-at text pieces are at (omega (arith, more, inside))).low in omega (arith, low, high)

    plain-at : (x : ℕ) → at ≤ x → x < old + n → IsUnmarked text pieces marks start x → is_same_logical text pieces before after old new x ≡ true
    plain-at x low high unmarked = plain x (omega (arith, low, so_far.low)) high (subst (λ s. IsUnmarked text pieces marks s x) is unmarked)

    -- no mark is left before the end of the part
    pub rest-same : ((k : ℕ) → k < length walk → layout_line_of pieces (gap + k) < old + n → contains walk k ≡ false) → (x : ℕ) → at ≤ x → x < old + n →
        is_same_logical text pieces before after old new x ≡ true
    rest-same none = λ x low high.
        plain-at x low high
        (unmarked-rest text pieces are marks start gap at x so_far.front at-here (omega (arith, more, inside)) (so_far.begins x low high) (old + n)
        (λ k less before. ap (λ ws. contains ws k) (sym so_far.ahead) ∙ none k (subst (λ ws. k < length ws) (sym so_far.ahead) less) before)
        (whole x (omega (arith, low, so_far.low)) high).1)

    module _ (mark : ℕ) (from : gap ≤ mark) (to : mark < gap + length walk) (gone : (k : ℕ) → gap + k < mark → contains walk k ≡ false)
        (marked_first marked_past : ℕ) (first_is : marked_first ≡ first_piece text pieces (layout_line_of pieces mark)) (below : marked_first < old + n)
        (past_is : marked_past ≡ past_piece pieces marked_first) where
      pub marked-low : at ≤ marked_first
      marked-low =
          let there : at < length pieces = omega (arith, more, inside) in
          let here : layout_line_of pieces gap ≡ at = ap (layout_line_of pieces) at-here ∙ layout_line_of-start text pieces at are there in
          omega (
            arith,
            first_is,
            first-from text pieces are at (layout_line_of pieces mark) (omega (arith, here, line-rise text pieces are gap mark from)) (line-inside text pieces are mark)
                at-begins,
          )

      pub marked-begins : first_piece text pieces marked_first ≡ marked_first
      marked-begins =
          ap (first_piece text pieces) first_is ∙ first-first text pieces are (layout_line_of pieces mark) (line-inside text pieces are mark) ∙ sym first_is

      pub before-same : (x : ℕ) → at ≤ x → x < marked_first → is_same_logical text pieces before after old new x ≡ true
      before-same = λ x low high.
          plain-at x low (omega (arith, high, below))
          (unmarked-before text pieces are marks start gap at x so_far.front at-here (omega (arith, more, inside)) (so_far.begins x low (omega (arith, high, below))) mark
          (λ k less. ap (λ ws. contains ws k) (sym so_far.ahead) ∙ gone k less) (omega (arith, high, first_is)))

      past-own : marked_past ≡ past_piece pieces (layout_line_of pieces mark)
      past-own =
          let own = own-at text pieces are (layout_line_of pieces mark) (line-inside text pieces are mark) in
          past_is ∙
          past-same text pieces are (layout_line_of pieces mark) marked_first (line-inside text pieces are mark) (omega (arith, first_is))
          (omega (arith, first_is, own.low, own.high))

      pub past-fits : marked_past ≤ old + n
      past-fits = omega (arith, past_is, (whole marked_first (omega (arith, marked-low, so_far.low)) below).1)

      pub past-more : marked_first < marked_past
      past-more = let own = own-at text pieces are marked_first (omega (arith, below, inside)) in omega (arith, own.high, past_is)

      long-walk : length walk ≡ start + length marks - gap
      long-walk = ap length so_far.ahead ∙ omega (arith, length-drop (gap - start) marks, so_far.front, so_far.within)

      -- the last piece of the logical line ends where the next one starts
      end-start : (piece : Piece) → marked_past < length pieces → slice_get pieces (marked_past - 1) ≡ Some piece → start_of pieces marked_past ≡ piece.end
      end-start piece less last =
          ap (start_of pieces) past_is ∙
          start-past text pieces are marked_first piece (omega (arith, below, inside)) (omega (arith, less, past_is))
          (ap (λ k. slice_get pieces (k - 1)) (sym past_is) ∙ last)

      -- and behind the mark
      pub mark-before : (piece : Piece) → slice_get pieces (marked_past - 1) ≡ Some piece → mark ≤ piece.end
      mark-before piece last = elim (cases_lt marked_past (length pieces)) [
        | inl less ↦
            let start_past = end-start piece less last in
            let own = own-at text pieces are (layout_line_of pieces mark) (line-inside text pieces are mark) in
            elim (cases_lt mark (start_of pieces marked_past)) [
              | inl before_past ↦ omega (arith, before_past, start_past)
              | inr behind ↦
                  let next = get_piece pieces marked_past less in
                  absurd (omega (arith, own.high, past-own, line-from text pieces mark marked_past next.0 are next.1 (omega (arith, behind, start_of-get pieces marked_past next.0 next.1))))
            ]
        | inr all ↦
            let end = end-last text pieces (marked_past - 1) piece are (omega (arith, all, past-fits, inside, past-more)) last in
            omega (arith, end, to, long-walk, count, is, so_far.within)
      ]

      -- and the walk reaches there
      pub walk-reaches : (piece : Piece) (rest : List Bool) → slice_get pieces (marked_past - 1) ≡ Some piece → rest ≡ drop (mark - gap) walk → piece.end - mark ≤ length rest
      walk-reaches piece rest last is_rest =
          omega (
            arith,
            ap length is_rest,
            length-drop (mark - gap) walk,
            long-walk,
            is,
            reach (marked_past - 1) piece (omega (arith, past-more, marked-low, so_far.low)) (omega (arith, past-fits, past-more)) last,
            from,
            mark-before piece last,
          )

      -- one logical line more
      pub marked-more : (piece : Piece) (rest left : List Bool) (mid made : List Stay) → slice_get pieces (marked_past - 1) ≡ Some piece → rest ≡ drop (mark - gap) walk →
          left ≡ drop (piece.end - mark) rest →
          ((had : List Bool) (partner : ℕ → Option (ℕ × Bool)) → ArePartnersIn (is_same_logical text pieces before after old new) old new n partner →
          SayPartners had partner at (new + (at - old)) stays → SayPartners had partner marked_first (new + (marked_first - old)) mid) →
          ((had : List Bool) (partner : ℕ → Option (ℕ × Bool)) → ArePartnersIn (is_same_logical text pieces before after old new) old new n partner →
          SayPartners had partner marked_first (new + (marked_first - old)) mid → SayPartners had partner marked_past (new + (marked_past - old)) made) →
          AreMarked marks old new n start was marked_past piece.end left made
      marked-more piece rest left mid made last is_rest is_left one two = record {
        low = omega (arith, so_far.low, marked-low, past-more);
        high = past-fits;
        begins = λ x low high.
            omega
            (arith, past_is, first-behind text pieces are marked_first x (omega (arith, below, inside)) (omega (arith, high, inside)) (omega (arith, low, past_is)));
        front = omega (arith, so_far.front, from, mark-before piece last);
        within =
            omega (arith, is, reach (marked_past - 1) piece (omega (arith, past-more, marked-low, so_far.low)) (omega (arith, past-fits, past-more)) last);
        ahead =
            is_left ∙ ap (drop (piece.end - mark)) (is_rest ∙ ap (drop (mark - gap)) so_far.ahead) ∙
            ap (drop (piece.end - mark)) (drop-drop (mark - gap) (gap - start) marks) ∙ drop-drop (piece.end - mark) (gap - start + (mark - gap)) marks ∙
            ap (λ k. drop k marks)
            (let sum : gap - start + (mark - gap) + (piece.end - mark) ≡ piece.end - start = omega (arith, so_far.front, from, mark-before piece last) in sum);
        here = λ less. sym (end-start piece (omega (arith, less, inside)) last);
        settled = λ had partner partners settled. two had partner partners (one had partner partners (so_far.settled had partner partners settled));
      }
