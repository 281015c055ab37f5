-- An edit from its first change to its last: what it keeps left and right of these, and the lines that it touches.
use Rattle.std.proofs.Common.{◌≡◌, ◌⊎◌, inl, inr, ℕ, zero, suc, ◌+◌, ◌-◌, ◌≤◌, Bool, false, List, [], ◌∷◌, ◌++◌, length, take, drop, replicate, reverse, refl, ap, ap₂, sym, ◌∙◌, arith, append_assoc, length-append, length-drop, length-take, take-append-drop}
use Rattle.std.specs.Prelude.{cond, slice_range}
use Rattle.std.specs.List.{prefix_len}
use Rattle.std.proofs.lemmas.List.{replicate-append-replicate, reverse-append}
use Rattle.std.proofs.Math.Seq.{drop-append_seam, take-append_seam}
use Rattle.plain_text.specs.Lines.{logical_lines}
use Rattle.plain_text.specs.declared.run.Run.{Run}
use Rattle.plain_edits.specs.declared.delta.UnitDelta.{UnitDelta}
use Rattle.plain_screen.specs.View.{layout_line_of, whole_lines}
use Rattle.rope_node.specs.Lengths.{lf_count}
use Rattle.shared_tree.specs.Replaced.{replaced}
use Rattle.delta_core.specs.Units.{text_after}
use Rattle.delta_core.specs.UnitStep.{UnitStep, Kept, Dropped, New, steps_of}
use Rattle.delta_core.specs.Inner.{base_count, text_of_steps}
use Rattle.delta_core.proofs.ForCallers.{IsMaking, IsMaking-start}
use Rattle.line_index.specs.declared.cut.Cut.{Cut}
use Rattle.line_index.specs.Cuts.{cuts_of, cuts_of_lines}
use Rattle.line_index.specs.Index.{is_kept, kept_left, kept_right, touched_lines}
use Rattle.line_index.specs.Inner.{cuts_before, IsAround, IsChange, IsTouched}
use Rattle.line_index.proofs.LineLemmas.{cuts_of_lines-append}
use Rattle.line_index.proofs.TouchedLemmas.{cuts_of-touched}
use Rattle.line_index.proofs.WholeLemmas.{layout-whole}

-- ---- steps that are put together

pub base_count-append : (xs ys : List UnitStep) → base_count (xs ++ ys) ≡ base_count xs + base_count ys
base_count-append [] ys = omega arith
base_count-append (Kept ∷ xs) ys = omega (arith, base_count-append xs ys)
base_count-append (Dropped ∷ xs) ys = omega (arith, base_count-append xs ys)
base_count-append (New c ∷ xs) ys = base_count-append xs ys

pub base_count-kept : (n : ℕ) → base_count (replicate n Kept) ≡ n
base_count-kept zero = refl
base_count-kept (suc n) = omega (arith, base_count-kept n)

text-append : (xs ys : List UnitStep) (text : List ℕ) → base_count xs ≤ length text →
    text_of_steps (xs ++ ys) text ≡ text_of_steps xs (take (base_count xs) text) ++ text_of_steps ys (drop (base_count xs) text)
text-append [] ys text room = refl
text-append (New c ∷ xs) ys text room = ap (λ (t : List ℕ). c ∷ t) (text-append xs ys text room)
text-append (Kept ∷ xs) ys [] room = absurd (omega arith)
text-append (Kept ∷ xs) ys (c ∷ text) room =
    let more : base_count (Kept ∷ xs) ≡ suc (base_count xs) = omega arith in
    ap (λ (t : List ℕ). c ∷ t) (text-append xs ys text (omega arith)) ∙
    ap (λ (n : ℕ). text_of_steps (Kept ∷ xs) (take n (c ∷ text)) ++ text_of_steps ys (drop n (c ∷ text))) (sym more)
text-append (Dropped ∷ xs) ys [] room = absurd (omega arith)
text-append (Dropped ∷ xs) ys (c ∷ text) room =
    let more : base_count (Dropped ∷ xs) ≡ suc (base_count xs) = omega arith in
    text-append xs ys text (omega arith) ∙
    ap (λ (n : ℕ). text_of_steps (Dropped ∷ xs) (take n (c ∷ text)) ++ text_of_steps ys (drop n (c ∷ text))) (sym more)

text-kept : (n : ℕ) (text : List ℕ) → length text ≡ n → text_of_steps (replicate n Kept) text ≡ text
text-kept zero [] same = refl
text-kept zero (c ∷ text) same = absurd (omega arith)
text-kept (suc n) [] same = refl
text-kept (suc n) (c ∷ text) same = ap (λ (t : List ℕ). c ∷ t) (text-kept n text (omega arith))

-- ---- what an edit keeps at its ends

prefix-kept : (n : ℕ) (steps : List UnitStep) → prefix_len is_kept steps ≡ 0 → prefix_len is_kept (replicate n Kept ++ steps) ≡ n
prefix-kept zero steps none = none
prefix-kept (suc n) steps none = omega (arith, prefix-kept n steps none)

prefix-change : (first : UnitStep) (later : List UnitStep) → is_kept first ≡ false → prefix_len is_kept (first ∷ later) ≡ 0
prefix-change first later is = ap (λ (b : Bool). cond b (1 + prefix_len is_kept later) 0) is

reverse-kept : (n : ℕ) → reverse (replicate n Kept) ≡ replicate n Kept
reverse-kept zero = refl
reverse-kept (suc n) =
    let more : n + 1 ≡ suc n = omega arith in
    reverse-append (Kept ∷ []) (replicate n Kept) ∙ ap (λ (xs : List UnitStep). xs ++ (Kept ∷ [])) (reverse-kept n) ∙
    replicate-append-replicate n 1 Kept ∙ ap (λ (m : ℕ). replicate m Kept) more

left-around : (steps middle : List UnitStep) (run : Run) (right : ℕ) → IsAround steps run middle right → IsChange middle →
    prefix_len is_kept steps ≡ run.start
left-around steps middle run right around change =
    ap (prefix_len is_kept) around.is ∙
    prefix-kept run.start (middle ++ replicate right Kept)
    (ap (λ (xs : List UnitStep). prefix_len is_kept (xs ++ replicate right Kept)) change.begins ∙
    prefix-change change.first (change.later ++ replicate right Kept) change.changes)

right-around : (steps middle : List UnitStep) (run : Run) (right : ℕ) → IsAround steps run middle right → IsChange middle →
    prefix_len is_kept (reverse steps) ≡ right
right-around steps middle run right around change =
    let front : List UnitStep = replicate run.start Kept in
    let tail : List UnitStep = replicate right Kept in
    let back : reverse (middle ++ tail) ≡ tail ++ reverse middle =
    reverse-append middle tail ∙ ap (λ (xs : List UnitStep). xs ++ reverse middle) (reverse-kept right) in
    let turned : reverse middle ≡ change.last ∷ reverse change.earlier = ap reverse change.ends ∙ reverse-append change.earlier (change.last ∷ []) in
    let whole : reverse steps ≡ tail ++ (reverse middle ++ reverse front) =
    ap reverse around.is ∙ reverse-append front (middle ++ tail) ∙ ap (λ (xs : List UnitStep). xs ++ reverse front) back ∙
    append_assoc tail (reverse middle) (reverse front) in
    ap (prefix_len is_kept) whole ∙
    prefix-kept right (reverse middle ++ reverse front)
    (ap (λ (xs : List UnitStep). prefix_len is_kept (xs ++ reverse front)) turned ∙
    prefix-change change.last (reverse change.earlier ++ reverse front) change.too)

-- ---- a text before and after an edit, in parts

pub record HasParts (units : UnitDelta) (text : List ℕ) (run : Run) : Type 0 where
  pub front : List ℕ
  pub gone : List ℕ
  pub come : List ℕ
  pub back : List ℕ
  pub before : text ≡ front ++ (gone ++ back)
  pub after : text_after units text ≡ front ++ (come ++ back)
  pub start : length front ≡ run.start
  pub end : length (front ++ gone) ≡ run.end
  pub few : lf_count come + 1 ≤ touched_lines units text

parts-few : (units : UnitDelta) (text front come back : List ℕ) (run : Run) (middle : List UnitStep) (right : ℕ) →
    IsAround (steps_of units) run middle right → text_after units text ≡ front ++ (come ++ back) → length front ≡ run.start → length back ≡ right →
    ((middle ≡ []) × (come ≡ [])) ⊎ IsChange middle → lf_count come + 1 ≤ touched_lines units text
parts-few units text front come back run middle right around after start end (inl none) = omega (arith, ap lf_count none.1)
parts-few units text front come back run middle right around after start end (inr change) =
    let left : kept_left units ≡ length front = left-around (steps_of units) middle run right around change ∙ sym start in
    let last : kept_right units ≡ length back = right-around (steps_of units) middle run right around change ∙ sym end in
    let whole : List ℕ = front ++ (come ++ back) in
    let few : length whole - length back - length front ≡ length come = omega (arith, length-append front (come ++ back), length-append come back) in
    let shown : slice_range whole (length front) (length whole - length back) ≡ come =
    ap₂ (λ (n : ℕ) (xs : List ℕ). take n xs) few (drop-append_seam front (come ++ back)) ∙ take-append_seam come back in
    let same : touched_lines units text ≡ lf_count come + 1 =
    ap (λ (t : List ℕ). lf_count (slice_range t (kept_left units) (length t - kept_right units)) + 1) after ∙
    ap₂ (λ (a b : ℕ). lf_count (slice_range whole a (length whole - b)) + 1) left last ∙ ap (λ (t : List ℕ). lf_count t + 1) shown in
    omega (arith, same)

-- AN EDIT IN PARTS: what it keeps before its first change and after its last, and between these what goes and what comes
pub parts-touched : (units : UnitDelta) (text : List ℕ) (run : Run) → units.base ≡ length text → IsTouched (steps_of units) run → HasParts units text run
parts-touched units text run base touched = record {
  front = front;
  gone = gone;
  come = come;
  back = back;
  before = sym (ap (λ (xs : List ℕ). front ++ xs) (take-append-drop count rest) ∙ take-append-drop run.start text);
  after = after;
  start = long;
  end = omega (arith, length-append front gone, long, length-take count rest, length-drop run.start text, room, touched.around.to);
  few = parts-few units text front come back run touched.middle touched.right touched.around after long right which;
}
  where
    made : IsMaking [] (steps_of units) text (text_after units text)
    made = IsMaking-start units (steps_of units) text text base refl refl

    rest : List ℕ
    rest = drop run.start text

    count : ℕ
    count = base_count touched.middle

    front : List ℕ
    front = take run.start text

    gone : List ℕ
    gone = take count rest

    come : List ℕ
    come = text_of_steps touched.middle gone

    back : List ℕ
    back = drop count rest

    tail : List UnitStep
    tail = replicate touched.right Kept

    room : run.start + (count + touched.right) ≡ length text
    room = omega (
      arith,
      made.room,
      ap base_count touched.around.is,
      base_count-append (replicate run.start Kept) (touched.middle ++ tail),
      base_count-append touched.middle tail,
      base_count-kept run.start,
      base_count-kept touched.right,
    )

    long : length front ≡ run.start
    long = omega (arith, length-take run.start text, room)

    right : length back ≡ touched.right
    right = omega (arith, length-drop count rest, length-drop run.start text, room)

    first : text_of_steps (replicate run.start Kept) (take (base_count (replicate run.start Kept)) text) ≡ front
    first =
        ap (λ (n : ℕ). text_of_steps (replicate run.start Kept) (take n text)) (base_count-kept run.start) ∙ text-kept run.start front long

    after : text_after units text ≡ front ++ (come ++ back)
    after =
        sym made.so_far ∙ ap (λ (steps : List UnitStep). text_of_steps steps text) touched.around.is ∙
        text-append (replicate run.start Kept) (touched.middle ++ tail) text (omega (arith, base_count-kept run.start, room)) ∙
        ap₂ (λ (xs ys : List ℕ). xs ++ ys) first
        (ap (λ (n : ℕ). text_of_steps (touched.middle ++ tail) (drop n text)) (base_count-kept run.start) ∙
        text-append touched.middle tail rest (omega (arith, length-drop run.start text, room)) ∙
        ap (λ (xs : List ℕ). come ++ xs) (text-kept touched.right back right))

    which : ((touched.middle ≡ []) × (come ≡ [])) ⊎ IsChange touched.middle
    which = elim touched.which [
      | inl none ↦ inl (none, ap (λ (steps : List UnitStep). text_of_steps steps (take (base_count steps) rest)) none)
      | inr change ↦ inr change
    ]

-- ---- the cuts after an edit

module _ (width tab : ℕ) where
  cuts-parted : (text : List ℕ) (line : ℕ) →
      cuts_of width tab text ≡ cuts_of_lines width tab (take line (logical_lines text)) ++ cuts_of_lines width tab (drop line (logical_lines text))
  cuts-parted text line =
      ap (cuts_of_lines width tab) (sym (take-append-drop line (logical_lines text))) ∙
      cuts_of_lines-append width tab (take line (logical_lines text)) (drop line (logical_lines text))

  take-cuts : (text : List ℕ) (line : ℕ) → take (cuts_before width tab text line) (cuts_of width tab text) ≡ cuts_of_lines width tab (take line (logical_lines text))
  take-cuts text line = ap (take (cuts_before width tab text line)) (cuts-parted text line) ∙
      take-append_seam (cuts_of_lines width tab (take line (logical_lines text))) (cuts_of_lines width tab (drop line (logical_lines text)))

  drop-cuts : (text : List ℕ) (line : ℕ) → drop (cuts_before width tab text line) (cuts_of width tab text) ≡ cuts_of_lines width tab (drop line (logical_lines text))
  drop-cuts text line = ap (drop (cuts_before width tab text line)) (cuts-parted text line) ∙
      drop-append_seam (cuts_of_lines width tab (take line (logical_lines text))) (cuts_of_lines width tab (drop line (logical_lines text)))

  pub cuts_before-inside : (text : List ℕ) (line : ℕ) → cuts_before width tab text line ≤ length (cuts_of width tab text)
  cuts_before-inside text line =
      omega (arith, ap length (cuts-parted text line), length-append (cuts_of_lines width tab (take line (logical_lines text))) (cuts_of_lines width tab (drop line (logical_lines text))))

  pub cuts_before-rise : (from to : ℕ) (lines : List (List ℕ)) → from ≤ to →
      length (cuts_of_lines width tab (take from lines)) ≤ length (cuts_of_lines width tab (take to lines))
  cuts_before-rise zero to lines le = omega arith
  cuts_before-rise (suc from) zero lines le = absurd (omega arith)
  cuts_before-rise (suc from) (suc to) [] le = omega arith
  cuts_before-rise (suc from) (suc to) (line ∷ lines) le =
      omega (
        arith,
        cuts_before-rise from to lines (omega arith),
        length-append (cuts_of_lines width tab (line ∷ [])) (cuts_of_lines width tab (take from lines)),
        length-append (cuts_of_lines width tab (line ∷ [])) (cuts_of_lines width tab (take to lines)),
        ap length (cuts_of_lines-append width tab (line ∷ []) (take from lines)),
        ap length (cuts_of_lines-append width tab (line ∷ []) (take to lines)),
      )

  -- WHAT AN EDIT LEAVES IS WHAT THE WHOLE TEXT GIVES
  pub cuts-edited : (text after front gone come back : List ℕ) → text ≡ front ++ (gone ++ back) → after ≡ front ++ (come ++ back) →
      replaced (cuts_of width tab text) (cuts_before width tab text (lf_count front)) (cuts_before width tab text (lf_count (front ++ gone) + 1))
      (cuts_of_lines width tab (slice_range (logical_lines after) (lf_count front) (lf_count (front ++ come) + 1))) ≡ cuts_of width tab after
  cuts-edited text after front gone come back is is_after =
      let new : List Cut = cuts_of_lines width tab (slice_range (logical_lines after) (lf_count front) (lf_count (front ++ come) + 1)) in
      ap₂ (λ (xs ys : List Cut). xs ++ (new ++ ys)) (take-cuts text (lf_count front)) (drop-cuts text (lf_count (front ++ gone) + 1)) ∙
      ap₂ (λ (t u : List ℕ). cuts_of_lines width tab (take (lf_count front) (logical_lines t)) ++
      (cuts_of_lines width tab (slice_range (logical_lines u) (lf_count front) (lf_count (front ++ come) + 1)) ++
      cuts_of_lines width tab (drop (lf_count (front ++ gone) + 1) (logical_lines t)))) is is_after ∙
      sym (cuts_of-touched width tab front gone come back) ∙ ap (cuts_of width tab) (sym is_after)

-- the logical line of a gap, by the front of the text up to there
pub line-front : (text front back : List ℕ) (gap : ℕ) → text ≡ front ++ back → length front ≡ gap → lf_count front ≡ layout_line_of (whole_lines text) gap
line-front text front back gap is long = layout-whole text front back gap is (omega (arith, long)) (inl long)
