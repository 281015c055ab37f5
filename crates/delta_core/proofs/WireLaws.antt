-- The delta of the notices fits, and leads to the same text.
use Rattle.std.proofs.Common.{◌≡◌, ◌≢◌, ℕ, zero, suc, true, false, Bool, ◌+◌, ◌-◌, ◌<◌, ◌≤◌, List, None, [], ◌∷◌, ◌++◌, length, take, drop, replicate, append-nil, append_assoc, refl, ap, sym, ◌∙◌, arith, subst, ⊎_elim, length-append, length-drop, zero-add}
use Rattle.std.specs.Prelude.{if◌then◌else◌, nat_lt, nat_le, ◌==◌, ◌||◌, ◌&&◌, is_some, unwrap_or}
use Rattle.std.specs.Char.{len_utf8}
use Rattle.std.proofs.lemmas.Str.{len_utf8_bounds}
use Rattle.std.proofs.lemmas.Bool.{le-ltb, cases_eq}
use Rattle.std.proofs.lemmas.Bool.Decides.{nat_tests}
use Rattle.plain_text.specs.declared.run.Run.{Run}
use Rattle.plain_edits.specs.declared.delta.El.{El}
use Rattle.plain_edits.specs.declared.delta.El.TheVariants.{Copy, Insert}
use Rattle.plain_edits.specs.declared.delta.UnitDelta.{UnitDelta}
use Rattle.plain_text.specs.Woven.{woven}
use Rattle.plain_text.specs.Text.{byte_len, gap_of, is_place}
use Rattle.plain_edits.specs.Delta.{copies_misfit, is_in_runs, text_at_gap, kept_runs, insertions, applied, Fits}
use Rattle.plain_edits.specs.UnitDelta.{unit_keeps, unit_adds}
use Rattle.delta_core.specs.Inner.{run_to}
use Rattle.delta_core.specs.Inner.{Rise}
use Rattle.delta_core.specs.UnitStep.{UnitStep, Kept, Dropped}
use Rattle.delta_core.specs.Inner.{steps_from, text_of_steps}
use Rattle.delta_core.specs.Wire.{copy_before, text_before, wire_from, wire_of, IsWireOf}
use Rattle.plain_text.proofs.callers.PlaceLemmas.{IsPlaced, IsPlaced-from, gap_from-seam, gaps_rise}
use Rattle.delta_core.proofs.UnitLemmas.{CopyFits, CopyFits-from}
use Rattle.delta_core.proofs.WalkLemmas.{is_in_runs-before, steps_stretch, steps_from-same, added_next}
use Rattle.std.proofs.Math.Seq.{take-nil, drop-nil}
use Rattle.plain_edits.specs.UnitDelta.{IsUnitDelta}
use Rattle.delta_core.specs.Inner.{Gathered, whole}
use Rattle.delta_core.proofs.WireLemmas.{copy_before-nil, copy_before-touching, copy_before-apart, copy_before-text, IsWiring, wire_steps}
use Rattle.delta_core.proofs.StepLemmas.{text_of_steps-kept, text_of_steps-dropped, text_of_steps-added, text_of_steps-steps}

-- ---- fitting

pub CopyFits-to : (text : List ℕ) (end a b : ℕ) (els : List El) → CopyFits text end a b → copies_misfit text b els ≡ None → copies_misfit text end (Copy a b ∷ els) ≡ None
CopyFits-to text end a b els good rest =
    let one : nat_lt b a ≡ false = le-ltb b a good.rises in
    let two : nat_lt a end ≡ false = le-ltb a end good.after in
    let three : nat_lt (byte_len text) b ≡ false = le-ltb (byte_len text) b good.within in
    rw (one, two, three, good.start, good.stop) rest

-- the elements fit after a copy that ends at this place or left of it
abbrev pub FitFrom : List ℕ → ℕ → List El → Type 0
FitFrom text at els = (end : ℕ) → end ≤ at → copies_misfit text end els ≡ None

FitFrom-text : (text more : List ℕ) (at : ℕ) (els : List El) → FitFrom text at els → FitFrom text at (text_before more els)
FitFrom-text text [] at els fit = fit
FitFrom-text text (c ∷ more) at [] fit = fit
FitFrom-text text (c ∷ more) at (Copy a b ∷ els) fit = fit
FitFrom-text text (c ∷ more) at (Insert later ∷ els) fit = fit

moved : (text : List ℕ) (end a b : ℕ) → end ≤ a → CopyFits text a a b → CopyFits text end a b
moved text end a b low good = record { after = low; rises = good.rises; within = good.within; start = good.start; stop = good.stop }

FitFrom-copy : (text : List ℕ) (a b : ℕ) (els : List El) → a ≢ b → CopyFits text a a b → FitFrom text b els → FitFrom text a (copy_before a b els)
FitFrom-copy text a b [] some good fit = λ end low.
    rw (copy_before-nil a b some) (CopyFits-to text end a b [] (moved text end a b low good) refl)
FitFrom-copy text a b (Insert more ∷ els) some good fit = λ end low.
    rw (copy_before-text a b more els some) (CopyFits-to text end a b (Insert more ∷ els) (moved text end a b low good) (fit b (omega arith)))
FitFrom-copy text a b (Copy c d ∷ els) some good fit =
    ⊎_elim (λ (same : b ≡ c). λ (end : ℕ) (low : end ≤ a).
    let next = CopyFits-from text b b d els (ap (λ k. copies_misfit text b (Copy k d ∷ els)) same ∙ fit b (omega arith)) in
    ap (λ xs. copies_misfit text end xs) (ap (λ k. copy_before a b (Copy k d ∷ els)) (sym same) ∙ copy_before-touching a b d els some) ∙
    CopyFits-to text end a d els (record {
      after = low;
      rises = omega (arith, good.rises, next.0.rises);
      within = next.0.within;
      start = good.start;
      stop = next.0.stop;
    }) next.1)
    (λ (apart : b ≢ c). λ (end : ℕ) (low : end ≤ a).
    ap (λ xs. copies_misfit text end xs) (copy_before-apart a b c d els some apart) ∙
    CopyFits-to text end a b (Copy c d ∷ els) (moved text end a b low good) (fit b (omega arith))) (cases_eq b c)

byte_len-append : (front back : List ℕ) → byte_len (front ++ back) ≡ byte_len front + byte_len back
byte_len-append [] back = omega arith
byte_len-append (c ∷ front) back = omega (arith, byte_len-append front back)

is_place-seam : (front back : List ℕ) → is_place (front ++ back) (byte_len front) ≡ true
is_place-seam front back = ap is_some (gap_from-seam 0 front back)

gap_of-seam : (front back : List ℕ) → gap_of (front ++ back) (byte_len front) ≡ length front
gap_of-seam front back = ap (λ o. unwrap_or o 0) (gap_from-seam 0 front back) ∙ zero-add (length front)

-- a text, cut at a place and after the next character
pub record IsCut (text front back : List ℕ) (at : ℕ) : Type 0 where
  pub whole : text ≡ front ++ back
  pub reached : at ≡ byte_len front

pub place_of-cut : (text front back : List ℕ) (at : ℕ) → IsCut text front back at → is_place text at ≡ true
place_of-cut text front back at cut = rw (cut.whole, cut.reached) (is_place-seam front back)

pub gap_of-cut : (text front back : List ℕ) (at : ℕ) → IsCut text front back at → gap_of text at ≡ length front
gap_of-cut text front back at cut = rw (cut.whole, cut.reached) (gap_of-seam front back)

pub IsCut-next : (text front back : List ℕ) (c at : ℕ) → IsCut text front (c ∷ back) at → IsCut text (front ++ c ∷ []) back (at + len_utf8 c)
IsCut-next text front back c at cut = record {
  whole = cut.whole ∙ sym (append_assoc front (c ∷ []) back);
  reached = omega (arith, cut.reached, byte_len-append front (c ∷ []));
}

pub CopyFits-cut : (text front back : List ℕ) (c at : ℕ) → IsCut text front (c ∷ back) at → CopyFits text at at (at + len_utf8 c)
CopyFits-cut text front back c at cut =
    let next = IsCut-next text front back c at cut in
    record {
      after = omega arith;
      rises = omega arith;
      within = omega (arith, ap byte_len next.whole, next.reached, byte_len-append (front ++ c ∷ []) back);
      start = place_of-cut text front (c ∷ back) at cut;
      stop = place_of-cut text (front ++ c ∷ []) back (at + len_utf8 c) next;
    }

pub FitFrom-either : (b : Bool) (text : List ℕ) (at next : ℕ) (els : List El) → at < next → CopyFits text at at next → FitFrom text next els →
    FitFrom text at (if b then copy_before at next els else els)
FitFrom-either true text at next els less good fit = FitFrom-copy text at next els (omega arith) good fit
FitFrom-either false text at next els less good fit = λ end low. fit end (omega arith)

FitFrom-wire : (k : ℕ → Bool) (f : ℕ → List ℕ) (text front back : List ℕ) (gap at : ℕ) → IsCut text front back at → FitFrom text at (wire_from k f gap at back)
FitFrom-wire k f text front [] gap at cut = FitFrom-text text (f gap) at [] (λ end low. refl)
FitFrom-wire k f text front (c ∷ back) gap at cut =
    let rest = FitFrom-wire k f text (front ++ c ∷ []) back (gap + 1) (at + len_utf8 c) (IsCut-next text front back c at cut) in
    let wide = (len_utf8_bounds c).0 in
    FitFrom-text text (f gap) at _
    (FitFrom-either (k gap) text at (at + len_utf8 c) (wire_from k f (gap + 1) (at + len_utf8 c) back) (omega arith) (CopyFits-cut text front back c at cut) rest)

pub IsCut-start : (text : List ℕ) → IsCut text [] text 0
IsCut-start text = record { whole = refl; reached = refl }

pub Fits-wire : (k : ℕ → Bool) (f : ℕ → List ℕ) (text : List ℕ) → Fits text (record { els = wire_from k f 0 0 text; base_len = byte_len text })
Fits-wire k f text =
    let same : (byte_len text == byte_len text) ≡ true = grind (arith, nat_tests) in
    rw same (FitFrom-wire k f text [] text 0 0 (IsCut-start text) 0 (omega arith))

-- ---- what the elements of a delta that fits show, one after the other

abbrev shown : List ℕ → List El → List ℕ
shown text [] = []
shown text (Insert more ∷ els) = more ++ shown text els
shown text (Copy a b ∷ els) = take (gap_of text b - gap_of text a) (drop (gap_of text a) text) ++ shown text els

shown-text : (text more : List ℕ) (els : List El) → shown text (text_before more els) ≡ more ++ shown text els
shown-text text [] els = refl
shown-text text (c ∷ more) [] = refl
shown-text text (c ∷ more) (Copy a b ∷ els) = refl
shown-text text (c ∷ more) (Insert later ∷ els) = append_assoc (c ∷ more) later (shown text els)

take_sum : (m n total : ℕ) (xs : List ℕ) → total ≡ m + n → take total xs ≡ take m xs ++ take n (drop m xs)
take_sum zero n total xs is = ap (λ k. take k xs) (is ∙ zero-add n)
take_sum (suc m) n zero xs is = absurd (omega arith)
take_sum (suc m) n (suc total) [] is = sym (take-nil n)
take_sum (suc m) n (suc total) (x ∷ xs) is = ap (λ t. x ∷ t) (take_sum m n total xs (omega arith))

drop_sum : (m n total : ℕ) (xs : List ℕ) → total ≡ m + n → drop n (drop m xs) ≡ drop total xs
drop_sum zero n total xs is = ap (λ k. drop k xs) (sym (is ∙ zero-add n))
drop_sum (suc m) n zero xs is = absurd (omega arith)
drop_sum (suc m) n (suc total) [] is = drop-nil n
drop_sum (suc m) n (suc total) (x ∷ xs) is = drop_sum m n total xs (omega arith)

parts_joined : (text : List ℕ) (g h i : ℕ) → g ≤ h → h ≤ i → take (i - g) (drop g text) ≡ take (h - g) (drop g text) ++ take (i - h) (drop h text)
parts_joined text g h i one two =
    take_sum (h - g) (i - h) (i - g) (drop g text) (omega arith) ∙ ap (λ xs. take (h - g) (drop g text) ++ take (i - h) xs) (drop_sum g (h - g) h text (omega arith))

placed : (text : List ℕ) (at : ℕ) → is_place text at ≡ true → IsPlaced text at (gap_of text at)
placed text at is =
    let found = IsPlaced-from text at is in
    subst (λ (g : ℕ). IsPlaced text at g) (sym found.1.of) found.1

pub rises : (text : List ℕ) (a b : ℕ) → is_place text a ≡ true → is_place text b ≡ true → a ≤ b → gap_of text a ≤ gap_of text b
rises text a b one two low = gaps_rise text a b (gap_of text a) (gap_of text b) (placed text a one) (placed text b two) low

shown-copy : (text : List ℕ) (a b : ℕ) (els : List El) → a ≢ b → CopyFits text a a b → FitFrom text b els →
    shown text (copy_before a b els) ≡ take (gap_of text b - gap_of text a) (drop (gap_of text a) text) ++ shown text els
shown-copy text a b [] some good fit = ap (λ xs. shown text xs) (copy_before-nil a b some)
shown-copy text a b (Insert more ∷ els) some good fit = ap (λ xs. shown text xs) (copy_before-text a b more els some)
shown-copy text a b (Copy c d ∷ els) some good fit =
    ⊎_elim (λ (same : b ≡ c).
    let next = CopyFits-from text b b d els (ap (λ k. copies_misfit text b (Copy k d ∷ els)) same ∙ fit b (omega arith)) in
    ap (λ xs. shown text xs) (ap (λ k. copy_before a b (Copy k d ∷ els)) (sym same) ∙ copy_before-touching a b d els some) ∙
    ap (λ t. t ++ shown text els)
    (parts_joined text (gap_of text a) (gap_of text b) (gap_of text d) (rises text a b good.start good.stop good.rises) (rises text b d good.stop next.0.stop next.0.rises)) ∙
    append_assoc (take (gap_of text b - gap_of text a) (drop (gap_of text a) text)) (take (gap_of text d - gap_of text b) (drop (gap_of text b) text)) (shown text els) ∙
    ap (λ k. take (gap_of text b - gap_of text a) (drop (gap_of text a) text) ++ shown text (Copy k d ∷ els)) same)
    (λ (apart : b ≢ c). ap (λ xs. shown text xs) (copy_before-apart a b c d els some apart)) (cases_eq b c)

one_character : (front back : List ℕ) (c : ℕ) → take 1 (drop (length front) (front ++ c ∷ back)) ≡ c ∷ []
one_character [] back c = refl
one_character (d ∷ front) back c = one_character front back c

shown-either : (b : Bool) (text : List ℕ) (c at next : ℕ) (els : List El) → at < next → CopyFits text at at next → FitFrom text next els →
    take (gap_of text next - gap_of text at) (drop (gap_of text at) text) ≡ c ∷ [] →
    shown text (if b then copy_before at next els else els) ≡ (if b then c ∷ [] else []) ++ shown text els
shown-either true text c at next els less good fit one = shown-copy text at next els (omega arith) good fit ∙ ap (λ t. t ++ shown text els) one
shown-either false text c at next els less good fit one = refl

shown-wire : (k : ℕ → Bool) (f : ℕ → List ℕ) (text front back : List ℕ) (gap at : ℕ) → IsCut text front back at →
    shown text (wire_from k f gap at back) ≡ woven f (λ index c. if k index then c ∷ [] else []) gap back
shown-wire k f text front [] gap at cut = shown-text text (f gap) [] ∙ append-nil (f gap)
shown-wire k f text front (c ∷ back) gap at cut =
    let next = IsCut-next text front back c at cut in
    let wide = (len_utf8_bounds c).0 in
    let long : length (front ++ c ∷ []) ≡ length front + 1 = length-append front (c ∷ []) in
    let count : gap_of text (at + len_utf8 c) - gap_of text at ≡ 1 =
    omega (arith, gap_of-cut text front (c ∷ back) at cut, gap_of-cut text (front ++ c ∷ []) back (at + len_utf8 c) next, long) in
    let one : take (gap_of text (at + len_utf8 c) - gap_of text at) (drop (gap_of text at) text) ≡ c ∷ [] =
    rw (count, gap_of-cut text front (c ∷ back) at cut) (ap (λ t. take 1 (drop (length front) t)) cut.whole ∙ one_character front back c) in
    shown-text text (f gap) _ ∙
    ap (λ t. f gap ++ t)
    (shown-either (k gap) text c at (at + len_utf8 c) (wire_from k f (gap + 1) (at + len_utf8 c) back) (omega arith) (CopyFits-cut text front back c at cut)
    (FitFrom-wire k f text (front ++ c ∷ []) back (gap + 1) (at + len_utf8 c) next) one ∙
    ap (λ t. (if k gap then c ∷ [] else []) ++ t) (shown-wire k f text (front ++ c ∷ []) back (gap + 1) (at + len_utf8 c) next))

-- ---- a delta that fits gives what its elements show

Rise-kept : (text : List ℕ) (end : ℕ) (els : List El) → is_place text end ≡ true → copies_misfit text end els ≡ None → Rise (gap_of text end) (kept_runs text els)
Rise-kept text end [] place fit = tt
Rise-kept text end (Insert more ∷ els) place fit = Rise-kept text end els place fit
Rise-kept text end (Copy a b ∷ els) place fit =
    let good = CopyFits-from text end a b els fit in
    (rises text end a place good.0.start good.0.after, rises text a b good.0.start good.0.stop good.0.rises, Rise-kept text b els good.0.stop good.1)

nothing_before : (text : List ℕ) (end gap : ℕ) (els : List El) → is_place text end ≡ true → copies_misfit text end els ≡ None → gap < gap_of text end →
    text_at_gap (insertions text (gap_of text end) els) gap ≡ []
nothing_before text end gap [] place fit less = refl
nothing_before text end gap (Insert more ∷ els) place fit less =
    let other : (gap_of text end == gap) ≡ false = grind (arith, nat_tests) in
    rw other (nothing_before text end gap els place fit less)
nothing_before text end gap (Copy a b ∷ els) place fit less =
    let good = CopyFits-from text end a b els fit in
    let one = rises text end a place good.0.start good.0.after in
    let two = rises text a b good.0.start good.0.stop good.0.rises in
    nothing_before text b gap els good.0.stop good.1 (omega arith)

all_dropped : (gap n : ℕ) (text : List ℕ) → n ≡ length text → text_of_steps (steps_from (is_in_runs []) (text_at_gap []) gap n) text ≡ []
all_dropped gap n text all =
    ap (λ s. text_of_steps s text) (steps_stretch (is_in_runs []) (text_at_gap []) false gap n n (gap + n) 0 (omega arith) refl (λ j low high. refl) (λ j low high. refl)) ∙
    text_of_steps-dropped n [] text (omega arith)

pub in_run : (from to index : ℕ) (runs : List Run) → from ≤ index → index < to → is_in_runs (run_to from to ∷ runs) index ≡ true
in_run from to index runs low high =
    let one : nat_le from index ≡ true = grind (arith, nat_tests) in
    let two : nat_lt index to ≡ true = grind (arith, nat_tests) in
    rw (one, two) refl

pub left_of_run : (from to index : ℕ) (runs : List Run) → index < from → is_in_runs (run_to from to ∷ runs) index ≡ is_in_runs runs index
left_of_run from to index runs low =
    let one : nat_le from index ≡ false = grind (arith, nat_tests) in
    rw one refl

pub right_of_run : (from to index : ℕ) (runs : List Run) → to ≤ index → is_in_runs (run_to from to ∷ runs) index ≡ is_in_runs runs index
right_of_run from to index runs high =
    let two : nat_lt index to ≡ false = grind (arith, nat_tests) in
    rw two (and_false (nat_le from index) (is_in_runs runs index))
  where
    and_false : (b rest : Bool) → ((b && false) || rest) ≡ rest
    and_false true rest = refl
    and_false false rest = refl

gives_shown : (text : List ℕ) (end : ℕ) (els : List El) → is_place text end ≡ true → copies_misfit text end els ≡ None →
    text_of_steps (steps_from (is_in_runs (kept_runs text els)) (text_at_gap (insertions text (gap_of text end) els)) (gap_of text end) (length (drop (gap_of text end) text)))
    (drop (gap_of text end) text) ≡ shown text els
gives_shown text end [] place fit = all_dropped (gap_of text end) (length (drop (gap_of text end) text)) (drop (gap_of text end) text) refl
gives_shown text end (Insert more ∷ els) place fit =
    let g = gap_of text end in
    ap (λ s. text_of_steps s (drop g text))
    (added_next (is_in_runs (kept_runs text els)) g g (length (drop g text)) more (insertions text g (Insert more ∷ els)) (insertions text g els) refl) ∙
    text_of_steps-added more _ (drop g text) ∙ ap (λ t. more ++ t) (gives_shown text end els place fit)
gives_shown text end (Copy a b ∷ els) place fit =
    let good = CopyFits-from text end a b els fit in
    let g = gap_of text end in
    let ga = gap_of text a in
    let gb = gap_of text b in
    let runs = kept_runs text els in
    let K = is_in_runs (run_to ga gb ∷ runs) in
    let F = text_at_gap (insertions text gb els) in
    let one : g ≤ ga = rises text end a place good.0.start good.0.after in
    let two : ga ≤ gb = rises text a b good.0.start good.0.stop good.0.rises in
    let within : gb ≤ length text = (placed text b good.0.stop).within in
    let rise = Rise-kept text b els good.0.stop good.1 in
    let len_g : length (drop g text) ≡ length text - g = length-drop g text in
    let len_a : length (drop ga text) ≡ length text - ga = length-drop ga text in
    let len_b : length (drop gb text) ≡ length text - gb = length-drop gb text in
    let first : steps_from K F g (length (drop g text)) ≡ replicate (ga - g) Dropped ++ steps_from K F ga (length (drop ga text)) =
    steps_stretch K F false g (ga - g) (length (drop g text)) ga (length (drop ga text)) (omega arith) (omega arith)
    (λ j low high. left_of_run ga gb j runs high ∙ is_in_runs-before gb j runs rise (omega arith))
    (λ j low high. nothing_before text b j els good.0.stop good.1 (omega arith)) in
    let second : steps_from K F ga (length (drop ga text)) ≡ replicate (gb - ga) Kept ++ steps_from K F gb (length (drop gb text)) =
    steps_stretch K F true ga (gb - ga) (length (drop ga text)) gb (length (drop gb text)) (omega arith) (omega arith)
    (λ j low high. in_run ga gb j runs low high)
    (λ j low high. nothing_before text b j els good.0.stop good.1 high) in
    let third : steps_from K F gb (length (drop gb text)) ≡ steps_from (is_in_runs runs) F gb (length (drop gb text)) =
    steps_from-same K (is_in_runs runs) F F gb (length (drop gb text)) (λ j low. right_of_run ga gb j runs low) (λ j low. refl) in
    ap (λ s. text_of_steps s (drop g text)) first ∙ text_of_steps-dropped (ga - g) _ (drop g text) (omega arith) ∙
    ap (λ t. text_of_steps (steps_from K F ga (length (drop ga text))) t) (drop_sum g (ga - g) ga text (omega arith)) ∙
    ap (λ s. text_of_steps s (drop ga text)) second ∙ text_of_steps-kept (gb - ga) _ (drop ga text) (omega arith) ∙
    ap (λ t. take (gb - ga) (drop ga text) ++ t)
    (ap (λ t. text_of_steps (steps_from K F gb (length (drop gb text))) t) (drop_sum ga (gb - ga) gb text (omega arith)) ∙
    ap (λ s. text_of_steps s (drop gb text)) third ∙ gives_shown text b els good.0.stop good.1)

starts : (text : List ℕ) → (is_place text 0 ≡ true) × (gap_of text 0 ≡ 0)
starts [] = (refl, refl)
starts (c ∷ text) = (refl, refl)

-- a delta that fits gives what its elements show, one after the other
pub applied-shown : (text : List ℕ) (els : List El) → copies_misfit text 0 els ≡ None →
    applied (is_in_runs (kept_runs text els)) (text_at_gap (insertions text 0 els)) text ≡ shown text els
applied-shown text els fit =
    let start = starts text in
    let all = gives_shown text 0 els start.0 fit in
    sym (text_of_steps-steps (is_in_runs (kept_runs text els)) (text_at_gap (insertions text 0 els)) 0 text) ∙ rw start.1 at all

-- and the elements of what is kept and added lead to what that makes of the text
pub applied-wire : (k : ℕ → Bool) (f : ℕ → List ℕ) (text : List ℕ) →
    applied (is_in_runs (kept_runs text (wire_from k f 0 0 text))) (text_at_gap (insertions text 0 (wire_from k f 0 0 text))) text ≡ applied k f text
applied-wire k f text =
    applied-shown text (wire_from k f 0 0 text) (FitFrom-wire k f text [] text 0 0 (IsCut-start text) 0 (omega arith)) ∙
    shown-wire k f text [] text 0 0 (IsCut-start text)

pub IsWireOf-wire_of : (text : List ℕ) (units : UnitDelta) → units.base ≡ length text → IsWireOf text units (wire_of text units)
IsWireOf-wire_of text units same = record {
  is = refl;
  fits = Fits-wire (unit_keeps units) (unit_adds units) text;
  leads = applied-wire (unit_keeps units) (unit_adds units) text;
}

pub IsWireOf-all : (w : Gathered) (units : UnitDelta) (at base_len : ℕ) (steps : List UnitStep) (text before : List ℕ) (els : List El) → IsUnitDelta units →
    units.base ≡ length before → IsWiring w at steps text before (wire_from (unit_keeps units) (unit_adds units) 0 0 before) → steps ≡ [] → els ≡ whole w [] →
    base_len ≡ byte_len before → IsWireOf before units (record { els = els; base_len = base_len })
IsWireOf-all w units at base_len steps text before els good same wiring none els_is len_is =
    let all : els ≡ wire_from (unit_keeps units) (unit_adds units) 0 0 before = els_is ∙ sym (ap (λ s. whole w (wire_steps at s text)) none) ∙ wiring.so_far in
    rw (all, len_is) (IsWireOf-wire_of before units same)
