use Rattle.std.proofs.Common.{rules, ◌≡◌, ◌<◌, ◌^◌, ◌-◌, ◌+◌, ◌++◌, ◌∷◌, [], ℕ, List, arith, append_assoc, ap, drop, get_or, length, map, subst, sym, ◌∙◌}
use Rattle.std.specs.Str.{chars, IsCharBoundary, IsUtf8}
use Rattle.std.proofs.lemmas.List.{drop-drop}
use Rattle.std.proofs.lemmas.Str.{IsUtf8-drop}
use Rattle.plain_text.specs.Text.{place_of}
use Rattle.plain_text.proofs.callers.PlaceLemmas.{chars-drop_place}
use Rattle.plain_text.proofs.callers.TextLemmas.{IsCharBoundary-gap}
use Rattle.span_runs.proofs.GapLemmas.{byte_len-chars, gaps-step, place-step, place_of-le, rise-step}
use Rattle.span_runs.proofs.places.places_of.Goals as goal

pub overflow_add-place : goal.overflow_add-place
overflow_add-place c =
    let line = chars c.args.line.now in
    let inv = c.loop-gap.invariant in
    let gap = get_or c.args.gaps.now c.loop-gap.gap-index 0 in
    let up = rise-step c.loop-gap.at c.args.len c.loop-gap.gap-index c.args.gaps.now 0 c.loop-gap-test.true inv.rise in
    let bound : length c.args.line.now < 2 ^ 63 = search rules in
    omega (
      arith,
      place-step line c.loop-gap.rest.now c.loop-gap.at gap c.loop-gap.place c.place_past-step.result inv.rest up.0 inv.place c.place_past-step.ensures,
      place_of-le line gap,
      byte_len-chars c.args.line.now c.utf8.line,
    )

pub split_at-requires : goal.split_at-requires
split_at-requires c = rw c.place_past-step.ensures (IsCharBoundary-gap _ _ c.loop-gap.invariant.utf8)

pub loop-gap-preserved : goal.loop-gap-preserved
loop-gap-preserved c =
    let line = chars c.args.line.now in
    let gaps = c.args.gaps.now in
    let i = c.loop-gap.gap-index in
    let gap = get_or gaps i 0 in
    let rest = c.loop-gap.rest.now in
    let inv = c.loop-gap.invariant in
    let up = rise-step c.loop-gap.at c.args.len i gaps 0 c.loop-gap-test.true inv.rise in
    let placed : c.loop-gap.place + c.place_past-step.result ≡ place_of line gap =
    place-step line rest c.loop-gap.at gap c.loop-gap.place c.place_past-step.result inv.rest up.0 inv.place c.place_past-step.ensures in
    let boundary : IsCharBoundary rest c.place_past-step.result = rw c.place_past-step.ensures (IsCharBoundary-gap rest (gap - c.loop-gap.at) inv.utf8) in
    let others = map (place_of line) (drop (i + 1) gaps) in
    let sum : c.loop-gap.at + (gap - c.loop-gap.at) ≡ gap = let le = up.0 in omega arith in record {
      shown = ap (λ (ps : List ℕ). ps ++ others) c.in_ok-push.ensures.pushed ∙
          append_assoc c.loop-gap.places ((c.loop-gap.place + c.place_past-step.result) ∷ []) others ∙
          ap (λ (p : ℕ). c.loop-gap.places ++ p ∷ others) placed ∙
          ap (λ (gs : List ℕ). c.loop-gap.places ++ map (place_of line) gs) (sym (gaps-step i gaps 0 c.loop-gap-test.true)) ∙ inv.shown;
      utf8 = subst IsUtf8 (sym c.split_at.ensures.back) (IsUtf8-drop rest c.place_past-step.result inv.utf8 boundary);
      rest = ap chars (c.split_at.ensures.back ∙ ap (λ (n : ℕ). drop n rest) c.place_past-step.ensures) ∙
          chars-drop_place rest (gap - c.loop-gap.at) inv.utf8 ∙ ap (drop (gap - c.loop-gap.at)) inv.rest ∙
          drop-drop (gap - c.loop-gap.at) c.loop-gap.at line ∙ ap (λ (n : ℕ). drop n line) sum;
      place = placed;
      rise = up.2;
      inside = up.1;
    }
