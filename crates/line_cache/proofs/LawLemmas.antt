-- Lemmas on runs beside the lists of screens and plans.
use Rattle.std.proofs.Common.{◌≡◌, ℕ, zero, suc, ◌+◌, Bool, true, false, List, [], ◌∷◌, ◌++◌, length, map, replicate, refl, sym, ap, ap₂, ◌∙◌, arith}
use Rattle.std.specs.Prelude.{Option}
use Rattle.std.specs.List.{range_with_len, zip}
use Rattle.std.proofs.lemmas.List.{map-append}
use Rattle.std.proofs.lemmas.List.Concat.{flat_map-cons}
use Rattle.plain_text.specs.declared.run.Run.{Run}
use Rattle.plain_screen.specs.declared.screen.Line.{Line}
use Rattle.plain_screen.specs.Plan.{Standing, stays, is_restyled, is_sent, is_left, standing, with_standings, joined_ops, ops_for, update_plan, shown_as}
use Rattle.line_cache.specs.Mirror.{is_valid, valid_lines}
use Rattle.line_cache.specs.Standings.{standings}
use Rattle.line_cache.specs.Steps.{lines_of, is_shown, standings_in, standings_of, shown_by}
use Rattle.line_cache.specs.declared.step.Step.{Step}
use Rattle.line_cache.specs.declared.step.Step.TheVariants.{Keep, Restyle, Send, Drop}

-- ---- standings without lines

pub standings-apart : (window request : Run) (index : ℕ) (partners : List (Option (ℕ × Bool))) (lines : List Line) → length partners ≡ length lines →
    with_standings window request index partners lines ≡ zip (standings window request index partners) lines
standings-apart window request index [] [] same = refl
standings-apart window request index [] (line ∷ lines) same = absurd (omega arith)
standings-apart window request index (partner ∷ partners) [] same = absurd (omega arith)
standings-apart window request index (partner ∷ partners) (line ∷ lines) same =
    ap (λ those. (standing window request index partner, line) ∷ those) (standings-apart window request (index + 1) partners lines (omega arith))

pub update_plan-apart : (window request : Run) (partners : List (Option (ℕ × Bool))) (lines : List Line) → length partners ≡ length lines →
    update_plan window request lines partners ≡ joined_ops (ops_for 0 (zip (standings window request 0 partners) lines))
update_plan-apart window request partners lines same =
    ap (λ those. joined_ops (ops_for 0 those)) (standings-apart window request 0 partners lines same)

-- ---- which lines are valid after a plan

unfoldable pub is_there : Standing → Bool
is_there (stays old) = true
is_there (is_restyled old) = true
is_there is_sent = true
is_there is_left = false

valid-shown : (how : Standing) (line : Line) → is_valid (shown_as (how, line)) ≡ is_there how
unfolding is_there
valid-shown (stays old) line = refl
valid-shown (is_restyled old) line = refl
valid-shown is_sent line = refl
valid-shown is_left line = refl

valid-planned : (window request : Run) (index : ℕ) (partners : List (Option (ℕ × Bool))) (lines : List Line) → length partners ≡ length lines →
    valid_lines (map shown_as (with_standings window request index partners lines)) ≡ map is_there (standings window request index partners)
valid-planned window request index [] [] same = refl
valid-planned window request index [] (line ∷ lines) same = absurd (omega arith)
valid-planned window request index (partner ∷ partners) [] same = absurd (omega arith)
valid-planned window request index (partner ∷ partners) (line ∷ lines) same =
    ap₂ (λ b bs. b ∷ bs) (valid-shown (standing window request index partner) line)
    (valid-planned window request (index + 1) partners lines (omega arith))

there-olds : (kind : ℕ → Standing) (old n : ℕ) → ((k : ℕ) → is_there (kind k) ≡ true) → map is_there (map kind (range_with_len old n)) ≡ replicate n true
there-olds kind old zero all = refl
there-olds kind old (suc n) all = ap₂ (λ b bs. b ∷ bs) (all old) (there-olds kind (old + 1) n all)

there-same : (how : Standing) (n : ℕ) → map is_there (replicate n how) ≡ replicate n (is_there how)
there-same how zero = refl
there-same how (suc n) = ap (λ bs. is_there how ∷ bs) (there-same how n)

there-step : (step : Step) → map is_there (standings_in step) ≡ replicate (lines_of step) (is_shown step)
unfolding is_there
there-step (Keep old n) = there-olds stays old n (λ k. refl)
there-step (Restyle old n) = there-olds is_restyled old n (λ k. refl)
there-step (Send first n) = there-same is_sent n
there-step (Drop n) = there-same is_left n

pub there-plan : (plan : List Step) → map is_there (standings_of plan) ≡ shown_by plan
there-plan [] = refl
there-plan (step ∷ plan) =
    ap (map is_there) (flat_map-cons standings_in step plan) ∙ map-append is_there (standings_in step) (standings_of plan) ∙
    ap₂ (λ xs ys. xs ++ ys) (there-step step) (there-plan plan) ∙
    sym (flat_map-cons (λ those. replicate (lines_of those) (is_shown those)) step plan)

pub valid-plan : (window request : Run) (partners : List (Option (ℕ × Bool))) (lines : List Line) (plan : List Step) → length partners ≡ length lines →
    standings_of plan ≡ standings window request 0 partners →
    valid_lines (map shown_as (with_standings window request 0 partners lines)) ≡ shown_by plan
valid-plan window request partners lines plan same are =
    valid-planned window request 0 partners lines same ∙ ap (map is_there) (sym are) ∙ there-plan plan
