-- Lemmas on screens, and on the operations of an update.
use Rattle.std.proofs.Common.{◌≡◌, ℕ, suc, ◌+◌, ◌≤◌, Bool, true, false, nat_le, List, [], ◌∷◌, ◌++◌, length, take, drop, Option, Some, None, refl, ap, arith, length-append}
use Rattle.std.specs.Prelude.{if◌then◌else◌, IfSome}
use Rattle.std.specs.Option.{option_map}
use Rattle.std.proofs.lemmas.Grind.{common_steps}
use Rattle.std.proofs.lemmas.Bool.{leb-true}
use Rattle.std.proofs.lemmas.Bool.Decides.{nat_tests}
use Rattle.plain_screen.specs.declared.screen.Restyle.{Restyle}
use Rattle.plain_screen.specs.declared.screen.Op.{Op}
use Rattle.plain_screen.specs.declared.screen.Op.TheVariants.{Copy, Skip, Invalidate, Ins, Update}
use Rattle.plain_screen.specs.Screen.{Screen, number_after, numbered_from, copied, restyled_lines, screen_after, line_count}

-- a copy has as many lines as it takes
pub length-numbered_from : (number : ℕ) (lines : Screen) → length (numbered_from number lines) ≡ length lines
length-numbered_from number [] = refl
length-numbered_from number (None ∷ lines) = ap suc (length-numbered_from number lines)
length-numbered_from number (Some line ∷ lines) = ap suc (length-numbered_from (number_after line.ln number) lines)

pub length-copied : (ln : Option ℕ) (lines : Screen) → length (copied ln lines) ≡ length lines
length-copied None lines = refl
length-copied (Some number) lines = length-numbered_from number lines

-- an update has as many lines as it says, where there are so many
pub length-restyled_lines : (restyles : List Restyle) (lines : Screen) → length restyles ≤ length lines →
    length (restyled_lines restyles lines) ≡ length restyles
length-restyled_lines [] lines enough = refl
length-restyled_lines (restyle ∷ restyles) [] enough = absurd (omega arith)
length-restyled_lines (restyle ∷ restyles) (None ∷ lines) enough = ap suc (length-restyled_lines restyles lines (omega arith))
length-restyled_lines (restyle ∷ restyles) (Some line ∷ lines) enough = ap suc (length-restyled_lines restyles lines (omega arith))

-- a fact of an option, through a map and behind a test
pub IfSome-option_map : {X Y : Type 0} (o : Option X) (f : X → Y) (P : X → Type 0) (Q : Y → Type 0) → ((x : X) → P x → Q (f x)) →
    IfSome o P → IfSome (option_map f o) Q
IfSome-option_map None f P Q step fact = tt
IfSome-option_map (Some x) f P Q step fact = step x fact

pub IfSome-if : {X : Type 0} (b : Bool) (o : Option X) (P : X → Type 0) → (b ≡ true → IfSome o P) → IfSome (if b then o else None) P
IfSome-if true o P fact = fact refl
IfSome-if false o P fact = tt

-- operations make as many lines as they say
pub lines_add_up : (ops : List Op) (old : Screen) → IfSome (screen_after old ops) (λ lines. length lines ≡ line_count ops)
lines_add_up [] old = refl
lines_add_up (Copy n ln ∷ ops) old =
    IfSome-if (nat_le n (length old)) _ _
    (λ enough. IfSome-option_map (screen_after (drop n old) ops) _ (λ lines. length lines ≡ line_count ops) _
    (λ lines sum. copy_adds n ln old ops lines enough sum) (lines_add_up ops (drop n old)))
  where
    copy_adds : (n : ℕ) (ln : Option ℕ) (old : Screen) (ops : List Op) (lines : Screen) → nat_le n (length old) ≡ true →
        length lines ≡ line_count ops → length (copied ln (take n old) ++ lines) ≡ n + line_count ops
    copy_adds n ln old ops lines enough sum =
        let both = length-append (copied ln (take n old)) lines in
        let taken = length-copied ln (take n old) in
        grind (arith, common_steps, nat_tests, both, taken)
lines_add_up (Skip n ∷ ops) old = IfSome-if (nat_le n (length old)) _ _ (λ enough. lines_add_up ops (drop n old))
lines_add_up (Invalidate n ∷ ops) old =
    IfSome-option_map (screen_after old ops) _ (λ lines. length lines ≡ line_count ops) _
    (λ lines sum. grind (arith, common_steps)) (lines_add_up ops old)
lines_add_up (Ins new ∷ ops) old =
    IfSome-option_map (screen_after old ops) _ (λ lines. length lines ≡ line_count ops) _
    (λ lines sum. grind (arith, common_steps)) (lines_add_up ops old)
lines_add_up (Update ln restyles ∷ ops) old =
    IfSome-if (nat_le (length restyles) (length old)) _ _
    (λ enough. IfSome-option_map (screen_after (drop (length restyles) old) ops) _ (λ lines. length lines ≡ line_count ops) _
    (λ lines sum. update_adds ln restyles old ops lines (leb-true (length restyles) (length old) enough) sum) (lines_add_up ops (drop (length restyles) old)))
  where
    update_adds : (ln : Option ℕ) (restyles : List Restyle) (old : Screen) (ops : List Op) (lines : Screen) → length restyles ≤ length old →
        length lines ≡ line_count ops → length (copied ln (restyled_lines restyles old) ++ lines) ≡ length restyles + line_count ops
    update_adds ln restyles old ops lines enough sum =
        let both = length-append (copied ln (restyled_lines restyles old)) lines in
        let taken = length-copied ln (restyled_lines restyles old) in
        let long = length-restyled_lines restyles old enough in
        omega (arith, both, taken, long, sum)

-- two maps of an option are one
pub option_map-option_map : {X Y Z : Type 0} (f : Y → Z) (g : X → Y) (o : Option X) →
    option_map f (option_map g o) ≡ option_map (λ x. f (g x)) o
option_map-option_map f g None = refl
option_map-option_map f g (Some x) = refl
