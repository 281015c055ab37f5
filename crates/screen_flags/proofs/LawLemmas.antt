-- The flags of a screen follow it.
use Rattle.std.proofs.Common.{◌≡◌, ℕ, zero, suc, Bool, true, false, List, [], ◌∷◌, ◌++◌, length, map, take, drop, replicate, Option, Some, None, refl, ap, sym, ◌∙◌}
use Rattle.std.proofs.lemmas.List.{drop-map, map-append, take-map}
use Rattle.std.specs.Prelude.{if◌then◌else◌, nat_le, is_some, option_map, unwrap_or}
use Rattle.plain_screen.specs.declared.screen.Line.{Line}
use Rattle.plain_screen.specs.declared.screen.Restyle.{Restyle}
use Rattle.plain_screen.specs.declared.screen.Op.{Op}
use Rattle.plain_screen.specs.declared.screen.Op.TheVariants.{Copy, Skip, Invalidate, Ins, Update}
use Rattle.plain_screen.specs.Screen.{Screen, copied, number_after, numbered_from, restyled_lines, screen_after}
use Rattle.screen_flags.specs.declared.change.Change.{Change}
use Rattle.screen_flags.specs.Flags.{change_of, count_valid, flags_after, flags_of, valid_lines}
use Rattle.screen_flags.specs.Laws.{FlagsCount, FlagsFollow}

-- ---- what is shown anew is as valid as before

flags-numbered : (number : ℕ) (screen : Screen) → flags_of (numbered_from number screen) ≡ flags_of screen
flags-numbered number [] = refl
flags-numbered number (None ∷ screen) = ap (λ flags. false ∷ flags) (flags-numbered number screen)
flags-numbered number (Some line ∷ screen) = ap (λ flags. true ∷ flags) (flags-numbered (number_after line.ln number) screen)

flags-copied : (ln : Option ℕ) (screen : Screen) → flags_of (copied ln screen) ≡ flags_of screen
flags-copied None screen = refl
flags-copied (Some number) screen = flags-numbered number screen

flags-restyled : (restyles : List Restyle) (screen : Screen) → flags_of (restyled_lines restyles screen) ≡ take (length restyles) (flags_of screen)
flags-restyled [] screen = refl
flags-restyled (restyle ∷ restyles) [] = refl
flags-restyled (restyle ∷ restyles) (None ∷ screen) = ap (λ flags. false ∷ flags) (flags-restyled restyles screen)
flags-restyled (restyle ∷ restyles) (Some line ∷ screen) = ap (λ flags. true ∷ flags) (flags-restyled restyles screen)

flags-sent : (lines : List Line) → flags_of (map Some lines) ≡ replicate (length lines) true
flags-sent [] = refl
flags-sent (line ∷ lines) = ap (λ flags. true ∷ flags) (flags-sent lines)

flags-lost : (n : ℕ) → flags_of (replicate n None) ≡ replicate n false
flags-lost zero = refl
flags-lost (suc n) = ap (λ flags. false ∷ flags) (flags-lost n)

-- ---- operations

same_some : {A : Type 0} {a b : A} → Some a ≡ Some b → a ≡ b
same_some {A} {a} {b} is = ap (λ o. unwrap_or o a) is

-- lines before what others make
abbrev before_rest : Screen → Option Screen → Option Screen
before_rest front rest = option_map (λ lines. front ++ lines) rest

-- so do their flags
flags-before : (front : Screen) (rest : Option Screen) (new : Screen) (flags : List Bool) → before_rest front rest ≡ Some new →
    ((lines : Screen) → rest ≡ Some lines → flags_of lines ≡ flags) → flags_of new ≡ flags_of front ++ flags
flags-before front None new flags made others = absurd cc
flags-before front (Some lines) new flags made others =
    ap flags_of (sym (same_some made)) ∙ map-append is_some front lines ∙ ap (λ l. flags_of front ++ l) (others lines refl)

in_if : (test : Bool) (rest : Option Screen) (new : Screen) → (if test then rest else None) ≡ Some new → rest ≡ Some new
in_if true rest new made = made
in_if false rest new made = absurd cc

-- the flags of what is made of the old lines behind so many
behind : (n : ℕ) (old lines : Screen) (changes : List Change) → flags_of lines ≡ flags_after (flags_of (drop n old)) changes →
    flags_of lines ≡ flags_after (drop n (flags_of old)) changes
behind n old lines changes is = is ∙ ap (λ flags. flags_after flags changes) (sym (drop-map is_some n old))

follow : (old new : Screen) (ops : List Op) → screen_after old ops ≡ Some new → flags_of new ≡ flags_after (flags_of old) (map change_of ops)
follow old new [] made = ap flags_of (sym (same_some made))
follow old new (Copy n ln ∷ ops) made =
    let rest = screen_after (drop n old) ops in
    let flags = flags_after (drop n (flags_of old)) (map change_of ops) in
    flags-before (copied ln (take n old)) rest new flags (in_if (nat_le n (length old)) (before_rest (copied ln (take n old)) rest) new made)
    (λ lines is. behind n old lines (map change_of ops) (follow (drop n old) lines ops is)) ∙
    ap (λ front. front ++ flags) (flags-copied ln (take n old) ∙ sym (take-map is_some n old))
follow old new (Skip n ∷ ops) made =
    behind n old new (map change_of ops)
    (follow (drop n old) new ops (in_if (nat_le n (length old)) (screen_after (drop n old) ops) new made))
follow old new (Invalidate n ∷ ops) made =
    let flags = flags_after (flags_of old) (map change_of ops) in
    flags-before (replicate n None) (screen_after old ops) new flags made (λ lines is. follow old lines ops is) ∙
    ap (λ front. front ++ flags) (flags-lost n)
follow old new (Ins sent ∷ ops) made =
    let flags = flags_after (flags_of old) (map change_of ops) in
    flags-before (map Some sent) (screen_after old ops) new flags made (λ lines is. follow old lines ops is) ∙
    ap (λ front. front ++ flags) (flags-sent sent)
follow old new (Update ln restyles ∷ ops) made =
    let n = length restyles in
    let rest = screen_after (drop n old) ops in
    let flags = flags_after (drop n (flags_of old)) (map change_of ops) in
    flags-before (copied ln (restyled_lines restyles old)) rest new flags
    (in_if (nat_le n (length old)) (before_rest (copied ln (restyled_lines restyles old)) rest) new made) (λ lines is. behind n old lines (map change_of ops) (follow (drop n old) lines ops is)) ∙
    ap (λ front. front ++ flags) (flags-copied ln (restyled_lines restyles old) ∙ flags-restyled restyles old)

pub flags_follow : FlagsFollow
flags_follow old new ops made = follow old new ops made

-- ---- how many are valid

counts : (screen : Screen) → count_valid (flags_of screen) ≡ valid_lines screen
counts [] = refl
counts (None ∷ screen) = counts screen
counts (Some line ∷ screen) = ap suc (counts screen)

pub flags_count : FlagsCount
flags_count screen = counts screen
