-- Lemmas on styles that say the same.
use Rattle.std.proofs.Common.{◌≡◌, ℕ, Bool, true, Option, Some, None, refl, ap, ◌∙◌}
use Rattle.std.specs.Prelude.{Decides, nat_eq}
use Rattle.std.specs.Bool.{beq}
use Rattle.std.specs.Cmp.{booleans_Decides, unsigned_Decides}
use Rattle.std.specs.Option.{option_eq}
use Rattle.std.proofs.lemmas.Bool.{and_from, and_parts}
use Rattle.plain_edits.specs.declared.style.Style.{Style}
use Rattle.style_numbers.specs.Numbers.{is_same}

option_Decides : {X : Type 0} (test : X → X → Bool) → ((a b : X) → Decides (test a b) (a ≡ b)) → (a b : Option X) → Decides (option_eq test a b) (a ≡ b)
option_Decides test decides None None = (λ is. refl, λ is. refl)
option_Decides test decides None (Some b) = (λ is. absurd (let no = is in cc), λ is. absurd (let no = is in cc))
option_Decides test decides (Some a) None = (λ is. absurd (let no = is in cc), λ is. absurd (let no = is in cc))
option_Decides test decides (Some a) (Some b) = (λ is. ap Some ((decides a b).0 is), λ is. (decides a b).1 (let same : a ≡ b = cc in same))

numbers : (a b : Option ℕ) → Decides (option_eq nat_eq a b) (a ≡ b)
numbers = option_Decides nat_eq unsigned_Decides

truths : (a b : Option Bool) → Decides (option_eq beq a b) (a ≡ b)
truths = option_Decides beq booleans_Decides

-- two that say the same are one
pub same_style : (a b : Style) → is_same a b ≡ true → a ≡ b
same_style a b is =
    let one = and_parts (option_eq nat_eq a.fg_color b.fg_color) _ is in
    let two = and_parts (option_eq nat_eq a.bg_color b.bg_color) _ one.1 in
    let three = and_parts (option_eq nat_eq a.weight b.weight) _ two.1 in
    let four = and_parts (option_eq beq a.italic b.italic) (option_eq beq a.underline b.underline) three.1 in
    let fg : Option ℕ → Style = λ x. record { fg_color = x; bg_color = a.bg_color; weight = a.weight; italic = a.italic; underline = a.underline } in
    let bg : Option ℕ → Style = λ x. record { fg_color = b.fg_color; bg_color = x; weight = a.weight; italic = a.italic; underline = a.underline } in
    let weight : Option ℕ → Style = λ x. record { fg_color = b.fg_color; bg_color = b.bg_color; weight = x; italic = a.italic; underline = a.underline } in
    let italic : Option Bool → Style = λ x. record { fg_color = b.fg_color; bg_color = b.bg_color; weight = b.weight; italic = x; underline = a.underline } in
    let underline : Option Bool → Style = λ x. record { fg_color = b.fg_color; bg_color = b.bg_color; weight = b.weight; italic = b.italic; underline = x } in
    ap fg ((numbers a.fg_color b.fg_color).0 one.0) ∙ ap bg ((numbers a.bg_color b.bg_color).0 two.0) ∙
    ap weight ((numbers a.weight b.weight).0 three.0) ∙ ap italic ((truths a.italic b.italic).0 four.0) ∙
    ap underline ((truths a.underline b.underline).0 four.1)

-- and one says the same as itself
pub style_itself : (a : Style) → is_same a a ≡ true
style_itself a =
    and_from (option_eq nat_eq a.fg_color a.fg_color) _ ((numbers a.fg_color a.fg_color).1 refl)
    (and_from (option_eq nat_eq a.bg_color a.bg_color) _ ((numbers a.bg_color a.bg_color).1 refl)
    (and_from (option_eq nat_eq a.weight a.weight) _ ((numbers a.weight a.weight).1 refl)
    (and_from (option_eq beq a.italic a.italic) (option_eq beq a.underline a.underline) ((truths a.italic a.italic).1 refl)
    ((truths a.underline a.underline).1 refl))))
