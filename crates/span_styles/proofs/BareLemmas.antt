-- A layer in which no character has a style is one run without any, or none.
use Rattle.std.proofs.Common.{◌≡◌, ◌↔◌, ℕ, zero, suc, ◌-◌, ◌<◌, false, List, [], ◌∷◌, ◌++◌, length, replicate, Option, Some, None, is_some, refl, ap, sym, ◌∙◌, arith, append-nil}
use Rattle.std.proofs.lemmas.List.{length-replicate}
use Rattle.plain_edits.specs.Styles.{Layer}
use Rattle.span_styles.specs.declared.run.StyleRun.{StyleRun}
use Rattle.span_styles.specs.Inner.{layer_of, AreStyleRuns, has_style}

first_style : (n : ℕ) (style : Option ℕ) (rest : Layer) (m : ℕ) → 0 < n → replicate n style ++ rest ≡ replicate m None → style ≡ None
first_style zero style rest m some bare = absurd (omega arith)
first_style (suc n) style rest zero some bare = absurd (let no = bare in cc)
first_style (suc n) style rest (suc m) some bare = cc

rest_bare : (n : ℕ) (style : Option ℕ) (rest : Layer) (m : ℕ) → replicate n style ++ rest ≡ replicate m None → rest ≡ replicate (m - n) None
rest_bare zero style rest m bare = let all : m ≡ m - 0 = omega arith in bare ∙ ap (λ k. replicate k None) all
rest_bare (suc n) style rest zero bare = absurd (let no = bare in cc)
rest_bare (suc n) style rest (suc m) bare =
    let tail : replicate n style ++ rest ≡ replicate m None = cc in
    let less : m - n ≡ suc m - suc n = omega arith in
    rest_bare n style rest m tail ∙ ap (λ k. replicate k None) less

pub no_style : (runs : List StyleRun) → AreStyleRuns 0 runs → (has_style runs ≡ false) ↔ (layer_of 0 runs ≡ replicate (length (layer_of 0 runs)) None)
no_style [] are = (λ is. refl, λ bare. refl)
no_style (run ∷ []) are = (λ is. to run.style is, λ bare. back run.style (first_style (run.end - 0) run.style [] _ (omega (arith, are.0)) bare))
  where
    to : (style : Option ℕ) → is_some style ≡ false → replicate (run.end - 0) style ++ [] ≡ replicate (length (replicate (run.end - 0) style ++ [])) None
    to None is =
        let none : Option ℕ = None in
        let whole : replicate (run.end - 0) none ++ [] ≡ replicate (run.end - 0) none = append-nil (replicate (run.end - 0) none) in
        whole ∙ ap (λ n. replicate n None) (sym (ap length whole ∙ length-replicate (run.end - 0) None))
    to (Some id) is = absurd (let no = is in cc)

    back : (style : Option ℕ) → style ≡ None → is_some style ≡ false
    back None is = refl
    back (Some id) is = absurd (let no = is in cc)
no_style (run ∷ next ∷ runs) are = (
  λ is. absurd (let no = is in cc),
  λ bare.
      let first = first_style (run.end - 0) run.style _ _ (omega (arith, are.0)) bare in
      let later = first_style (next.end - run.end) next.style _ _ (omega (arith, are.2.0)) (rest_bare (run.end - 0) run.style _ _ bare) in
      absurd (are.1 (first ∙ sym later)),
)
