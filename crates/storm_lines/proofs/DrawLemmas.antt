-- The words that are left of so many.
use Rattle.std.proofs.Common.{◌≡◌, ℕ, zero, suc, ◌-◌, ◌<◌, [], ◌∷◌, ap, ◌∙◌, sym, arith}
use Rattle.rand_core.specs.Steps.{first_words}
use Rattle.rand_pcg.specs.Lcg.{Lcg}
use Rattle.rand_pcg.specs.Pcg.{pcg32}

pub draws_none : (count : ℕ) (words : Lcg) → count ≡ 0 → first_words pcg32 count words ≡ []
unfolding first_words
draws_none count words none = ap (λ n. first_words pcg32 n words) none

pub draws_next : (count : ℕ) (words after : Lcg) (word : ℕ) → 0 < count → (word, after) ≡ pcg32 words →
    first_words pcg32 count words ≡ word ∷ first_words pcg32 (count - 1) after
unfolding first_words
draws_next zero words after word some is = absurd (omega (arith, some))
draws_next (suc count) words after word some is =
    let left : count ≡ suc count - 1 = omega arith in
    ap (λ p. p.0 ∷ first_words pcg32 count p.1) (sym is) ∙ ap (λ n. word ∷ first_words pcg32 n after) left
