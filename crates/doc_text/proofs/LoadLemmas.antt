-- A text that was just loaded.
use Rattle.std.proofs.Common.{◌≡◌, ℕ, ◌≤◌, List, [], ◌∷◌, None, refl, ap, sym, subst, arith}
use Rattle.std.specs.Prelude.{◌^◌}
use Rattle.plain_edits.specs.History.{head, loaded, text_at}
use Rattle.rev_engine.specs.State.{State}
use Rattle.rev_engine.specs.Engine.{StandsFor}
use Rattle.rev_engine.proofs.ForCallers.{spent-loaded}
use Rattle.undo_groups.specs.Groups.{Groups, IsStack, no_groups}
use Rattle.doc_text.specs.Whole.{IsStateOf, IsWhole}
use Rattle.doc_text.proofs.AgreeLemmas.{Agree-loaded}

pub text_at-loaded : (text : List ℕ) → text_at (loaded text) 0 ≡ text
text_at-loaded [] = refl
text_at-loaded (c ∷ text) = ap (λ cs. c ∷ cs) (text_at-loaded text)

pub head_text-loaded : (text : List ℕ) → text_at (loaded text) (head (loaded text)) ≡ text
head_text-loaded text = text_at-loaded text

pub IsStateOf-loaded : (text : List ℕ) (engine : State) (limit : ℕ) → StandsFor engine (loaded text) → engine.limit ≡ limit →
    limit ≤ 2 ^ 60 → IsStateOf (loaded text) engine
IsStateOf-loaded text engine limit stands limit_is bound = record {
  stands = stands;
  within = omega (arith, spent-loaded text);
  bound = omega (arith, limit_is, bound);
}

pub IsWhole-loaded : (text : List ℕ) (engine : State) (limit : ℕ) (stack : Groups) → StandsFor engine (loaded text) → engine.limit ≡ limit →
    limit ≤ 2 ^ 60 → stack ≡ no_groups → IsStack stack → IsWhole engine stack None
IsWhole-loaded text engine limit stack stands limit_is bound stack_is sound =
    let At : Groups → Type 0 = λ s. IsWhole engine s None in
    subst At (sym stack_is) (∣ (
      loaded text,
      record {
        state = IsStateOf-loaded text engine limit stands limit_is bound;
        agree = Agree-loaded (subst IsStack stack_is sound);
      },
    ) ∣₁)
