use Rattle.std.proofs.Common.{◌≡◌, List, ℕ, refl, ◌∙◌, subst}
use Rattle.xi_plain.specs.declared.entry.ShelfNote.TheVariants.{Held}
use Rattle.session_step.specs.declared.given.Given.TheVariants as given
use Rattle.session_step.specs.Session.{given_by}
use Rattle.core_session.proofs.ShelfLemmas.{no_text_given, text_given}
use Rattle.core_session.proofs.ask.text_of.Goals as goal

pub returns-in-Ok : goal.returns-in-Ok
returns-in-Ok c =
    let At : List ℕ → Type 0 = λ bytes. given.Found c.in-Ok.text ≡ given_by (Held bytes) in
    subst At (c.in_ok-from_slice.ensures.items ∙ c.as_slice.ensures) (text_given _ c.in-Ok.text (c.in-Ok.ensures.utf8.0 refl) c.in-Ok.ensures.made)

pub returns : goal.returns
returns c =
    let At : List ℕ → Type 0 = λ bytes. given.NotText ≡ given_by (Held bytes) in
    subst At (c.in_ok-from_slice.ensures.items ∙ c.as_slice.ensures) (no_text_given _ c.in-Err.ensures.utf8.1)
