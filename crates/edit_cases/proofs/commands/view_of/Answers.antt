use Rattle.std.proofs.Common.{◌≡◌, true, Result, Ok, Err, ap, subst, sym, ◌∙◌}
use Rattle.std.specs.Prelude.{IfOk}
use Rattle.std.specs.Str.{all_scalars}
use Rattle.plain_screen.specs.View.{whole_lines}
use Rattle.movement_core.specs.Lines.{StartAtPlaces}
use Rattle.movement_core.proofs.ForCallers.{StartAtPlaces-whole_lines}
use Rattle.edit_cases.proofs.commands.view_of.Goals as goal

more : {X E : Type 0} (P Q : X → Type 0) (r : Result X E) → ((x : X) → P x → Q x) → IfOk r P → IfOk r Q
more P Q (Ok x) told is = told x is
more P Q (Err e) told is = tt

pub returns-clause-characters : goal.returns-clause-characters
returns-clause-characters c =
    let copy = c.in_ok-copy.copy in
    let scalars : all_scalars copy ≡ true =
    ap all_scalars (c.in_ok-copy.ensures.made ∙ c.as_str-characters.ensures.characters) ∙ c.as_str-characters.ensures.scalars in
    more (λ view. view ≡ record { text = copy; pieces = whole_lines copy }) (λ view. all_scalars view.text ≡ true) c.of_text.result
    (λ view is. ap (λ v. all_scalars v.text) is ∙ scalars) c.of_text.ensures

pub returns-clause-starts : goal.returns-clause-starts
returns-clause-starts c =
    let copy = c.in_ok-copy.copy in
    let scalars : all_scalars copy ≡ true =
    ap all_scalars (c.in_ok-copy.ensures.made ∙ c.as_str-characters.ensures.characters) ∙ c.as_str-characters.ensures.scalars in
    more (λ view. view ≡ record { text = copy; pieces = whole_lines copy }) (λ view. StartAtPlaces view.text view.pieces) c.of_text.result
    (λ view is. subst (λ v. StartAtPlaces v.text v.pieces) (sym is) (StartAtPlaces-whole_lines copy scalars)) c.of_text.ensures

pub returns-clause-text : goal.returns-clause-text
returns-clause-text c =
    let copy = c.in_ok-copy.copy in
    more (λ view. view ≡ record { text = copy; pieces = whole_lines copy }) (λ view. view.text ≡ c.args.text.now) c.of_text.result
    (λ view is. ap (λ v. v.text) is ∙ c.in_ok-copy.ensures.made ∙ c.as_str-characters.ensures.characters) c.of_text.ensures
