use Rattle.std.proofs.Common.{◌∙◌, ap, ◌++◌}
use Rattle.std.specs.List.{concat}
use Rattle.std.proofs.Common.{take}
use Rattle.macro_record.proofs.TapeLemmas.{comes_to}
use Rattle.macro_record.proofs.laws.a_tape_is_what_was_given.Goals as goal

pub returns : goal.returns
returns c = λ before after pieces empty kept.
    let comes = comes_to before after pieces kept in (
      (comes.0.0, comes.0.1 ∙ ap (λ bytes. bytes ++ concat (take comes.0.0 pieces)) empty),
      λ on. comes.1 on ∙ ap (λ bytes. bytes ++ concat pieces) empty,
    )
