use Rattle.style_numbers.proofs.LawLemmas.{new_styles_stand_at_the_end}
use Rattle.style_numbers.proofs.laws.new_styles_stand_at_the_end.Goals as goal

pub returns : goal.returns
returns c = new_styles_stand_at_the_end
