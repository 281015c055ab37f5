use Rattle.std.proofs.Common.{◌++◌, ◌∙◌, ap, map, append-nil, sym}
use Rattle.std.specs.Str.{chars}
use Rattle.std.proofs.lemmas.List.{nil_from_length}
use Rattle.std.proofs.lemmas.Str.{IsUtf8-past_char, chars_past_char, chars-nil}
use Rattle.plain_edits.specs.History.{inserted_by}
use Rattle.plain_history.proofs.Lists.{item_more}
use Rattle.plain_history.proofs.edit.push_text.Goals as goal

pub loop-character-preserved : goal.loop-character-preserved
loop-character-preserved c =
    let split = chars_past_char _ _ c.in-Some.character c.loop-character.invariant.is_text c.in-Some.ensures.steps.0 in
    record {
      is_text = IsUtf8-past_char _ _ c.in-Some.character c.loop-character.invariant.is_text c.in-Some.ensures.steps.0;
      rest =
          rw (c.in_ok-push.ensures.pushed, c.new.ensures)
          (item_more _ _ _ _
          (ap (λ cs. c.loop-character.made ++ map (inserted_by c.args.rev) cs) (sym split) ∙ c.loop-character.invariant.rest));
    }

pub returns : goal.returns
returns c =
    let none = ap chars (nil_from_length _ c.in-None.ensures.steps.0.0) ∙ chars-nil in
    sym (append-nil c.loop-character.made) ∙
    ap (λ cs. c.loop-character.made ++ map (inserted_by c.args.rev) cs) (sym none) ∙
    c.loop-character.invariant.rest
