use Rattle.std.proofs.Common.{◌≡◌, ◌++◌, map}
use Rattle.std.specs.Str.{chars, IsUtf8}
use Rattle.plain_edits.specs.History.{inserted_by}
use Rattle.plain_history.proofs.edit.push_text.Given as goal

abbrev pub invariant-loop-character : goal.invariant-loop-character
invariant-loop-character l = record {
  is_text : IsUtf8 l.character-iterator.rest.now;
  rest :
      l.made ++ map (inserted_by l.rev) (chars l.character-iterator.rest.now) ≡
      l.initial.made ++ map (inserted_by l.rev) (chars l.text);
}
