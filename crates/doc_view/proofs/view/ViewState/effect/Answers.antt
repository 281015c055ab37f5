use Rattle.std.proofs.Common.{◌≡◌, true, length, sym, subst}
use Rattle.std.specs.Str.{all_scalars}
use Rattle.line_index.specs.Index.{Index, pieces_in}
use Rattle.movement_core.specs.Lines.{StartAtPlaces}
use Rattle.selection_core.specs.Mapped.{AreWithin}
use Rattle.selection_core.specs.Selection.{IsSelection}
use Rattle.doc_view.proofs.WrappedLemmas.{StartAtPlaces-wrapped}
use Rattle.doc_view.proofs.view.ViewState.effect.Goals as goal

pub edit_of-requires-clause-characters : goal.edit_of-requires-clause-characters
edit_of-requires-clause-characters c = subst (λ (i : Index). all_scalars i.text ≡ true) (sym c.line_index.ensures.is) c.line_index.ensures.characters

pub edit_of-requires-clause-starts : goal.edit_of-requires-clause-starts
edit_of-requires-clause-starts c =
    let now = c.args.self.now in
    subst (λ (i : Index). StartAtPlaces i.text (pieces_in i)) (sym c.line_index.ensures.is)
    (StartAtPlaces-wrapped now.config.width now.config.tab now.text c.line_index.ensures.characters)

pub edit_of-requires-clause-sound : goal.edit_of-requires-clause-sound
edit_of-requires-clause-sound c = subst IsSelection (sym c.selection.ensures.regions) c.selection.ensures.sound

pub edit_of-requires-clause-inside : goal.edit_of-requires-clause-inside
edit_of-requires-clause-inside c =
    subst (λ (i : Index). AreWithin (length i.text) c.selection.result.now.regions) (sym c.line_index.ensures.is)
    (subst (AreWithin (length c.args.self.now.text)) (sym c.selection.ensures.regions) c.selection.ensures.inside)
