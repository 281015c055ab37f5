-- Lines that leave the text of a view as it is.
use Rattle.std.proofs.Common.{◌≡◌, ℕ, ◌+◌, ◌≤◌, Bool, List, Option, None, refl, sym, subst}
use Rattle.xi_plain.specs.declared.command.EditAct.{EditAct}
use Rattle.xi_plain.specs.declared.command.EditAct.TheVariants as Acts
use Rattle.doc_view.specs.Looking.{viewing_of, viewing_ticks}
use Rattle.doc_view.specs.View.{View}
use Rattle.doc_view.specs.declared.looking.Viewing.{Viewing}

-- what is none of those that only look does more
pub viewing_of-else : (act : EditAct) → ((first last : ℕ) → act ≡ Acts.Scroll first last → ⊥) → ((first last : ℕ) → act ≡ Acts.RequestLines first last → ⊥) →
    ((chars : List ℕ) (case_sensitive regex whole_words : Option Bool) → act ≡ Acts.Find chars case_sensitive regex whole_words → ⊥) →
    ((wrap_around allow_same : Option Bool) → act ≡ Acts.FindNext wrap_around allow_same → ⊥) →
    ((wrap_around allow_same : Option Bool) → act ≡ Acts.FindPrevious wrap_around allow_same → ⊥) → viewing_of act ≡ None
viewing_of-else (Acts.Insert chars) no_scroll no_lines no_find no_next no_previous = refl
viewing_of-else (Acts.Paste chars) no_scroll no_lines no_find no_next no_previous = refl
viewing_of-else Acts.InsertNewline no_scroll no_lines no_find no_next no_previous = refl
viewing_of-else Acts.InsertTab no_scroll no_lines no_find no_next no_previous = refl
viewing_of-else Acts.DeleteBackward no_scroll no_lines no_find no_next no_previous = refl
viewing_of-else Acts.DeleteForward no_scroll no_lines no_find no_next no_previous = refl
viewing_of-else Acts.DeleteWordBackward no_scroll no_lines no_find no_next no_previous = refl
viewing_of-else Acts.DeleteWordForward no_scroll no_lines no_find no_next no_previous = refl
viewing_of-else Acts.Cut no_scroll no_lines no_find no_next no_previous = refl
viewing_of-else Acts.Copy no_scroll no_lines no_find no_next no_previous = refl
viewing_of-else Acts.Undo no_scroll no_lines no_find no_next no_previous = refl
viewing_of-else Acts.Redo no_scroll no_lines no_find no_next no_previous = refl
viewing_of-else Acts.SelectAll no_scroll no_lines no_find no_next no_previous = refl
viewing_of-else Acts.Collapse no_scroll no_lines no_find no_next no_previous = refl
viewing_of-else (Acts.Move motion extend) no_scroll no_lines no_find no_next no_previous = refl
viewing_of-else (Acts.Scroll first last) no_scroll no_lines no_find no_next no_previous = absurd (no_scroll first last refl)
viewing_of-else (Acts.RequestLines first last) no_scroll no_lines no_find no_next no_previous = absurd (no_lines first last refl)
viewing_of-else (Acts.Click line col modifiers count) no_scroll no_lines no_find no_next no_previous = refl
viewing_of-else (Acts.Drag line col modifiers) no_scroll no_lines no_find no_next no_previous = refl
viewing_of-else (Acts.Gesture line col ty) no_scroll no_lines no_find no_next no_previous = refl
viewing_of-else (Acts.GotoLine line) no_scroll no_lines no_find no_next no_previous = refl
viewing_of-else (Acts.Find chars case_sensitive regex whole_words) no_scroll no_lines no_find no_next no_previous = absurd (no_find chars case_sensitive regex whole_words refl)
viewing_of-else (Acts.FindNext wrap_around allow_same) no_scroll no_lines no_find no_next no_previous = absurd (no_next wrap_around allow_same refl)
viewing_of-else (Acts.FindPrevious wrap_around allow_same) no_scroll no_lines no_find no_next no_previous = absurd (no_previous wrap_around allow_same refl)
viewing_of-else Acts.Nothing no_scroll no_lines no_find no_next no_previous = refl

-- what is counted so is counted so of the same line
pub ticks-viewing : (from to : ℕ) (view : View) (viewing named : Viewing) → viewing ≡ named → to ≤ from + viewing_ticks view named →
    to ≤ from + viewing_ticks view viewing
ticks-viewing from to view viewing named is counted = subst (λ (v : Viewing). to ≤ from + viewing_ticks view v) (sym is) counted
