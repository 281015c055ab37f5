-- The flags that bytes tell are those of the screen that is rebuilt from them.
use Rattle.std.proofs.Common.{◌≡◌, ℕ, Bool, true, false, List, [], ◌∷◌, map, Option, Some, None, refl, ap, sym, ◌∙◌}
use Rattle.std.specs.Prelude.{if◌then◌else◌, unwrap_or}
use Rattle.std.specs.List.{cons_option, filter_map}
use Rattle.std.specs.Str.{bytes_eq}
use Rattle.plain_text.specs.InputLines.{lines_of}
use Rattle.plain_screen.specs.Screen.{Screen, screen_after}
use Rattle.view_update.specs.declared.note.ViewUpdate.{ViewUpdate}
use Rattle.view_update.specs.Reading.{line_update}
use Rattle.core_session.specs.Shows.{rebuilt, rebuilt_from}
use Rattle.screen_flags.specs.Flags.{change_of, count_valid, flags_of, valid_lines}
use Rattle.screen_flags.specs.Told.{flags_told, flags_with}
use Rattle.screen_flags.proofs.ForCallers.{flags_count, flags_follow, others_tell_none, updates_tell_changes}

same_some : {A : Type 0} {a b : A} → Some a ≡ Some b → a ≡ b
same_some {A} {a} {b} is = ap (λ o. unwrap_or o a) is

-- a screen that is not defined stays so
stays_none : (id : List ℕ) (notes : List (Option ViewUpdate)) → rebuilt_from id None notes ≡ None
stays_none id [] = refl
stays_none id (told ∷ notes) = stays_none id notes

undefined : {A : Type 0} (id : List ℕ) (notes : List (Option ViewUpdate)) (last : Screen) → rebuilt_from id None notes ≡ Some last → A
undefined id notes last is = absurd (none_some (sym (stays_none id notes) ∙ is))
  where
    none_some : {B : Type 0} {b : B} → None ≡ Some b → ⊥
    none_some is = absurd cc

-- a line that is no update
after_other : (id line : List ℕ) (screen : Screen) (lines : List (List ℕ)) (flags : List Bool) → line_update line ≡ None →
    flags ≡ flags_told id (flags_of screen) lines → flags ≡ flags_told id (flags_of screen) (line ∷ lines)
after_other id line screen lines flags none later =
    later ∙ ap (λ changes. flags_told id (flags_with (flags_of screen) changes) lines) (sym (others_tell_none id line none))

-- an update of the view, and of another one
after_own : (id line : List ℕ) (screen next : Screen) (note : ViewUpdate) (lines : List (List ℕ)) (flags : List Bool) →
    line_update line ≡ Some (Some note) → bytes_eq note.view id ≡ true → screen_after screen note.update.ops ≡ Some next →
    flags ≡ flags_told id (flags_of next) lines → flags ≡ flags_told id (flags_of screen) (line ∷ lines)
after_own id line screen next note lines flags is same made later =
    let changes = map change_of note.update.ops in
    later ∙ ap (λ f. flags_told id f lines) (flags_follow screen next note.update.ops made) ∙
    ap (λ told. flags_told id (flags_with (flags_of screen) told) lines)
    (sym (updates_tell_changes id line note is ∙ ap (λ test. if test then Some changes else None) same))

after_foreign : (id line : List ℕ) (screen : Screen) (note : ViewUpdate) (lines : List (List ℕ)) (flags : List Bool) →
    line_update line ≡ Some (Some note) → bytes_eq note.view id ≡ false → flags ≡ flags_told id (flags_of screen) lines →
    flags ≡ flags_told id (flags_of screen) (line ∷ lines)
after_foreign id line screen note lines flags is other later =
    let changes = map change_of note.update.ops in
    later ∙
    ap (λ told. flags_told id (flags_with (flags_of screen) told) lines)
    (sym (updates_tell_changes id line note is ∙ ap (λ test. if test then Some changes else None) other))

follow : (id : List ℕ) (screen last : Screen) (lines : List (List ℕ)) → rebuilt_from id (Some screen) (filter_map line_update lines) ≡ Some last →
    flags_of last ≡ flags_told id (flags_of screen) lines
follow id screen last [] is = ap flags_of (sym (same_some is))
follow id screen last (line ∷ lines) is =
    by (line_update line) refl is (λ next is. follow id next last lines is)
  where
    notes : List (Option ViewUpdate)
    notes = filter_map line_update lines

    own : (note : ViewUpdate) (made : Option Screen) → line_update line ≡ Some (Some note) → bytes_eq note.view id ≡ true →
        screen_after screen note.update.ops ≡ made → rebuilt_from id made notes ≡ Some last →
        ((next : Screen) → rebuilt_from id (Some next) notes ≡ Some last → flags_of last ≡ flags_told id (flags_of next) lines) →
        flags_of last ≡ flags_told id (flags_of screen) (line ∷ lines)
    own note None says same made is later = undefined id notes last is
    own note (Some next) says same made is later = after_own id line screen next note lines (flags_of last) says same made (later next is)

    of_view : (note : ViewUpdate) (same : Bool) → line_update line ≡ Some (Some note) → bytes_eq note.view id ≡ same →
        rebuilt_from id (if same then screen_after screen note.update.ops else Some screen) notes ≡ Some last →
        ((next : Screen) → rebuilt_from id (Some next) notes ≡ Some last → flags_of last ≡ flags_told id (flags_of next) lines) →
        flags_of last ≡ flags_told id (flags_of screen) (line ∷ lines)
    of_view note true says same is later = own note (screen_after screen note.update.ops) says same refl is later
    of_view note false says other is later = after_foreign id line screen note lines (flags_of last) says other (later screen is)

    by : (update : Option (Option ViewUpdate)) → line_update line ≡ update →
        rebuilt_from id (Some screen) (cons_option update notes) ≡ Some last →
        ((next : Screen) → rebuilt_from id (Some next) notes ≡ Some last → flags_of last ≡ flags_told id (flags_of next) lines) →
        flags_of last ≡ flags_told id (flags_of screen) (line ∷ lines)
    by None says is later = after_other id line screen lines (flags_of last) says (later screen is)
    by (Some None) says is later = undefined id notes last is
    by (Some (Some note)) says is later = of_view note (bytes_eq note.view id) says refl is later

-- HOW MANY LINES ARE VALID of the screen that is rebuilt from bytes
pub valid_rebuilt : (id bytes : List ℕ) (screen : Screen) → rebuilt id bytes ≡ Some screen →
    count_valid (flags_told id [] (lines_of bytes)) ≡ valid_lines screen
valid_rebuilt id bytes screen is = ap count_valid (sym (follow id [] screen (lines_of bytes) is)) ∙ flags_count screen
