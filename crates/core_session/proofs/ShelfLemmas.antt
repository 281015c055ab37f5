-- What one more entry is to a shelf, and what becomes of its files.
use Rattle.session_step.specs.declared.terms.Terms.{Terms}
use Rattle.std.proofs.Common.{◌≡◌, ℕ, ◌+◌, ◌-◌, ◌<◌, ◌≤◌, arith, true, false, List, [], ◌∷◌, ◌++◌, Option, Some, None, refl, ap, sym, ◌∙◌, subst, inl, inr}
use Rattle.std.specs.Prelude.{IfSome, ◌^◌, if◌then◌else◌, option_map}
use Rattle.std.specs.Str.{IsUtf8, chars, encode_utf8_all, is_utf8}
use Rattle.std.proofs.lemmas.Bool.{false_from_ne_true}
use Rattle.std.proofs.lemmas.Str.{IsUtf8-from_is_utf8, chars_from_encodes, is_utf8-from_IsUtf8}
use Rattle.outside.specs.Faults.{Rose}
use Rattle.outside.specs.Shelf.{files_after, with_file}
use Rattle.outside.specs.declared.shelf.Stored.{Stored}
use Rattle.outside.specs.declared.shelf.Stored.TheVariants as stored
use Rattle.doc_text.specs.Writing.{head_text}
use Rattle.xi_plain.specs.declared.command.Act.{Act}
use Rattle.xi_plain.specs.declared.command.Act.TheVariants.{NewView, Save}
use Rattle.xi_plain.specs.declared.entry.Entry.{Entry}
use Rattle.xi_plain.specs.declared.entry.ShelfNote.{ShelfNote}
use Rattle.xi_plain.specs.declared.entry.ShelfNote.TheVariants.{Absent, Done, Failed, Held, NoCall}
use Rattle.xi_plain.specs.Journal.{closing_entry, may_open}
use Rattle.core_session.specs.declared.ask.Asked.{Asked}
use Rattle.session_step.specs.declared.given.Given.TheVariants as given
use Rattle.session_step.specs.Session.{OpenView, Session, first_session, given_by, named_view, session_after, step, views_of}
use Rattle.core_session.specs.InnerSession.{IsChosenBy}
use Rattle.core_session.specs.Shelves.{AreSavesAsked, AreSavesAskedFrom, Files, HoldsSaves, IsNoted, KeepsFiles, NotesTell, NotesTellFrom, NoteTells, ShelfState, asks_as, failed_count, failed_notes, files_after_all, files_with, shelved, with_saved}

-- ---- one more entry

asked_from : (session : Session) (entries : List Entry) (last : Entry) → AreSavesAskedFrom session entries →
    asks_as (session_after session entries).views last.command.act last.shelf ≡ true → AreSavesAskedFrom session (entries ++ last ∷ [])
asked_from session [] last each here = (here, tt)
asked_from session (entry ∷ entries) last each here = (each.0, asked_from (step session entry) entries last each.1 here)

pub AreSavesAsked-push : (terms : Terms) (journal : List Entry) (entry : Entry) → AreSavesAsked terms journal →
    asks_as (views_of terms journal) entry.command.act entry.shelf ≡ true → AreSavesAsked terms (journal ++ entry ∷ [])
AreSavesAsked-push terms journal entry each here = asked_from (first_session terms) journal entry each here

shelved_from : (session : Session) (files : Files) (entries : List Entry) (last : Entry) →
    files_after_all session files (entries ++ last ∷ []) ≡
    files_with (files_after_all session files entries) (session_after session entries).views last.command.act last.shelf
shelved_from session files [] last = refl
shelved_from session files (entry ∷ entries) last =
    shelved_from (step session entry) (files_with files session.views entry.command.act entry.shelf) entries last

shelved-push : (terms : Terms) (files : Files) (journal : List Entry) (entry : Entry) →
    shelved terms files (journal ++ entry ∷ []) ≡ files_with (shelved terms files journal) (views_of terms journal) entry.command.act entry.shelf
shelved-push terms files journal entry = shelved_from (first_session terms) files journal entry

tells_from : (session : Session) (files : Files) (entries : List Entry) (last : Entry) → NotesTellFrom session files entries →
    NoteTells (files_after_all session files entries) last.command.act last.shelf → NotesTellFrom session files (entries ++ last ∷ [])
tells_from session files [] last each here = (here, tt)
tells_from session files (entry ∷ entries) last each here =
    (each.0, tells_from (step session entry) (files_with files session.views entry.command.act entry.shelf) entries last each.1 here)

tells-push : (terms : Terms) (files : Files) (journal : List Entry) (entry : Entry) → NotesTell terms files journal →
    NoteTells (shelved terms files journal) entry.command.act entry.shelf → NotesTell terms files (journal ++ entry ∷ [])
tells-push terms files journal entry each here = tells_from (first_session terms) files journal entry each here

failed_notes-push : (journal : List Entry) (entry : Entry) → failed_notes (journal ++ entry ∷ []) ≡ failed_notes journal + failed_count entry.shelf
failed_notes-push [] entry = omega arith
failed_notes-push (first ∷ journal) entry = omega (arith, failed_notes-push journal entry)

-- the count of faults has risen by one more at least where a note says that the shelf failed
more_faults : (note : ShelfNote) (before old new notes : ℕ) → (old < 2 ^ 64 - 1 → before + notes ≤ old) → old ≤ new →
    (note ≡ Failed → Rose old new) → new < 2 ^ 64 - 1 → before + (notes + failed_count note) ≤ new
more_faults Failed before old new notes counts stays rose low = by (rose refl)
  where
    by : Rose old new → before + (notes + 1) ≤ new
    by (inl above) = omega (arith, above, counts (omega (arith, above, low)))
    by (inr last) = absurd (omega (arith, last, low))
more_faults NoCall before old new notes counts stays rose low = omega (arith, stays, counts (omega (arith, stays, low)))
more_faults (Held bytes) before old new notes counts stays rose low = omega (arith, stays, counts (omega (arith, stays, low)))
more_faults Absent before old new notes counts stays rose low = omega (arith, stays, counts (omega (arith, stays, low)))
more_faults Done before old new notes counts stays rose low = omega (arith, stays, counts (omega (arith, stays, low)))

-- ---- the shelf after entries

option_map-same : {A : Type 0} (x : Option A) → option_map (λ y. y) x ≡ x
option_map-same None = refl
option_map-same (Some y) = refl

none_told : (terms : Terms) (had : Option Files) → IfSome had (λ files. NotesTell terms files [])
none_told terms None = tt
none_told terms (Some files) = tt

pub HoldsSaves-none : (terms : Terms) (shelf : ShelfState) → HoldsSaves terms shelf shelf []
HoldsSaves-none terms shelf = record {
  files = sym (option_map-same shelf.files);
  tells = none_told terms shelf.files;
  stays = omega arith;
  failed = λ low. omega arith;
}

module _ (terms : Terms) (journal : List Entry) (entry : Entry) where
  files_more : (before middle after : Option Files) → middle ≡ option_map (λ files. shelved terms files journal) before →
      after ≡ option_map (λ files. files_with files (views_of terms journal) entry.command.act entry.shelf) middle →
      after ≡ option_map (λ files. shelved terms files (journal ++ entry ∷ [])) before
  files_more None middle after first last = last ∙ ap (option_map (λ files. files_with files (views_of terms journal) entry.command.act entry.shelf)) first
  files_more (Some files) middle after first last =
      last ∙ ap (option_map (λ files. files_with files (views_of terms journal) entry.command.act entry.shelf)) first ∙
      ap Some (sym (shelved-push terms files journal entry))

  tells_more : (before middle : Option Files) → middle ≡ option_map (λ files. shelved terms files journal) before →
      IfSome before (λ files. NotesTell terms files journal) → IfSome middle (λ files. NoteTells files entry.command.act entry.shelf) →
      IfSome before (λ files. NotesTell terms files (journal ++ entry ∷ []))
  tells_more None middle is each here = tt
  tells_more (Some files) middle is each here =
      tells-push terms files journal entry each (subst (λ told. IfSome told (λ files. NoteTells files entry.command.act entry.shelf)) is here)

  pub HoldsSaves-push : (before middle after : ShelfState) → HoldsSaves terms before middle journal →
      IsNoted middle after (views_of terms journal) entry.command.act entry.shelf → HoldsSaves terms before after (journal ++ entry ∷ [])
  HoldsSaves-push before middle after holds noted =
      let At : ℕ → Type 0 = λ notes. before.faults + notes ≤ after.faults in
      record {
        files = files_more before.files middle.files after.files holds.files noted.files;
        tells = tells_more before.files middle.files holds.files holds.tells noted.tells;
        stays = omega (arith, holds.stays, noted.stays);
        failed = λ low.
            subst At (sym (failed_notes-push journal entry))
            (more_faults entry.shelf before.faults middle.faults after.faults (failed_notes journal) holds.failed noted.stays noted.failed low);
      }

-- where the files stay, they are as before
pub HoldsSaves-keeps : (terms : Terms) (before middle after : ShelfState) (journal : List Entry) → HoldsSaves terms before middle journal → KeepsFiles middle after →
    HoldsSaves terms before after journal
HoldsSaves-keeps terms before middle after journal holds keeps = record {
  files = keeps.files ∙ holds.files;
  tells = holds.tells;
  stays = omega (arith, holds.stays, keeps.stays);
  failed = λ low. omega (arith, keeps.stays, holds.failed (omega (arith, keeps.stays, low)));
}

-- ---- what was asked of it for one command

told_nothing : (act : Act) (note : ShelfNote) (had : Option Files) → ((files : Files) → NoteTells files act note) →
    IfSome had (λ files. NoteTells files act note)
told_nothing act note None told = tt
told_nothing act note (Some files) told = told files

-- it was not asked for the closing entry
noted_closing : (shelf : ShelfState) (views : List OpenView) → IsNoted shelf shelf views closing_entry.command.act NoCall
noted_closing shelf views = record {
  kind = refl;
  asked = refl;
  files = sym (option_map-same shelf.files);
  tells = told_nothing closing_entry.command.act NoCall shelf.files (λ files. tt);
  stays = omega arith;
  failed = λ is. absurd cc;
}

pub HoldsSaves-closed : (terms : Terms) (before after : ShelfState) (journal : List Entry) → HoldsSaves terms before after journal →
    HoldsSaves terms before after (journal ++ closing_entry ∷ [])
HoldsSaves-closed terms before after journal holds =
    HoldsSaves-push terms journal closing_entry before after after holds (noted_closing after (views_of terms journal))

pub AreSavesAsked-closed : (terms : Terms) (journal : List Entry) → AreSavesAsked terms journal → AreSavesAsked terms (journal ++ closing_entry ∷ [])
AreSavesAsked-closed terms journal each = AreSavesAsked-push terms journal closing_entry each refl

-- it was asked what a path has
pub noted_opening : (before after : ShelfState) (views : List OpenView) (path : List ℕ) (note : ShelfNote) → may_open note ≡ true →
    KeepsFiles before after → IfSome before.files (λ files. NoteTells files (NewView (Some path)) note) →
    (note ≡ Failed → Rose before.faults after.faults) → IsNoted before after views (NewView (Some path)) note
noted_opening before after views path note kind keeps tells failed = record {
  kind = kind;
  asked = refl;
  files = keeps.files ∙ sym (option_map-same before.files);
  tells = tells;
  stays = keeps.stays;
  failed = failed;
}

-- it was not asked to save a view that is not open
pub noted_absent : (shelf : ShelfState) (views : List OpenView) (name path : List ℕ) → named_view views name ≡ None →
    IsNoted shelf shelf views (Save name path) NoCall
noted_absent shelf views name path none = record {
  kind = refl;
  asked = rw none refl;
  files = sym (option_map-same shelf.files);
  tells = told_nothing (Save name path) NoCall shelf.files (λ files. tt);
  stays = omega arith;
  failed = λ is. absurd cc;
}

-- it was asked to save one that is open
saved_files : (views : List OpenView) (name path : List ℕ) (view : OpenView) (had : Option Files) → named_view views name ≡ Some view →
    option_map (λ files. with_file files path (encode_utf8_all (head_text view.document.text))) had ≡
    option_map (λ files. files_with files views (Save name path) Done) had
saved_files views name path view None found = refl
saved_files views name path view (Some files) found = ap (λ named. Some (with_saved files path named)) (sym found)

module _ (before after : ShelfState) (views : List OpenView) (name path bytes : List ℕ) (view : OpenView)
    (found : named_view views name ≡ Some view) (is : bytes ≡ encode_utf8_all (head_text view.document.text)) (stays : before.faults ≤ after.faults) where
  noted_done : after.files ≡ option_map (λ files. with_file files path bytes) before.files → IsNoted before after views (Save name path) Done
  noted_done files = record {
    kind = refl;
    asked = rw found refl;
    files = files ∙ ap (λ saved. option_map (λ files. with_file files path saved) before.files) is ∙ saved_files views name path view before.files found;
    tells = told_nothing (Save name path) Done before.files (λ files. tt);
    stays = stays;
    failed = λ same. absurd cc;
  }

  noted_failed : after.files ≡ option_map (λ files. files) before.files → Rose before.faults after.faults →
      IsNoted before after views (Save name path) Failed
  noted_failed files rose = record {
    kind = refl;
    asked = rw found refl;
    files = files;
    tells = told_nothing (Save name path) Failed before.files (λ files. tt);
    stays = stays;
    failed = λ same. rose;
  }

  pub noted_saving : (answer : Stored) (done failed kept : Asked) → IsChosenBy answer done failed kept → done.note ≡ Done → failed.note ≡ Failed →
      after.files ≡ option_map (λ files. files_after answer files path bytes) before.files →
      (answer ≡ stored.Failed → Rose before.faults after.faults) → IsNoted before after views (Save name path) kept.note
  noted_saving stored.Done done failed kept chosen one other files rose =
      subst (IsNoted before after views (Save name path)) (sym (ap (λ (asked : Asked). asked.note) chosen ∙ one)) (noted_done files)
  noted_saving stored.Failed done failed kept chosen one other files rose =
      subst (IsNoted before after views (Save name path)) (sym (ap (λ (asked : Asked). asked.note) chosen ∙ other)) (noted_failed files (rose refl))
  noted_saving stored.NoMemory done failed kept chosen one other files rose = absurd chosen

-- what holds of both that were made holds of the one that is kept
pub chosen_is : (P : Asked → Type 0) (answer : Stored) (done failed kept : Asked) → IsChosenBy answer done failed kept → P done → P failed → P kept
chosen_is P stored.Done done failed kept chosen one other = subst P (sym chosen) one
chosen_is P stored.Failed done failed kept chosen one other = subst P (sym chosen) other
chosen_is P stored.NoMemory done failed kept chosen one other = absurd chosen

-- a shelf that was asked in vain has its files
pub keeps_lacking : (before after : ShelfState) (answer : Stored) (path bytes : List ℕ) → answer ≡ stored.NoMemory →
    after.files ≡ option_map (λ files. files_after answer files path bytes) before.files → before.faults ≤ after.faults → KeepsFiles before after
keeps_lacking before after answer path bytes lacks files stays =
    let At : Stored → Type 0 = λ given. after.files ≡ option_map (λ files. files_after given files path bytes) before.files in
    record { files = subst At lacks files ∙ option_map-same before.files; stays = stays }

-- what the bytes of a file give
pub text_given : (bytes text : List ℕ) → IsUtf8 bytes → encode_utf8_all text ≡ bytes → given.Found text ≡ given_by (Held bytes)
text_given bytes text is made =
    ap given.Found (chars_from_encodes text bytes is made) ∙
    ap (λ b. if b then given.Found (chars bytes) else given.NotText) (sym (is_utf8-from_IsUtf8 bytes is))

never : false ≡ true → ⊥
never is = cc

pub no_text_given : (bytes : List ℕ) → (IsUtf8 bytes → false ≡ true) → given.NotText ≡ given_by (Held bytes)
no_text_given bytes other =
    let none : is_utf8 bytes ≡ false = false_from_ne_true (is_utf8 bytes) (λ is. never (other (IsUtf8-from_is_utf8 bytes is))) in
    ap (λ b. if b then given.Found (chars bytes) else given.NotText) (sym none)
