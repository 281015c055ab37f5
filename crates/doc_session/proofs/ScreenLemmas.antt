-- Lemmas on the screen of a document that was told.
use Rattle.std.proofs.Common.{◌≡◌, ◌⊎◌, ℕ, zero, suc, ◌+◌, ◌<◌, ◌≤◌, Bool, true, false, List, [], ◌∷◌, length, map, Option, Some, None, refl, ap, sym, subst, ◌∙◌, arith, inl, inr}
use Rattle.std.specs.Prelude.{if◌then◌else◌, not, ◌||◌, slice_get, option_map, IfSome}
use Rattle.std.specs.List.{enumerate_from, list_all, range_with_len}
use Rattle.std.proofs.lemmas.Bool.{and_from, cases_lt}
use Rattle.std.proofs.lemmas.List.{length-map}
use Rattle.plain_text.specs.declared.run.Run.{Run}
use Rattle.plain_screen.specs.declared.screen.Line.{Line}
use Rattle.plain_screen.specs.Screen.{Screen, screen_after}
use Rattle.plain_screen.specs.Plan.{is_within, shown_lines}
use Rattle.doc_layout.specs.declared.asked.Asked.{Asked}
use Rattle.doc_layout.specs.Layout.{layout_line}
use Rattle.doc_layout.specs.Told.{is_asked, is_covered, planned, screen_of}
use Rattle.doc_layout.proofs.ForCallers.{covered-each}
use Rattle.plain_screen.specs.declared.screen.Update.{Update}
use Rattle.doc_view.specs.Told.{has_lines, is_lacking}
use Rattle.doc_view.specs.Search.{results}
use Rattle.doc_view.specs.View.{View, asked_in, layout_in, pieces_in}
use Rattle.doc_text.specs.Writing.{is_pristine}
use Rattle.doc_session.specs.Document.{Document, layout_of}
use Rattle.doc_session.specs.Effects.{pristine_from, screen_told, settled}
use Rattle.doc_session.specs.Laws.{LinesAreHad, UpdatesShow}
use Rattle.doc_session.specs.ScreenOf.{IsScreenOf, IsUpToDate}
use Rattle.doc_session.proofs.PieceLemmas.{pieces-some}
use Rattle.doc_session.proofs.SettleLemmas.{screen_after-planned, screen_told-planned, unwanted}

-- the screen that shows the lines of the window, where the first line has this index
abbrev shown_from : Run → Run → ℕ → List Line → Screen
shown_from window request index lines =
    map (λ (index, line). if is_within window index || is_within request index then Some line else None) (enumerate_from index lines)

length-shown_from : (window request : Run) (index : ℕ) (lines : List Line) → length (shown_from window request index lines) ≡ length lines
length-shown_from window request index [] = refl
length-shown_from window request index (line ∷ lines) = ap suc (length-shown_from window request (index + 1) lines)

slice_get-shown_from : (window request : Run) (index i at : ℕ) (lines : List Line) → index + i ≡ at →
    slice_get (shown_from window request index lines) i ≡
    option_map (λ line. if is_within window at || is_within request at then Some line else None) (slice_get lines i)
slice_get-shown_from window request index i at [] is = refl
slice_get-shown_from window request index zero at (line ∷ lines) is =
    let here : index ≡ at = omega arith in
    ap (λ n. Some (if is_within window n || is_within request n then Some line else None)) here
slice_get-shown_from window request index (suc i) at (line ∷ lines) is =
    slice_get-shown_from window request (index + 1) i at lines (omega arith)

line_shown : (b : Bool) (line : Line) (o : Option Line) → option_map (λ line. if b then Some line else None) o ≡ Some (Some line) → o ≡ Some line
line_shown true line (Some other) is = cc
line_shown true line None is = cc
line_shown false line (Some other) is = cc
line_shown false line None is = cc

-- a screen that shows the lines of the window and of a request is a screen of them
pub IsScreenOf-shown : (window request : Run) (lines : List Line) → IsScreenOf (shown_lines window request lines) window request lines
IsScreenOf-shown window request lines = record {
  length = length-shown_from window request 0 lines;
  equal = λ i line is.
      line_shown (is_within window i || is_within request i) line (slice_get lines i)
      (sym (slice_get-shown_from window request 0 i i lines (omega arith)) ∙ is);
  valid = λ i inside.
      slice_get-shown_from window request 0 i i lines (omega arith) ∙
      ap (λ b. option_map (λ line. if b then Some line else None) (slice_get lines i)) inside;
}

none_past : (lines : List Line) (i : ℕ) → length lines ≤ i → slice_get lines i ≡ None
none_past [] i past = refl
none_past (line ∷ lines) zero past = absurd (omega (arith, past))
none_past (line ∷ lines) (suc i) past = none_past lines i (omega (arith, past))

-- and so is one that shows the lines of the last window and request, where these cover them
IsScreenOf-covered : (last : Asked) (window request : Run) (lines : List Line) →
    is_covered last (record { window = window; request = request }) (length lines) ≡ true → IsScreenOf (shown_lines last.window last.request lines) window request lines
IsScreenOf-covered last window request lines covered =
    let shown = IsScreenOf-shown last.window last.request lines in record {
      length = shown.length;
      equal = shown.equal;
      valid = λ i inside. by i inside (cases_lt i (length lines));
    }
  where
    by : (i : ℕ) → (is_within window i || is_within request i) ≡ true → (i < length lines) ⊎ (length lines ≤ i) →
        slice_get (shown_lines last.window last.request lines) i ≡ option_map Some (slice_get lines i)
    by i inside (inl less) =
        (IsScreenOf-shown last.window last.request lines).valid i
        (covered-each last (record { window = window; request = request }) (length lines) i covered less inside)
    by i inside (inr more) =
        slice_get-shown_from last.window last.request 0 i i lines (omega arith) ∙
        ap (option_map (λ line. if is_within last.window i || is_within last.request i then Some line else None)) (none_past lines i more) ∙
        sym (ap (option_map Some) (none_past lines i more))

pub IsScreenOf-screen : (plain : Document) (request : Run) → plain.screen ≡ shown_lines plain.view.window request (layout_of plain) →
    IsScreenOf plain.screen plain.view.window request (layout_of plain)
IsScreenOf-screen plain request shown =
    let At : Screen → Type 0 = λ screen. IsScreenOf screen plain.view.window request (layout_of plain) in
    subst At (sym shown) (IsScreenOf-shown plain.view.window request (layout_of plain))

-- the screen of a front end that has the lines that are asked for
IsScreenOf-had : (shown : Option Asked) (window request : Run) (lines : List Line) →
    has_lines shown (record { window = window; request = request }) (length lines) ≡ true → IsScreenOf (screen_of shown lines) window request lines
IsScreenOf-had None window request lines has = absurd cc
IsScreenOf-had (Some last) window request lines has = IsScreenOf-covered last window request lines has

-- so it is after each event, whether the front end was told or not
pub IsUpToDate-settled : (plain next : Document) (request : Run) → plain.screen ≡ screen_of next.view.shown (layout_of plain) →
    next.screen ≡ plain.screen → IsUpToDate request (settled request plain next)
IsUpToDate-settled plain next request was stays = by (is_lacking plain.view next.view request (pristine_from plain next)) refl
  where
    view_by : Bool → View
    view_by b = if b then record next.view { shown = Some (asked_in next.view request) } else next.view

    told_by : Bool → Option Update
    told_by b = if b then Some (planned (asked_in next.view request) (layout_in next.view) (is_pristine next.text)) else None

    by : (b : Bool) → is_lacking plain.view next.view request (pristine_from plain next) ≡ b →
        IsScreenOf (screen_told (told_by b) next.screen) (view_by b).window request (layout_in (view_by b))
    by true lacks =
        let At : Screen → Type 0 = λ screen. IsScreenOf screen next.view.window request (layout_of next) in
        subst At (sym (screen_told-planned next.screen (asked_in next.view request) (layout_of next) (is_pristine next.text)))
        (IsScreenOf-shown next.view.window request (layout_of next))
    by false lacks =
        let At : Screen → Type 0 = λ screen. IsScreenOf screen next.view.window request (layout_of next) in
        let kept = unwanted plain next request was stays lacks in
        subst At (sym kept.0) (IsScreenOf-had next.view.shown next.view.window request (layout_of next) kept.1)

-- the update of a document, where there is one, makes its screen, on whatever screen there was
pub updates_show : UpdatesShow
updates_show before after request = by (is_lacking before.view after.view request (pristine_from before after))
  where
    told_by : Bool → Option Update
    told_by b = if b then Some (planned (asked_in after.view request) (layout_in after.view) (is_pristine after.text)) else None

    by : (b : Bool) → IfSome (told_by b) (λ update. screen_after before.screen update.ops ≡ Some (screen_told (told_by b) after.screen))
    by true =
        let asked = asked_in after.view request in
        screen_after-planned before.screen asked (layout_of after) (is_pristine after.text) ∙
        ap Some (sym (screen_told-planned after.screen asked (layout_of after) (is_pristine after.text)))
    by false = tt

-- ---- what a view says of its front end

-- a layout has a line
lines-some : (view : View) → 0 < length (layout_in view)
lines-some view =
    omega (
      arith,
      length-map (pieces_in view) (layout_line view.text view.regions (results view.text view.query) view.layers),
      pieces-some view.config.width view.config.tab view.text,
    )

all_pass : (p : ℕ → Bool) (from count : ℕ) → ((i : ℕ) → from ≤ i → i < from + count → p i ≡ true) → list_all p (range_with_len from count) ≡ true
all_pass p from zero each = refl
all_pass p from (suc count) each =
    and_from (p from) (list_all p (range_with_len (from + 1) count)) (each from (omega arith) (omega arith))
    (all_pass p (from + 1) count (λ i low high. each i (omega (arith, low)) (omega (arith, high))))

-- a line that is valid on the screen was asked for
asked_line : (b : Bool) (found : Option Line) → (found ≡ None → ⊥) →
    option_map (λ line. if b then Some line else None) found ≡ option_map Some found → b ≡ true
asked_line true found some is = refl
asked_line false None some is = absurd (some refl)
asked_line false (Some line) some is = absurd cc

there_is : (lines : List Line) (i : ℕ) → i < length lines → slice_get lines i ≡ None → ⊥
there_is [] i less none = absurd (omega (arith, less))
there_is (line ∷ lines) zero less none = cc
there_is (line ∷ lines) (suc i) less none = there_is lines i (omega (arith, less)) none

-- a front end whose screen shows them has the lines that are asked for
had-IsScreenOf : (shown : Option Asked) (window request : Run) (lines : List Line) → 0 < length lines → IsScreenOf (screen_of shown lines) window request lines →
    has_lines shown (record { window = window; request = request }) (length lines) ≡ true
had-IsScreenOf None window request lines some told = absurd (omega (arith, told.length, some))
had-IsScreenOf (Some last) window request lines some told =
    all_pass (λ index. not (is_asked now index) || is_asked last index) 0 (length lines) (λ i low high. by i (omega (arith, high)) (is_asked now i) refl)
  where
    now : Asked
    now = record { window = window; request = request }

    by : (i : ℕ) → i < length lines → (asked : Bool) → is_asked now i ≡ asked → (not asked || is_asked last i) ≡ true
    by i less false is = refl
    by i less true is =
        asked_line (is_asked last i) (slice_get lines i) (there_is lines i less)
        (sym (slice_get-shown_from last.window last.request 0 i i lines (omega arith)) ∙ told.valid i is)

pub lines_are_had : LinesAreHad
lines_are_had plain request last = (
  λ has.
      let At : Screen → Type 0 = λ screen. IsScreenOf screen plain.view.window request (layout_of plain) in
      subst At (sym last) (IsScreenOf-had plain.view.shown plain.view.window request (layout_of plain) has),
  λ shown.
      let At : Screen → Type 0 = λ screen. IsScreenOf screen plain.view.window request (layout_of plain) in
      had-IsScreenOf plain.view.shown plain.view.window request (layout_of plain) (lines-some plain.view) (subst At last shown),
)
