-- The numbers that are read off a document are those of the journal's.
use Rattle.std.proofs.Common.{◌≡◌, ℕ, List, [], ◌∷◌, IsAscii, codes, length, Option, Some, None, Ok, Err, Result, refl, ap, ◌∙◌, arith}
use Rattle.std.proofs.lemmas.Str.{chars-IsAscii}
use Rattle.std.proofs.lemmas.Str.Ascii.{IsAscii-cons, IsAscii-nil}
use Rattle.std.specs.Str.{chars}
use Rattle.std.proofs.Math.Logic.{∥∥₁_map}
use Rattle.std.specs.Prelude.{IfOk}
use Rattle.xi_plain.specs.declared.entry.Entry.{Entry}
use Rattle.doc_session.specs.InMemory.{Doc}
use Rattle.session_step.specs.declared.terms.Terms.{Terms}
use Rattle.session_step.specs.Session.{OpenView, named_view, views_of}
use Rattle.core_session.specs.Core.{IsDocOf}
use Rattle.plain_text.specs.InputLines.{lines_of}
use Rattle.plain_screen.specs.Screen.{Screen}
use Rattle.core_session.specs.Shows.{rebuilt}
use Rattle.screen_flags.specs.Flags.{count_valid, valid_lines}
use Rattle.screen_flags.specs.Told.{flags_told}
use Rattle.storm_lines.specs.declared.summary.Summary.{Summary}
use Rattle.xi_forms.proofs.ScreenLemmas.{valid_rebuilt}
use Rattle.xi_forms.specs.InnerStorm.{AreNumbers}
use Rattle.xi_forms.specs.Summary.{IsSummaryOf, storm_view}

of_view : (terms : Terms) (journal : List Entry) (bytes : List ℕ) (doc : Doc) (summary : Summary) (named : Option OpenView) →
    named_view (views_of terms journal) storm_view ≡ named → AreNumbers (length journal) doc bytes summary → IsDocOf doc named →
    IsSummaryOf terms journal bytes summary
of_view terms journal bytes doc summary None is numbers stands = absurd stands
of_view terms journal bytes doc summary (Some view) is numbers stands = record {
  view = view;
  is_open = is;
  entries = numbers.entries_are;
  revision = numbers.revision view.document stands;
  characters = numbers.characters view.document stands;
  kept = numbers.kept_are view.document stands;
  lines = numbers.lines view.document stands;
  valid = numbers.valid;
}

pub summary_told : {E : Type 0} (terms : Terms) (journal : List Entry) (held : Option (List ℕ)) (bytes : List ℕ) (doc : Doc) (result : Result Summary E) →
    held ≡ Some bytes → ∥ IsDocOf doc (named_view (views_of terms journal) storm_view) ∥₁ → IfOk result (AreNumbers (length journal) doc bytes) →
    IfOk result (λ summary. (bytes : List ℕ) × (held ≡ Some bytes) × ∥ IsSummaryOf terms journal bytes summary ∥₁)
summary_told terms journal held bytes doc (Ok summary) holds stands numbers =
    (bytes, holds, ∥∥₁_map stands (λ of. of_view terms journal bytes doc summary (named_view (views_of terms journal) storm_view) refl numbers of))
summary_told terms journal held bytes doc (Err error) holds stands numbers = tt

-- ---- valid lines

IsAscii-view : IsAscii (codes "view-id-1")
IsAscii-view =
    IsAscii-cons 118 (105 ∷ 101 ∷ 119 ∷ 45 ∷ 105 ∷ 100 ∷ 45 ∷ 49 ∷ []) (omega arith)
    (IsAscii-cons 105 (101 ∷ 119 ∷ 45 ∷ 105 ∷ 100 ∷ 45 ∷ 49 ∷ []) (omega arith)
    (IsAscii-cons 101 (119 ∷ 45 ∷ 105 ∷ 100 ∷ 45 ∷ 49 ∷ []) (omega arith)
    (IsAscii-cons 119 (45 ∷ 105 ∷ 100 ∷ 45 ∷ 49 ∷ []) (omega arith)
    (IsAscii-cons 45 (105 ∷ 100 ∷ 45 ∷ 49 ∷ []) (omega arith)
    (IsAscii-cons 105 (100 ∷ 45 ∷ 49 ∷ []) (omega arith)
    (IsAscii-cons 100 (45 ∷ 49 ∷ []) (omega arith)
    (IsAscii-cons 45 (49 ∷ []) (omega arith) (IsAscii-cons 49 [] (omega arith) IsAscii-nil))))))))

pub valid_told : {E : Type 0} (bytes : List ℕ) (result : Result ℕ E) (screen : Screen) →
    IfOk result (λ count. count ≡ count_valid (flags_told (chars storm_view) [] (lines_of bytes))) → rebuilt storm_view bytes ≡ Some screen →
    IfOk result (λ valid. valid ≡ valid_lines screen)
valid_told bytes (Ok count) screen counts is =
    counts ∙ ap (λ id. count_valid (flags_told id [] (lines_of bytes))) (chars-IsAscii storm_view IsAscii-view) ∙ valid_rebuilt storm_view bytes screen is
valid_told bytes (Err error) screen counts is = tt
