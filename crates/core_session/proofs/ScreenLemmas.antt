-- A request that is over.
use Rattle.std.proofs.Common.{◌≡◌, ℕ, ◌||◌, refl, arith, Bool, true, false}
use Rattle.std.proofs.lemmas.Bool.Decides.{nat_tests}
use Rattle.plain_text.specs.declared.run.Run.{Run}
use Rattle.plain_screen.specs.Plan.{is_within}
use Rattle.doc_session.specs.Document.{Document, no_request}
use Rattle.doc_session.specs.ScreenOf.{IsUpToDate}

none_requested : (index : ℕ) → is_within no_request index ≡ false
none_requested index = grind (arith, nat_tests)

weaker : (window none last : Bool) → none ≡ false → (window || none) ≡ true → (window || last) ≡ true
weaker true none last is here = refl
weaker false none last is here = absurd cc

-- what was requested once is not asked for any more
pub IsUpToDate-over : (last : Run) (document : Document) → IsUpToDate last document → IsUpToDate no_request document
IsUpToDate-over last document told = record {
  length = told.length;
  equal = told.equal;
  valid = λ i here.
      told.valid i
      (weaker (is_within document.view.window i) (is_within no_request i) (is_within last i) (none_requested i) here);
}
