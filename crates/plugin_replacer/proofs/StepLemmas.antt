-- What a page and a line come to.
use Rattle.std.proofs.Common.{◌≡◌, ◌≢◌, ℕ, true, false, List, [], ◌∷◌, ◌++◌, map, Option, None, Some, Result, Ok, Err, refl, sym, ap, subst, ◌∙◌}
use Rattle.std.specs.Str.{encode_utf8_all}
use Rattle.std.specs.Prelude.{IfErr, OnOk, OnErr}
use Rattle.std.specs.Result.{IsErrAnd, result_err}
use Rattle.std.proofs.lemmas.Bool.{cond-true, cond-false}
use Rattle.std.proofs.lemmas.List.{map-append}
use Rattle.plain_text.specs.declared.run.Run.{Run}
use Rattle.xi_plain.specs.declared.command.Command.{Command}
use Rattle.plugin_side.specs.declared.heard.Heard.{Heard}
use Rattle.plugin_side.specs.Asking.{turn_bytes}
use Rattle.plugin_mirror.specs.declared.fault.BookFault.{BookFault}
use Rattle.plugin_mirror.specs.declared.fault.BookFault.TheVariants.{NoMemory}
use Rattle.plugin_mirror.specs.declared.leaf.Leaf.{Leaf}
use Rattle.plugin_mirror.specs.Book.{Pages, with_leaves, taken}
use Rattle.plugin_mirror.specs.Asks.{asked, after_asks}
use Rattle.plugin_replacer.specs.Replacing.{Replacing, Course, is_to_search, edit_ask, edits_by, edits_of, edits, searched_with, searched_all, looked_if, line_course, turn_course, book_asks}
use Rattle.plugin_replacer.specs.Turns.{Replacement, Searching, Puts, PutsFirst, TakesCourse, TurnReplaces, in_utf8}
use Rattle.plugin_replacer.proofs.CourseLemmas.{Puts-none, Puts-pushed, PutsFirst-all}

-- ---- the edit of a page

edits_by-some : (leaf : Leaf) (runs : List Run) (new : List ℕ) → runs ≢ [] → edits_by leaf runs new ≡ edit_ask leaf runs new ∷ []
edits_by-some leaf [] new some = absurd (some refl)
edits_by-some leaf (run ∷ runs) new some = refl

pub Puts-no_edit : (leaf : Leaf) (runs : List Run) (new : List ℕ) (from : List (List ℕ)) → runs ≡ [] → Puts (edits_by leaf runs new) from from
Puts-no_edit leaf runs new from none = subst (λ rs. Puts (edits_by leaf rs new) from from) (sym none) (Puts-none from)

pub Puts-edit : (leaf : Leaf) (runs : List Run) (new : List ℕ) (command : Command) (given : List ℕ) (before after : List (List ℕ)) → runs ≢ [] →
    command ≡ edit_ask leaf runs new → encode_utf8_all given ≡ turn_bytes command → after ≡ before ++ given ∷ [] →
    Puts (edits_by leaf runs new) (in_utf8 before) (in_utf8 after)
Puts-edit leaf runs new command given before after some is bytes puts =
    subst (λ asks. Puts asks (in_utf8 before) (in_utf8 after)) (ap (λ c. c ∷ []) is ∙ sym (edits_by-some leaf runs new some))
    (Puts-pushed command given before after bytes puts)

-- ---- a page

module _ (found : List ℕ → List Run) (new : List ℕ) where
  pub Puts-not_due : (searched : List (List ℕ)) (leaf : Leaf) (from : List (List ℕ)) → is_to_search searched leaf ≡ false → Puts (edits_of found new searched leaf) from from
  Puts-not_due searched leaf from not_due = subst (λ asks. Puts asks from from) (sym (cond-false (is_to_search searched leaf) _ _ not_due)) (Puts-none from)

  pub Puts-due : (searched : List (List ℕ)) (leaf : Leaf) (runs : List Run) (from to : List (List ℕ)) → is_to_search searched leaf ≡ true → runs ≡ found leaf.page.text →
      Puts (edits_by leaf runs new) from to → Puts (edits_of found new searched leaf) from to
  Puts-due searched leaf runs from to due is puts =
      subst (λ asks. Puts asks from to) (ap (λ rs. edits_by leaf rs new) is ∙ sym (cond-true (is_to_search searched leaf) _ _ due)) puts

  -- ---- a line

  pub TakesCourse-taken : (state after : Replacing) (heard : Heard) (news : List Leaf) (from to : List (List ℕ)) → taken heard state.book.leaves ≡ Ok news →
      after ≡ record { book = with_leaves state.book news; searched = searched_all state.searched news } →
      Puts (edits found new state.searched news) from to → TakesCourse (line_course found new state heard) after None from to
  TakesCourse-taken state after heard news from to takes is puts =
      subst (λ made. TakesCourse (looked_if found new state made) after None from to) (sym takes) (record { state = is; ended = refl; puts = puts })

  pub TakesCourse-ended : (state after : Replacing) (heard : Heard) (fault : BookFault) (from to : List (List ℕ)) → taken heard state.book.leaves ≡ Err fault →
      after ≡ state → to ≡ from → TakesCourse (line_course found new state heard) after (Some fault) from to
  TakesCourse-ended state after heard fault from to takes is same =
      subst (λ made. TakesCourse (looked_if found new state made) after (Some fault) from to) (sym takes)
      (record { state = is; ended = refl; puts = same ∙ Puts-none from })

  pub PutsFirst-taken : (state : Replacing) (heard : Heard) (news : List Leaf) (from to : List (List ℕ)) → taken heard state.book.leaves ≡ Ok news →
      PutsFirst (edits found new state.searched news) from to → PutsFirst (line_course found new state heard).asks from to
  PutsFirst-taken state heard news from to takes first =
      subst (λ made. PutsFirst (looked_if found new state made).asks from to) (sym takes) first

pub searched_with-not_due : (searched now : List (List ℕ)) (leaf : Leaf) → is_to_search searched leaf ≡ false → now ≡ searched → now ≡ searched_with searched leaf
searched_with-not_due searched now leaf not_due same = same ∙ sym (cond-false (is_to_search searched leaf) _ _ not_due)

pub searched_with-due : (searched now : List (List ℕ)) (leaf : Leaf) → is_to_search searched leaf ≡ true → now ≡ searched ++ leaf.view ∷ [] → now ≡ searched_with searched leaf
searched_with-due searched now leaf due is = is ∙ sym (cond-true (is_to_search searched leaf) _ _ due)

-- ---- what is inside

-- what a page comes to, where this is inside of a search
module _ {S : Type 0} (found_in : S → List ℕ → List Run) (search : Searching S) (spot : S) (new : List ℕ) (searched : List (List ℕ))
    (is : record { spot = spot; new = new; searched = searched } ≡ search) where
  pub page-not_due : (leaf : Leaf) → is_to_search searched leaf ≡ false → search.searched ≡ searched_with search.searched leaf
  page-not_due leaf not_due = subst (λ (s : Searching S). s.searched ≡ searched_with s.searched leaf) is (searched_with-not_due searched searched leaf not_due refl)

  pub page-due : (leaf : Leaf) (now : List (List ℕ)) → is_to_search searched leaf ≡ true → now ≡ searched ++ leaf.view ∷ [] → now ≡ searched_with search.searched leaf
  page-due leaf now due puts = subst (λ (s : Searching S). now ≡ searched_with s.searched leaf) is (searched_with-due searched now leaf due puts)

  pub page-no_edit : (leaf : Leaf) (from : List (List ℕ)) → is_to_search searched leaf ≡ false → Puts (edits_of (found_in search.spot) search.new search.searched leaf) from from
  page-no_edit leaf from not_due = subst (λ (s : Searching S). Puts (edits_of (found_in s.spot) s.new s.searched leaf) from from) is (Puts-not_due (found_in spot) new searched leaf from not_due)

  pub page-edit : (leaf : Leaf) (runs : List Run) (from to : List (List ℕ)) → is_to_search searched leaf ≡ true → runs ≡ found_in spot leaf.page.text →
      Puts (edits_by leaf runs new) from to → Puts (edits_of (found_in search.spot) search.new search.searched leaf) from to
  page-edit leaf runs from to due finds puts =
      subst (λ (s : Searching S). Puts (edits_of (found_in s.spot) s.new s.searched leaf) from to) is (Puts-due (found_in spot) new searched leaf runs from to due finds puts)

-- what a line comes to, where this is inside of a replacer
module _ {S : Type 0} (found_in : S → List ℕ → List Run) (r : Replacement S) (spot : S) (new : List ℕ) (book : Pages) (searched : List (List ℕ)) (fault : Option BookFault)
    (is : record { spot = spot; new = new; state = record { book = book; searched = searched }; fault = fault } ≡ r) where
  pub heed-taken : (heard : Heard) (now : Pages) (views : List (List ℕ)) (from to : List (List ℕ)) → taken heard book.leaves ≡ Ok now.leaves →
      now ≡ with_leaves book now.leaves → views ≡ searched_all searched now.leaves → Puts (edits (found_in spot) new searched now.leaves) from to →
      TakesCourse (line_course (found_in r.spot) r.new r.state heard) (record { book = now; searched = views }) None from to
  heed-taken heard now views from to takes rest seen puts =
      subst (λ (s : Replacement S). TakesCourse (line_course (found_in s.spot) s.new s.state heard) (record { book = now; searched = views }) None from to) is
      (TakesCourse-taken (found_in spot) new (record { book = book; searched = searched }) (record { book = now; searched = views }) heard now.leaves from to takes
      (λ i. record { book = rest i; searched = seen i }) puts)

  pub heed-ended : (heard : Heard) (now : Pages) (why : BookFault) (from : List (List ℕ)) → taken heard book.leaves ≡ Err why → now ≡ book →
      TakesCourse (line_course (found_in r.spot) r.new r.state heard) (record { book = now; searched = searched }) (Some why) from from
  heed-ended heard now why from takes same =
      subst (λ (s : Replacement S). TakesCourse (line_course (found_in s.spot) s.new s.state heard) (record { book = now; searched = searched }) (Some why) from from) is
      (TakesCourse-ended (found_in spot) new (record { book = book; searched = searched }) (record { book = now; searched = searched }) heard why from from takes
      (ap (λ b. record { book = b; searched = searched }) same) refl)

  pub heed-first : (heard : Heard) (now : Pages) (from to : List (List ℕ)) → taken heard book.leaves ≡ Ok now.leaves →
      PutsFirst (edits (found_in spot) new searched now.leaves) from to → PutsFirst (line_course (found_in r.spot) r.new r.state heard).asks from to
  heed-first heard now from to takes first =
      subst (λ (s : Replacement S). PutsFirst (line_course (found_in s.spot) s.new s.state heard).asks from to) is
      (PutsFirst-taken (found_in spot) new (record { book = book; searched = searched }) heard now.leaves from to takes first)

  pub ask-all : (now : Pages) (lines before after : List (List ℕ)) → now ≡ after_asks book → map encode_utf8_all lines ≡ map turn_bytes (asked book) → after ≡ before ++ lines →
      TakesCourse (book_asks r.state) (record { book = now; searched = searched }) None (in_utf8 before) (in_utf8 after)
  ask-all now lines before after asks bytes puts =
      subst (λ (s : Replacement S). TakesCourse (book_asks s.state) (record { book = now; searched = searched }) None (in_utf8 before) (in_utf8 after)) is
      (record {
        state = ap (λ b. record { book = b; searched = searched }) asks;
        ended = refl;
        puts = ap in_utf8 puts ∙ map-append encode_utf8_all before lines ∙ ap (λ more. in_utf8 before ++ more) bytes;
      })

-- ---- a turn

-- a turn's lines were had, and why it ended was kept; nothing was given before
module _ {S : Type 0} (found_in : S → List ℕ → List Run) (before mid : Replacement S) (lines from given : List (List ℕ)) where
  -- what the turn comes to
  abbrev turned : Course
  turned = turn_course (found_in before.spot) before.new before.state lines

  comes_by : {T : Type 0} (r : Result T BookFault) → OnOk r (TakesCourse turned mid.state None from given) →
      IfErr r (λ why. why ≢ NoMemory → TakesCourse turned mid.state (Some why) from given) →
      result_err r ≢ Some NoMemory → TakesCourse turned mid.state (result_err r) from given
  comes_by (Ok x) all short other = all
  comes_by (Err why) all short other = short (λ is. other (ap (λ w. Some w) is))

  first_by : {T : Type 0} (r : Result T BookFault) → OnOk r (TakesCourse turned mid.state None from given) → OnErr r (PutsFirst turned.asks from given) →
      PutsFirst turned.asks from given
  first_by (Ok x) all first = PutsFirst-all turned.asks from given all.puts
  first_by (Err why) all first = first

  pub turn-replaces : {T : Type 0} (r : Result T BookFault) (after : Replacement S) → from ≡ [] → after ≡ record mid { fault = result_err r } →
      found_in mid.spot ≡ found_in before.spot → mid.new ≡ before.new → OnOk r (TakesCourse turned mid.state None from given) →
      IfErr r (λ why. why ≢ NoMemory → TakesCourse turned mid.state (Some why) from given) → OnErr r (PutsFirst turned.asks from given) →
      TurnReplaces found_in before after lines given
  turn-replaces r after start is found new all short first =
      subst (λ (now : Replacement S). TurnReplaces found_in before now lines given) (sym is)
      (record {
        found = found;
        new = new;
        comes = λ other. subst (λ f. TakesCourse turned mid.state (result_err r) f given) start (comes_by r all short other);
        first = subst (λ f. PutsFirst turned.asks f given) start (first_by r all first);
      })

-- what holds at all holds at an error
pub on_err_any : {T E Q : Type 0} (r : Result T E) → Q → OnErr r Q
on_err_any (Ok x) q = tt
on_err_any (Err e) q = q

-- and where all went well
pub on_ok_any : {T E Q : Type 0} (r : Result T E) → Q → OnOk r Q
on_ok_any (Ok x) q = q
on_ok_any (Err e) q = tt

-- the exit of a `?` that hands an error on
pub handed_on : {T E : Type 0} (Q : E → Type 0) (outcome : Result T E) (why : E) → IsErrAnd outcome (λ e. e ≡ why) → Q why → IfErr outcome Q
handed_on Q (Ok x) why is q = tt
handed_on Q (Err other) why is q = subst Q (sym is) q
