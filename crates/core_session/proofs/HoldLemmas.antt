-- Which names the views in memory have: those of the views that are open.
use Rattle.std.proofs.Common.{◌≡◌, ℕ, ◌<◌, Bool, true, false, List, [], ◌∷◌, ◌++◌, length, Option, Some, None, refl, ap, sym, ◌∙◌, subst}
use Rattle.std.specs.Prelude.{if◌then◌else◌, ◌||◌, ◌^◌}
use Rattle.std.proofs.Math.Bool.{Bool-set}
use Rattle.std.proofs.Math.Logic.{∥∥₁_elim}
use Rattle.std.specs.Option.{is_some}
use Rattle.std.specs.Str.{bytes_eq, encode_utf8_all}
use Rattle.xi_plain.specs.declared.command.Act.{Act}
use Rattle.session_step.specs.declared.opened.Opened.{Opened}
use Rattle.xi_plain.specs.declared.entry.Entry.{Entry}
use Rattle.session_step.specs.declared.terms.Terms.{Terms}
use Rattle.session_step.specs.Session.{OpenView, named_view, view_of, views_of}
use Rattle.session_step.specs.Views.{AreThere, IsFirstNamed, Stands}
use Rattle.core_session.proofs.AfterLemmas.{apart_of}
use Rattle.core_session.specs.InnerSession.{asks_by, holds_name, holds_view}
use Rattle.core_session.specs.Shelves.{asks_shelf, has_view, opens_file, saved_view}

some_if : (is : Bool) (view : OpenView) (rest : Option OpenView) → is_some (if is then Some view else rest) ≡ (is || is_some rest)
some_if true view rest = refl
some_if false view rest = refl

-- they have a name where a view that is open has it
names_alike : (held : List Opened) (views : List OpenView) (name : List ℕ) → AreThere held views → holds_name held name ≡ is_some (named_view views name)
names_alike [] [] name there = refl
names_alike [] (view ∷ views) name there = absurd there.0
names_alike (kept ∷ held) [] name there = absurd there.0
names_alike (kept ∷ held) (view ∷ views) name there =
    let bytes = encode_utf8_all name in
    let own : encode_utf8_all kept.id ≡ view.id = ap encode_utf8_all there.0.0.id ∙ there.1.0 in
    ap (λ id. bytes_eq bytes id || holds_name held name) own ∙
    ap (λ rest. bytes_eq bytes view.id || rest) (names_alike held views name (there.0.1, there.1.2)) ∙
    sym (some_if (bytes_eq bytes view.id) view (view_of views bytes))

views_alike : (held : List Opened) (views : List OpenView) (saved : Option (List ℕ)) → AreThere held views → holds_view held saved ≡ has_view views saved
views_alike held views None there = refl
views_alike held views (Some name) there = names_alike held views name there

-- so an act asks the shelf by the one as by the other
asks_alike : (held : List Opened) (views : List OpenView) (act : Act) → AreThere held views → asks_by held act ≡ asks_shelf views act
asks_alike held views act there = ap (λ asked. opens_file act || asked) (views_alike held views (saved_view act) there)

-- an act that does not ask it by the views of a journal does not by those in memory
pub unasked_by : (terms : Terms) (journal : List Entry) (held now : List Opened) (act : Act) → now ≡ held → length journal < 2 ^ 63 →
    ∥ Stands held (views_of terms journal) ∥₁ → asks_shelf (views_of terms journal) act ≡ false → asks_by now act ≡ false
unasked_by terms journal held now act same few stands none =
    let Asks : List Opened → Type 0 = λ all. asks_by all act ≡ false in
    subst Asks (sym same)
    (∥∥₁_elim stands (Bool-set _ _) (λ each.
    asks_alike held (views_of terms journal) act (each, apart_of terms journal few) ∙ none))

or_true : (is : Bool) → (is || true) ≡ true
or_true true = refl
or_true false = refl

held_behind : (front : List Opened) (kept : Opened) (back : List Opened) (name : List ℕ) →
    bytes_eq (encode_utf8_all name) (encode_utf8_all kept.id) ≡ true → holds_name (front ++ kept ∷ back) name ≡ true
held_behind [] kept back name is = ap (λ first. first || holds_name back name) is
held_behind (other ∷ front) kept back name is =
    let first = bytes_eq (encode_utf8_all name) (encode_utf8_all other.id) in
    ap (λ rest. first || rest) (held_behind front kept back name is) ∙ or_true first

-- where one of them was found by a name, they have it
pub holds_found : (held : List Opened) (name : List ℕ) (at : ℕ) → IsFirstNamed held name at → holds_name held name ≡ true
holds_found held name at is =
    ap (λ all. holds_name all name) is.cut ∙ held_behind is.front is.kept is.back name is.named
