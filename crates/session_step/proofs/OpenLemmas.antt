-- What views in memory come to that take their steps one after the other, and what an act comes to by them.
use Rattle.std.proofs.Common.{take_all, length-drop, ◌-◌, ◌≡◌, ℕ, zero, suc, add-one, ◌+◌, ◌<◌, ◌≤◌, false, true, List, [], ◌∷◌, ◌++◌, length, map, take, drop, get_or, not, Option, Some, None, refl, sym, ◌∙◌, ap, subst, arith, append-nil, append_assoc, length-append, length-take-le}
use Rattle.std.proofs.Math.Seq.{drop-cons, split_at}
use Rattle.std.proofs.lemmas.List.{map-append, drop_all}
use Rattle.std.specs.Prelude.{if◌then◌else◌, option_map, Result, Ok, Err, OnOk}
use Rattle.std.specs.Arc.{arc_value}
use Rattle.std.specs.List.{AllByRecursion}
use Rattle.std.specs.Str.{bytes_eq, encode_utf8_all}
use Rattle.doc_session.specs.InMemory.{Doc}
use Rattle.doc_session.specs.declared.event.Body.TheVariants.{Null}
use Rattle.doc_session.specs.declared.event.Effects.{Effects}
use Rattle.doc_session.specs.Document.{Document}
use Rattle.doc_session.specs.Stands.{DocStandsFor}
use Rattle.doc_session.specs.Step.{AreEffectsOf, EventStep, IsEventFor, event_step, silent_step}
use Rattle.xi_plain.specs.declared.config.Config.{Config}
use Rattle.session_step.specs.declared.terms.Terms.{Terms}
use Rattle.session_step.specs.declared.opened.Opened.{Opened}
use Rattle.session_step.specs.declared.stepped.Stepped.{Stepped}
use Rattle.session_step.specs.declared.stepped.ToEach.{ToEach}
use Rattle.session_step.specs.declared.stepped.ToEach.TheVariants as to
use Rattle.session_step.specs.declared.act.ActEffects.{ActEffects}
use Rattle.entry_lines.specs.declared.reply.FrontReply.{FrontReply}
use Rattle.entry_lines.specs.declared.reply.FrontReply.TheVariants as reply_to
use Rattle.entry_lines.specs.declared.notice.PluginNews.{PluginNews}
use Rattle.entry_lines.specs.Notices.{told_of}
use Rattle.session_step.specs.News.{closed_news, edit_news, news_for, opened_news}
use Rattle.entry_lines.specs.Answer.{accepted, reply_of}
use Rattle.entry_lines.specs.ViewId.{view_id_of}
use Rattle.serde_json.specs.Data.{null}
use Rattle.json_rpc.specs.Response.{text_data}
use Rattle.view_update.specs.declared.note.Scroll.{Scroll}
use Rattle.doc_session.specs.PositionView.{position_view}
use Rattle.session_step.specs.Views.{ServesView, Stands, AreThere, HasApart, HaveOtherNames, IsFirstNamed, IsFoundAt, IsPutBehind, MayBeAsked, TakesEvents}
use Rattle.session_step.specs.InnerStep.{IsEdited, IsOutcome, MayTell, TakesSteps, each_event, each_step}
use Rattle.session_step.specs.Session.{OpenView, close_outcome, edit_came, keeping, named_view, next_view, opened_document, opening_outcome, other_step, own_step, result_of, scroll_for, stepped, taking, told, updates_for, without}
use Rattle.session_step.proofs.ViewLemmas.{same_id, other_way, AreOthers}

-- ---- what stands for views

pub Stands-append : (held more : List Opened) (views others : List OpenView) → Stands held views → Stands more others → Stands (held ++ more) (views ++ others)
Stands-append [] more [] others first second = second
Stands-append [] more (view ∷ views) others first second = absurd first
Stands-append (kept ∷ held) more [] others first second = absurd first
Stands-append (kept ∷ held) more (view ∷ views) others first second = (first.0, Stands-append held more views others first.1 second)

-- as many, and the first ones for the first ones
pub Stands-take : (n : ℕ) (held : List Opened) (views : List OpenView) → Stands held views → Stands (take n held) (take n views)
Stands-take zero held views stands = tt
Stands-take (suc n) [] [] stands = tt
Stands-take (suc n) [] (view ∷ views) stands = absurd stands
Stands-take (suc n) (kept ∷ held) [] stands = absurd stands
Stands-take (suc n) (kept ∷ held) (view ∷ views) stands = (stands.0, Stands-take n held views stands.1)

pub Stands-length : (held : List Opened) (views : List OpenView) → Stands held views → length held ≡ length views
Stands-length [] [] stands = refl
Stands-length [] (view ∷ views) stands = absurd stands
Stands-length (kept ∷ held) [] stands = absurd stands
Stands-length (kept ∷ held) (view ∷ views) stands = omega (arith, Stands-length held views stands.1)

-- ---- steps one after the other

told-append : (steps : OpenView → EventStep) (front back : List OpenView) → told steps (front ++ back) ≡ told steps front ++ told steps back
told-append steps [] back = refl
told-append steps (view ∷ front) back =
    ap (λ rest. updates_for view.id (steps view).update ++ rest) (told-append steps front back) ∙
    sym (append_assoc (updates_for view.id (steps view).update) (told steps front) (told steps back))

stepped-append : (steps : OpenView → EventStep) (front back : List OpenView) → stepped steps (front ++ back) ≡ stepped steps front ++ stepped steps back
stepped-append steps front back = map-append (λ (view : OpenView). record view { document = (steps view).document }) front back

-- no step yet
pub TakesSteps-none : (event : ToEach) (old : Stepped) → TakesSteps event old [] old
TakesSteps-none event old front [] first stands = (subst (Stands old.held) (sym (append-nil front)) first, sym (append-nil old.updates))
TakesSteps-none event old front (view ∷ views) first stands = absurd stands

-- steps behind steps
pub TakesSteps-append : (event : ToEach) (old middle new : Stepped) (held more : List Opened) → TakesSteps event old held middle →
    TakesSteps event middle more new → (front views others : List OpenView) → Stands old.held front → Stands held views → Stands more others →
    Stands new.held (front ++ stepped (each_step event) (views ++ others)) × (new.updates ≡ old.updates ++ told (each_step event) (views ++ others))
TakesSteps-append event old middle new held more one two front views others first stands behind =
    let steps = each_step event in
    let before = one front views first stands in
    let after = two (front ++ stepped steps views) others before.0 behind in (
      subst (Stands new.held) (append_assoc front (stepped steps views) (stepped steps others) ∙
          ap (λ all. front ++ all) (sym (stepped-append steps views others))) after.0,
      after.1 ∙ ap (λ updates. updates ++ told steps others) before.1 ∙ append_assoc old.updates (told steps views) (told steps others) ∙
          ap (λ all. old.updates ++ all) (sym (told-append steps views others)),
    )

-- one more of a slice
pub drop-item : {A : Type 0} (items : List A) (i : ℕ) (none x : A) → i < length items → x ≡ get_or items i none → drop i items ≡ x ∷ drop (i + 1) items
drop-item items i none x below is = drop-cons items i none below ∙ ap (λ y. y ∷ drop (suc i) items) (sym is) ∙ ap (λ j. x ∷ drop j items) (sym (add-one i))

-- the first i took their steps, and the rest waits
pub IsTakingTo : ToEach → Stepped → List Opened → ℕ → Stepped → Type 0
IsTakingTo event old held i new = (front views : List OpenView) → Stands old.held front → Stands held views →
    (done : List OpenView) × (left : List OpenView) × (views ≡ done ++ left) × Stands (drop i held) left ×
    Stands new.held (front ++ stepped (each_step event) done) × (new.updates ≡ old.updates ++ told (each_step event) done)

pub IsTakingTo-none : (event : ToEach) (old : Stepped) (held : List Opened) → IsTakingTo event old held 0 old
unfolding IsTakingTo
IsTakingTo-none event old held front views first stands =
    ([], views, refl, stands, subst (Stands old.held) (sym (append-nil front)) first, sym (append-nil old.updates))

pub IsTakingTo-next : (event : ToEach) (old : Stepped) (held : List Opened) (i : ℕ) (now next : Stepped) (none x : Opened) →
    IsTakingTo event old held i now → i < length held → x ≡ get_or held i none → TakesSteps event now (x ∷ []) next →
    IsTakingTo event old held (i + 1) next
unfolding IsTakingTo
IsTakingTo-next event old held i now next none x taking below is one front views first stands =
    let was = taking front views first stands in
    by was.0 was.1 was.2 (subst (λ rest. Stands rest was.1) (drop-item held i none x below is) was.3) was.4 was.5
  where
    steps : OpenView → EventStep
    steps = each_step event

    by : (done left : List OpenView) → views ≡ done ++ left → Stands (x ∷ drop (i + 1) held) left → Stands now.held (front ++ stepped steps done) →
        now.updates ≡ old.updates ++ told steps done →
        (done : List OpenView) × (left : List OpenView) × (views ≡ done ++ left) × Stands (drop (i + 1) held) left ×
        Stands next.held (front ++ stepped steps done) × (next.updates ≡ old.updates ++ told steps done)
    by done [] cut rest there tells = absurd rest
    by done (view ∷ left) cut rest there tells =
        let after = one (front ++ stepped steps done) (view ∷ []) there (rest.0, tt) in (
          done ++ view ∷ [],
          left,
          cut ∙ sym (append_assoc done (view ∷ []) left),
          rest.1,
          subst (Stands next.held) (append_assoc front (stepped steps done) (stepped steps (view ∷ [])) ∙
              ap (λ all. front ++ all) (sym (stepped-append steps done (view ∷ [])))) after.0,
          after.1 ∙ ap (λ updates. updates ++ told steps (view ∷ [])) tells ∙ append_assoc old.updates (told steps done) (told steps (view ∷ [])) ∙
              ap (λ all. old.updates ++ all) (sym (told-append steps done (view ∷ []))),
        )

none_left : (views done left : List OpenView) (held : List Opened) → views ≡ done ++ left → held ≡ [] → Stands held left → views ≡ done
none_left views done [] [] cut none stands = cut ∙ append-nil done
none_left views done (view ∷ left) [] cut none stands = absurd stands
none_left views done left (kept ∷ held) cut none stands = absurd cc

pub IsTakingTo-all : (event : ToEach) (old : Stepped) (held : List Opened) (i : ℕ) (now : Stepped) → IsTakingTo event old held i now → length held ≤ i →
    TakesSteps event old held now
unfolding IsTakingTo
IsTakingTo-all event old held i now taking end front views first stands =
    let was = taking front views first stands in
    let all : was.0 ≡ views = sym (none_left views was.0 was.1 (drop i held) was.2 (drop_all i held end) was.3) in
    let steps = each_step event in (
      subst (λ done. Stands now.held (front ++ stepped steps done)) all was.4,
      subst (λ done. now.updates ≡ old.updates ++ told steps done) all was.5,
    )

-- a view with the id and the document of a plain one was put behind those that stand for others
Stands-put : (old new : List Opened) (id : List ℕ) (doc : Doc) (front : List OpenView) (view : OpenView) → Stands old front →
    IsPutBehind old id doc new → id ≡ view.id → DocStandsFor doc view.document → Stands new (front ++ view ∷ [])
Stands-put old new id doc front view first put own stands =
    subst (λ all. Stands all (front ++ view ∷ [])) (sym put.behind)
    (Stands-append old (put.put ∷ []) front (view ∷ []) first
    (record { id = put.id_is ∙ own; stands = subst (λ held. DocStandsFor held view.document) (sym put.doc_is) stands }, tt))

-- one view took its step
pub TakesSteps-one : (event : ToEach) (old new : Stepped) (kept : Opened) (next : Doc) (effects : Effects) →
    ((plain : Document) → DocStandsFor (arc_value kept.doc) plain → DocStandsFor next (event_step plain (each_event event)).document) →
    ((plain : Document) → DocStandsFor (arc_value kept.doc) plain → AreEffectsOf (event_step plain (each_event event)) effects) →
    IsPutBehind old.held kept.id next new.held → new.updates ≡ old.updates ++ updates_for kept.id effects.update →
    TakesSteps event old (kept ∷ []) new
TakesSteps-one event old new kept next effects serves tells held updates front [] first stands = absurd stands
TakesSteps-one event old new kept next effects serves tells held updates front (view ∷ other ∷ views) first stands = absurd stands.1
TakesSteps-one event old new kept next effects serves tells held updates front (view ∷ []) first stands =
    let plain = view.document in
    let here = stands.0.stands in
    let step = each_step event view in (
      Stands-put old.held new.held kept.id next front (record view { document = step.document }) first held stands.0.id (serves plain here),
      updates ∙ ap (λ more. old.updates ++ more)
          (ap (λ update. updates_for kept.id update) (tells plain here).update ∙ ap (λ own. updates_for own step.update) stands.0.id ∙
          sym (append-nil (updates_for view.id step.update))),
    )

-- one view rests, and is put there as it is
pub TakesSteps-resting : (event : ToEach) (old new : Stepped) (kept : Opened) →
    ((plain : Document) → DocStandsFor (arc_value kept.doc) plain → event_step plain (each_event event) ≡ silent_step plain) →
    IsPutBehind old.held kept.id (arc_value kept.doc) new.held → new.updates ≡ old.updates → TakesSteps event old (kept ∷ []) new
TakesSteps-resting event old new kept rests held updates =
    TakesSteps-one event old new kept (arc_value kept.doc) nothing
    (λ plain stands. subst (λ (step : EventStep). DocStandsFor (arc_value kept.doc) step.document) (sym (rests plain stands)) stands)
    (λ plain stands.
    subst (λ step. AreEffectsOf step nothing) (sym (rests plain stands)) (record { body = refl; update = refl; scroll = refl; notice = refl })) held
    (updates ∙ sym (append-nil old.updates))
  where
    nothing : Effects
    nothing = record { body = Null; update = None; scroll = None; notice = None }

-- ---- the views beside one

-- what is held of the views before one, of it, and of those behind it
pub stands_before : (held : List Opened) (front : List OpenView) (view : OpenView) (back : List OpenView) → Stands held (front ++ view ∷ back) →
    Stands (take (length front) held) front
stands_before [] [] view back stands = absurd stands
stands_before [] (first ∷ front) view back stands = absurd stands
stands_before (kept ∷ held) [] view back stands = tt
stands_before (kept ∷ held) (first ∷ front) view back stands = (stands.0, stands_before held front view back stands.1)

pub stands_here : (held : List Opened) (front : List OpenView) (view : OpenView) (back : List OpenView) (none : Opened) →
    Stands held (front ++ view ∷ back) → ServesView (get_or held (length front) none) view
stands_here [] [] view back none stands = absurd stands
stands_here [] (first ∷ front) view back none stands = absurd stands
stands_here (kept ∷ held) [] view back none stands = stands.0
stands_here (kept ∷ held) (first ∷ front) view back none stands = stands_here held front view back none stands.1

stands_behind : (held : List Opened) (front : List OpenView) (view : OpenView) (back : List OpenView) → Stands held (front ++ view ∷ back) →
    Stands (drop (suc (length front)) held) back
stands_behind [] [] view back stands = absurd stands
stands_behind [] (first ∷ front) view back stands = absurd stands
stands_behind (kept ∷ held) [] view back stands = stands.1
stands_behind (kept ∷ held) (first ∷ front) view back stands = stands_behind held front view back stands.1

pub stands_after : (held : List Opened) (front : List OpenView) (view : OpenView) (back : List OpenView) → Stands held (front ++ view ∷ back) →
    Stands (drop (length front + 1) held) back
stands_after held front view back stands =
    subst (λ n. Stands (drop n held) back) (sym (add-one (length front))) (stands_behind held front view back stands)

-- the ids of those before it and behind it are others
pub record AreBeside (front : List OpenView) (view : OpenView) (back : List OpenView) : Type 0 where
  pub before : AreOthers view.id front
  pub after : AreOthers view.id back

first_other : (front : List OpenView) (view : OpenView) (back : List OpenView) (id : List ℕ) →
    AllByRecursion (λ (later : OpenView). bytes_eq id later.id ≡ false) (front ++ view ∷ back) → bytes_eq id view.id ≡ false
first_other [] view back id others = others.0
first_other (first ∷ front) view back id others = first_other front view back id others.1

pub beside : (front : List OpenView) (view : OpenView) (back : List OpenView) → HasApart (front ++ view ∷ back) → AreBeside front view back
unfolding AreOthers
beside [] view back apart = record { before = tt; after = apart.1 }
beside (first ∷ front) view back apart =
    let rest = beside front view back apart.2 in
    record {
      before = (other_way view.id first.id ∙ first_other front view back first.id apart.1, rest.before);
      after = rest.after;
    }

-- so they take the other step
pub others_step : (own : OpenView) (step : EventStep) (views : List OpenView) → AreOthers own.id views →
    (stepped (own_step own step) views ≡ stepped other_step views) × (told (own_step own step) views ≡ told other_step views)
unfolding AreOthers
others_step own step [] others = (refl, refl)
others_step own step (view ∷ views) others =
    let rest = others_step own step views others.1 in
    let here : own_step own step view ≡ other_step view = ap (λ same. if same then step else other_step view) others.0 in (
      ap (λ (s : EventStep). record view { document = s.document } ∷ stepped (own_step own step) views) here ∙
          ap (λ all. record view { document = (other_step view).document } ∷ all) rest.0,
      ap (λ (s : EventStep). updates_for view.id s.update ++ told (own_step own step) views) here ∙
          ap (λ all. updates_for view.id (other_step view).update ++ all) rest.1,
    )

own_here : (own : OpenView) (step : EventStep) → own_step own step own ≡ step
own_here own step = ap (λ same. if same then step else other_step own) (same_id own.id)

-- the views after the step of one of them
pub steps_beside : (front : List OpenView) (own : OpenView) (back : List OpenView) (step : EventStep) → AreBeside front own back →
    (stepped (own_step own step) (front ++ own ∷ back) ≡ (stepped other_step front ++ record own { document = step.document } ∷ []) ++ stepped other_step back) ×
    (told (own_step own step) (front ++ own ∷ back) ≡ (told other_step front ++ updates_for own.id step.update) ++ told other_step back)
steps_beside front own back step are =
    let steps = own_step own step in
    let before = others_step own step front are.before in
    let after = others_step own step back are.after in
    let here = own_here own step in (
      stepped-append steps front (own ∷ back) ∙ ap (λ all. all ++ stepped steps (own ∷ back)) before.0 ∙
          ap (λ (s : EventStep). stepped other_step front ++ record own { document = s.document } ∷ stepped steps back) here ∙
          ap (λ all. stepped other_step front ++ record own { document = step.document } ∷ all) after.0 ∙
          sym (append_assoc (stepped other_step front) (record own { document = step.document } ∷ []) (stepped other_step back)),
      told-append steps front (own ∷ back) ∙ ap (λ all. all ++ told steps (own ∷ back)) before.1 ∙
          ap (λ (s : EventStep). told other_step front ++ (updates_for own.id s.update ++ told steps back)) here ∙
          ap (λ all. told other_step front ++ (updates_for own.id step.update ++ all)) after.1 ∙
          sym (append_assoc (told other_step front) (updates_for own.id step.update) (told other_step back)),
    )

-- the views without one of them
without_others : (id : List ℕ) (views : List OpenView) → AreOthers id views → without id views ≡ views
unfolding AreOthers
without_others id [] others = refl
without_others id (view ∷ views) others =
    ap (λ same. if not same then view ∷ without id views else without id views) others.0 ∙
    ap (λ rest. view ∷ rest) (without_others id views others.1)

pub without_beside : (front : List OpenView) (own : OpenView) (back : List OpenView) → AreBeside front own back →
    without own.id (front ++ own ∷ back) ≡ front ++ back
unfolding AreOthers
without_beside [] own back are =
    ap (λ same. if not same then own ∷ without own.id back else without own.id back) (same_id own.id) ∙ without_others own.id back are.after
without_beside (view ∷ front) own back are =
    ap (λ same. if not same then view ∷ without own.id (front ++ own ∷ back) else without own.id (front ++ own ∷ back)) are.before.0 ∙
    ap (λ rest. view ∷ rest) (without_beside front own back (record { before = are.before.1; after = are.after }))

-- ---- where a view with a name stands

-- what was found where each id is of ASCII
name_is : (kept : Opened) (view : OpenView) → ServesView kept view → encode_utf8_all view.id ≡ view.id → encode_utf8_all kept.id ≡ view.id
name_is kept view serves ascii = ap encode_utf8_all serves.id ∙ ascii

pub none_named : (held : List Opened) (views : List OpenView) (name : List ℕ) → AreThere held views → HaveOtherNames name held →
    named_view views name ≡ None
none_named [] [] name there others = refl
none_named [] (view ∷ views) name there others = absurd there.0
none_named (kept ∷ held) [] name there others = absurd there.0
none_named (kept ∷ held) (view ∷ views) name there others =
    let other : bytes_eq (encode_utf8_all name) view.id ≡ false =
    subst (λ id. bytes_eq (encode_utf8_all name) id ≡ false) (name_is kept view there.0.0 there.1.0) others.0 in
    ap (λ here. if here then Some view else named_view views name) other ∙
    none_named held views name (there.0.1, there.1.2) others.1

pub record IsNamed (views : List OpenView) (name : List ℕ) (at : ℕ) : Type 0 where
  pub view : OpenView
  pub found : IsFoundAt views at view
  pub named : named_view views name ≡ Some view

pub first_named : (front : List Opened) (kept : Opened) (back : List Opened) (views : List OpenView) (name : List ℕ) →
    AreThere (front ++ kept ∷ back) views → HaveOtherNames name front → bytes_eq (encode_utf8_all name) (encode_utf8_all kept.id) ≡ true →
    IsNamed views name (length front)
first_named [] kept back [] name there others is = absurd there.0
first_named [] kept back (view ∷ views) name there others is = record {
  view = view;
  found = record { front = []; back = views; cut = refl; place = refl };
  named =
      let same : bytes_eq (encode_utf8_all name) view.id ≡ true =
      subst (λ id. bytes_eq (encode_utf8_all name) id ≡ true) (name_is kept view there.0.0 there.1.0) is in
      ap (λ here. if here then Some view else named_view views name) same;
}
first_named (first ∷ front) kept back [] name there others is = absurd there.0
first_named (first ∷ front) kept back (view ∷ views) name there others is =
    let rest = first_named front kept back views name (there.0.1, there.1.2) others.1 is in
    let other : bytes_eq (encode_utf8_all name) view.id ≡ false =
    subst (λ id. bytes_eq (encode_utf8_all name) id ≡ false) (name_is first view there.0.0 there.1.0) others.0 in
    record {
      view = rest.view;
      found = record {
        front = view ∷ rest.found.front;
        back = rest.found.back;
        cut = ap (λ all. view ∷ all) rest.found.cut;
        place = ap suc rest.found.place;
      };
      named = ap (λ here. if here then Some view else named_view views name) other ∙ rest.named;
    }

pub named_at : (held : List Opened) (views : List OpenView) (name : List ℕ) (at : ℕ) → AreThere held views → IsFirstNamed held name at → IsNamed views name at
named_at held views name at there is =
    let here = first_named is.front is.kept is.back views name (subst (λ all. AreThere all views) is.cut there) is.others is.named in
    subst (IsNamed views name) is.place here

-- ---- documents that take events

-- what may be asked of one of them
abbrev pub IsAsked : Opened → Type 0
IsAsked kept = TakesEvents (arc_value kept.doc) × ∥ ((plain : Document) × DocStandsFor (arc_value kept.doc) plain) ∥₁

pub asked_at : (held : List Opened) (i : ℕ) (none : Opened) → MayBeAsked held → i < length held → IsAsked (get_or held i none)
asked_at [] i none asked below = absurd (omega (arith, below))
asked_at (kept ∷ held) zero none asked below = asked.0
asked_at (kept ∷ held) (suc i) none asked below = asked_at held i none asked.1 (omega (arith, below))

pub asked_take : (n : ℕ) (held : List Opened) → MayBeAsked held → MayBeAsked (take n held)
asked_take zero held asked = tt
asked_take (suc n) [] asked = tt
asked_take (suc n) (kept ∷ held) asked = (asked.0, asked_take n held asked.1)

pub asked_drop : (n : ℕ) (held : List Opened) → MayBeAsked held → MayBeAsked (drop n held)
asked_drop zero held asked = asked
asked_drop (suc n) [] asked = tt
asked_drop (suc n) (kept ∷ held) asked = asked_drop n held asked.1

-- ---- what an act comes to by steps

-- before any step
abbrev pub unstepped : Stepped
unstepped = record { held = []; updates = [] }

pub IsOutcome-each : (event : ToEach) (held : List Opened) (new : Stepped) (reply : FrontReply) (came : ActEffects) (views : List OpenView) →
    TakesSteps event unstepped held new → came ≡ record { reply = reply; held = new.held; updates = new.updates; scroll = None; news = [] } → Stands held views →
    IsOutcome (taking (reply_of reply) None (each_step event) views) [] came
IsOutcome-each event held new reply came views takes is stands =
    let done = takes [] views tt stands in
    rw is (record { reply = refl; updates = done.1; scroll = refl; stands = done.0; told = refl })

-- a view is opened behind the others
pub IsOutcome-opening : (terms : Terms) (ended : List ℕ) (config : Config) (opened : ℕ) (id text : List ℕ) (loaded : Opened) (held : List Opened) (middle new : Stepped) (news : List PluginNews)
    (came : ActEffects) (views : List OpenView) → id ≡ view_id_of (opened + 1) → loaded.id ≡ id →
    DocStandsFor (arc_value loaded.doc) (opened_document terms ended config text) →
    TakesSteps to.Other unstepped held middle → TakesSteps to.Other middle (loaded ∷ []) new →
    came ≡ record { reply = reply_to.Opened id; held = new.held; updates = new.updates; scroll = None; news = news } → Stands held views →
    map told_of news ≡ opened_news opened text → IsOutcome (opening_outcome terms ended config opened views text) (opened_news opened text) came
IsOutcome-opening terms ended config opened id text loaded held middle new news came views numbered own loads first last is stands tells =
    let next = next_view terms ended config opened text in
    let serves : ServesView loaded next = record { id = own ∙ numbered; stands = loads } in
    let done = TakesSteps-append to.Other unstepped middle new held (loaded ∷ []) first last [] views (next ∷ []) tt stands (serves, tt) in
    rw is (record { reply = ap (λ n. accepted (text_data n)) numbered; updates = done.1; scroll = refl; stands = done.0; told = tells })

-- a view is closed
close_cut : (held : List Opened) (front : List OpenView) (view : OpenView) (back : List OpenView) (middle new : Stepped) (news : List PluginNews)
    (came : ActEffects) → AreThere held (front ++ view ∷ back) → TakesSteps to.Other unstepped (take (length front) held) middle →
    TakesSteps to.Other middle (drop (length front + 1) held) new →
    came ≡ record { reply = reply_to.Accepted; held = new.held; updates = new.updates; scroll = None; news = news } →
    map told_of news ≡ closed_news (Some view) → IsOutcome (close_outcome (front ++ view ∷ back) (Some view)) (closed_news (Some view)) came
close_cut held front view back middle new news came there first last is tells =
    let done =
    TakesSteps-append to.Other unstepped middle new (take (length front) held) (drop (length front + 1) held) first last [] front back tt
    (stands_before held front view back there.0) (stands_after held front view back there.0) in
    let At : List OpenView → Type 0 = λ views. IsOutcome (keeping views (accepted null)) (closed_news (Some view)) came in
    subst At (sym (without_beside front view back (beside front view back there.1)))
    (rw is (record { reply = refl; updates = done.1; scroll = refl; stands = done.0; told = tells }))

pub IsOutcome-closed : (held : List Opened) (views : List OpenView) (at : ℕ) (view : OpenView) (middle new : Stepped) (news : List PluginNews)
    (came : ActEffects) → AreThere held views → IsFoundAt views at view → TakesSteps to.Other unstepped (take at held) middle →
    TakesSteps to.Other middle (drop (at + 1) held) new →
    came ≡ record { reply = reply_to.Accepted; held = new.held; updates = new.updates; scroll = None; news = news } →
    map told_of news ≡ closed_news (Some view) → IsOutcome (close_outcome views (Some view)) (closed_news (Some view)) came
IsOutcome-closed held views at view middle new news came there found first last is tells =
    let First : ℕ → Type 0 = λ n. TakesSteps to.Other unstepped (take n held) middle in
    let Last : ℕ → Type 0 = λ n. TakesSteps to.Other middle (drop (n + 1) held) new in
    let At : List OpenView → Type 0 = λ all. IsOutcome (close_outcome all (Some view)) (closed_news (Some view)) came in
    subst At (sym found.cut)
    (close_cut held found.front view found.back middle new news came (subst (AreThere held) found.cut there) (subst First (sym found.place) first)
    (subst Last (sym found.place) last) is tells)

-- a view is edited
edited_cut : (held : List Opened) (front : List OpenView) (view : OpenView) (back : List OpenView) (step : EventStep) (next : Doc) (effects : Effects)
    (first second third : Stepped) (reply : FrontReply) (scroll : Option Scroll) (news : List PluginNews) (came : ActEffects) →
    AreThere held (front ++ view ∷ back) →
    IsEdited step next effects → TakesSteps to.Other unstepped (take (length front) held) first →
    IsPutBehind first.held view.id next second.held → second.updates ≡ first.updates ++ updates_for view.id effects.update →
    TakesSteps to.Other second (drop (length front + 1) held) third → reply_of reply ≡ accepted (result_of effects.body) →
    scroll ≡ scroll_for view.id (option_map position_view effects.scroll) →
    came ≡ record { reply = reply; held = third.held; updates = third.updates; scroll = scroll; news = news } →
    map told_of news ≡ news_for view.id effects.notice → IsOutcome (edit_came (front ++ view ∷ back) view None step) (edit_news view None step) came
edited_cut held front view back step next effects first second third reply scroll news came there made one held_is updates_is last reply_is scroll_is is tells =
    let after : OpenView = record view { document = step.document } in
    let before = one [] front tt (stands_before held front view back there.0) in
    let own : Stands second.held (stepped other_step front ++ after ∷ []) =
    Stands-put first.held second.held view.id next (stepped other_step front) after before.0 held_is refl made.0 in
    let done = last (stepped other_step front ++ after ∷ []) back own (stands_after held front view back there.0) in
    let all = steps_beside front view back step (beside front view back there.1) in
    let updates : third.updates ≡ told (own_step view step) (front ++ view ∷ back) =
    done.1 ∙
    ap (λ xs. xs ++ told other_step back)
    (updates_is ∙ ap (λ xs. xs ++ updates_for view.id effects.update) before.1 ∙
    ap (λ update. told other_step front ++ updates_for view.id update) made.1.update) ∙ sym all.1 in
    rw is (record {
      reply = reply_is ∙ ap (λ body. accepted (result_of body)) made.1.body;
      updates = updates;
      scroll = scroll_is ∙ ap (scroll_for view.id) made.1.scroll;
      stands = subst (Stands third.held) (sym all.0) done.0;
      told = tells ∙ ap (news_for view.id) made.1.notice;
    })

pub IsOutcome-edited : (held : List Opened) (views : List OpenView) (at : ℕ) (view : OpenView) (step : EventStep) (next : Doc) (effects : Effects)
    (id : List ℕ) (first second third : Stepped) (reply : FrontReply) (scroll : Option Scroll) (news : List PluginNews) (came : ActEffects) →
    AreThere held views →
    IsFoundAt views at view → id ≡ view.id → IsEdited step next effects → TakesSteps to.Other unstepped (take at held) first →
    IsPutBehind first.held id next second.held → second.updates ≡ first.updates ++ updates_for id effects.update →
    TakesSteps to.Other second (drop (at + 1) held) third → reply_of reply ≡ accepted (result_of effects.body) →
    scroll ≡ scroll_for id (option_map position_view effects.scroll) →
    came ≡ record { reply = reply; held = third.held; updates = third.updates; scroll = scroll; news = news } →
    map told_of news ≡ news_for id effects.notice → IsOutcome (edit_came views view None step) (edit_news view None step) came
IsOutcome-edited held views at view step next effects id first second third reply scroll news came there found own made one held_is updates_is last reply_is scroll_is is tells =
    let First : ℕ → Type 0 = λ n. TakesSteps to.Other unstepped (take n held) first in
    let Last : ℕ → Type 0 = λ n. TakesSteps to.Other second (drop (n + 1) held) third in
    let At : List OpenView → Type 0 = λ all. IsOutcome (edit_came all view None step) (edit_news view None step) came in
    subst At (sym found.cut)
    (edited_cut held found.front view found.back step next effects first second third reply scroll news came (subst (AreThere held) found.cut there) made
    (subst First (sym found.place) one) (record { put = held_is.put; behind = held_is.behind; id_is = held_is.id_is ∙ own; doc_is = held_is.doc_is })
    (updates_is ∙ ap (λ own. first.updates ++ updates_for own effects.update) own) (subst Last (sym found.place) last) reply_is
    (scroll_is ∙ ap (λ own. scroll_for own (option_map position_view effects.scroll)) own) is (tells ∙ ap (λ own. news_for own effects.notice) own))

-- what is held there is of the view that was found there
pub serves_found : (held : List Opened) (views : List OpenView) (at : ℕ) (view : OpenView) (none : Opened) → Stands held views → IsFoundAt views at view →
    ServesView (get_or held at none) view
serves_found held views at view none stands found =
    subst (λ n. ServesView (get_or held n none) view) found.place
    (stands_here held found.front view found.back none (subst (Stands held) found.cut stands))

pub first_inside : (held : List Opened) (name : List ℕ) (at : ℕ) → IsFirstNamed held name at → at < length held
first_inside held name at is = omega (arith, is.place, ap length is.cut, length-append is.front (is.kept ∷ is.back))

-- what each document is told is an event that may come to it
may_first : (told : ToEach) (kept : Opened) (held : List Opened) → MayTell told (kept ∷ held) →
    IsEventFor (length (arc_value kept.doc).text.sessions) (each_event told) × MayTell told held
may_first to.Other kept held may = (tt, tt)
may_first (to.Config config) kept held may = (may, may)
may_first (to.Ended caller) kept held may = may

pub may_at : (told : ToEach) (held : List Opened) (i : ℕ) (none : Opened) → MayTell told held → i < length held →
    IsEventFor (length (arc_value (get_or held i none).doc).text.sessions) (each_event told)
may_at told [] i none may below = absurd (omega (arith, below))
may_at told (kept ∷ held) zero none may below = (may_first told kept held may).0
may_at told (kept ∷ held) (suc i) none may below = may_at told held i none (may_first told kept held may).1 (omega (arith, below))

-- two facts of what was done
pub OnOk-both : {T E P Q R : Type 0} (result : Result T E) → (P → Q → R) → OnOk result P → OnOk result Q → OnOk result R
OnOk-both (Ok done) both p q = both p q
OnOk-both (Err fault) both p q = tt

-- the first that has the name, where none before it has it
pub IsFirstNamed-at : (held : List Opened) (name : List ℕ) (at : ℕ) (none x : Opened) → at < length held → x ≡ get_or held at none →
    HaveOtherNames name (take at held) → bytes_eq (encode_utf8_all name) (encode_utf8_all x.id) ≡ true → IsFirstNamed held name at
IsFirstNamed-at held name at none x below is others named = record {
  front = take at held;
  kept = x;
  back = drop (suc at) held;
  cut = split_at held at none below ∙ ap (λ y. take at held ++ y ∷ drop (suc at) held) (sym is);
  place = length-take-le at held (omega (arith, below));
  others = others;
  named = named;
}

-- a slice from a place on is what is left behind it
pub rest_behind : (m : ℕ) (held : List Opened) → take (length held - m) (drop m held) ≡ drop m held
rest_behind m held = take_all (length held - m) (drop m held) (omega (arith, length-drop m held))
