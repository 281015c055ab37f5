use Rattle.std.proofs.Common.{refl, ap, sym, ◌∙◌, subst}
use Rattle.std.specs.Prelude.{unwrap_or}
use Rattle.doc_text.specs.InMemory.{text_in}
use Rattle.doc_text.specs.Collecting.{collected_text}
use Rattle.doc_text.specs.Stands.{TextStandsFor}
use Rattle.doc_session.specs.InMemory.{Doc}
use Rattle.doc_session.specs.Inner.{IsUncollected}
use Rattle.doc_session.proofs.SettleLemmas.{DocStandsFor-collected}
use Rattle.doc_session.proofs.doc.Doc.collected.Goals as goal

pub with_collected-requires-clause-shown : goal.with_collected-requires-clause-shown
with_collected-requires-clause-shown c =
    ap (λ found. text_in (unwrap_or found c.self.inside.text)) (sym c.in-Some.is) ∙ c.in_ok-text.ensures.shown ∙ ap (λ (d : Doc). text_in d.text) c.self.view_is

pub with_collected-requires-clause-count : goal.with_collected-requires-clause-count
with_collected-requires-clause-count c =
    ap (λ found. (unwrap_or found c.self.inside.text).sessions) (sym c.in-Some.is) ∙ c.in_ok-text.ensures.sessions ∙
    ap (λ (d : Doc). d.text.sessions) c.self.view_is

pub returns-in_ok-with_collected-in-Some : goal.returns-in_ok-with_collected-in-Some
returns-in_ok-with_collected-in-Some c = record {
  stands = λ plain stands.
      let was = subst (λ (d : Doc). IsUncollected d plain) (sym c.self.view_is) stands in
      let text = subst (λ found. TextStandsFor (unwrap_or found c.self.inside.text) (collected_text plain.text)) c.in-Some.is
      (c.in_ok-text.ensures.stands plain.text was.text) in
      DocStandsFor-collected c.args.self.now plain c.in-Some.text _ stands text c.in_ok-with_collected-in-Some.ensures;
  sessions =
      ap (λ (d : Doc). d.text.sessions) c.in_ok-with_collected-in-Some.ensures ∙
      ap (λ found. (unwrap_or found c.self.inside.text).sessions) (sym c.in-Some.is) ∙ c.in_ok-text.ensures.sessions ∙
      ap (λ (d : Doc). d.text.sessions) c.self.view_is;
}

pub returns-in-None-clause-stands : goal.returns-in-None-clause-stands
returns-in-None-clause-stands c = λ plain stands.
    let now = c.args.self.now in
    let was = subst (λ (d : Doc). IsUncollected d plain) (sym c.self.view_is) stands in
    let text = subst (λ (d : Doc). TextStandsFor d.text (collected_text plain.text)) c.self.view_is
    (subst (λ found. TextStandsFor (unwrap_or found c.self.inside.text) (collected_text plain.text)) c.in-None.is
    (c.in_ok-text.ensures.stands plain.text was.text)) in
    DocStandsFor-collected now plain now.text now stands text refl
