use Rattle.std.proofs.Common.{◌++◌, ap, sym, ◌∙◌, subst}
use Rattle.std.proofs.lemmas.List.{append-nil}
use Rattle.plugin_session.specs.Call.{answers_of}
use Rattle.plugin_session.specs.Visit.{AreAsked}
use Rattle.plugin_session.proofs.CallLemmas.{answers_of-append}
use Rattle.plugin_session.proofs.DoorLemmas.{Used-append}
use Rattle.plugin_session.proofs.asking.ask_all.Goals as goal

pub returns : goal.returns
returns g c =
    let d = g.D.Door in
    let law = g.met.D.Door in
    let (calls, used, were, kept) = c.ask_lines-met.ensures.asked in
    let (rest, more, ends, none) = c.end-after.ensures.ended in
    record {
      asked = (
        calls ++ rest,
        Used-append d.caller d.journal d.serves d.answers d.later d.ready d.told law.onward law.serves_on law.answers_on
            c.args.door.now c.ask_lines-met.new.door c.end-after.new.door calls rest used more,
        subst (λ lines. AreAsked lines c.args.turn.done (calls ++ rest) c.end-after.result) c.into_vec-lines.ensures (were c.args.turn.done rest c.end-after.result ends),
        c.from_vec.ensures ∙ kept ∙ sym (answers_of-append calls rest ∙ ap (λ x. answers_of calls ++ x) none ∙ append-nil (answers_of calls)),
      );
    }
