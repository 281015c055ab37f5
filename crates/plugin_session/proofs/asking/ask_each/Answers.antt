use Rattle.std.proofs.Common.{◌≡◌, ℕ, ◌+◌, List, [], ◌∷◌, ◌++◌, drop, ap, sym, ◌∙◌, subst, arith}
use Rattle.std.proofs.lemmas.Grind.{drop_more_same}
use Rattle.plugin_session.proofs.AskingLemmas.{SoFar, line_call, so_far_on, so_far_ends, next_kept, next_small, stop_kept, kept_on}
use Rattle.plugin_session.proofs.DoorLemmas.{Used-append}
use Rattle.plugin_session.proofs.asking.ask_each.Goals as goal

-- the line that is asked stands first in what is left
first_left : (at : ℕ) (lines now : List (List ℕ)) (line : List ℕ) → drop at now ≡ drop at lines → drop at now ≡ line ∷ drop (at + 1) now
    → drop at lines ≡ line ∷ drop (at + 1) lines
first_left at lines now line same first = sym same ∙ first ∙ ap (λ x. line ∷ x) (drop_more_same now lines at same)

pub returns-in-Stops-clause-asked : goal.returns-in-Stops-clause-asked
returns-in-Stops-clause-asked g c =
    let d = g.D.Door in
    let law = g.met.D.Door in
    let lines = c.args.lines.now.items in
    let inv = c.loop-at.invariant in
    let (calls, used, so_far, kept) = inv.asked in
    let (line, n, first, more) = c.ask_at-reply.ensures.used in
    let reply = c.ask_at-reply.result in
    let stops = sym c.in-Stops.ensures.step in (
      calls ++ line_call n line reply ∷ [],
      Used-append d.caller d.journal d.serves d.answers d.later d.ready d.told law.onward law.serves_on law.answers_on
          c.args.door.now c.loop-at.door c.ask_at-reply.new.door calls (line_call n line reply ∷ []) used more,
      so_far_ends lines (drop (c.loop-at.at + 1) lines) calls c.loop-at.kept n line reply c.in-Stops.met
          (subst (λ x. SoFar lines x calls) (first_left c.loop-at.at lines c.loop-at.lines.items line inv.rest first) so_far) stops,
      kept_on calls c.loop-at.kept c.loop-at.kept c.loop-at.at n line reply c.loop-at.lines.items c.ask_at-reply.new.lines.items c.put.new.lines.items
          inv.kept kept c.ask_at-reply.ensures.kept (c.put.ensures.kept line) (stop_kept c.loop-at.kept line reply c.in-Stops.met stops),
    )

pub loop-at-preserved : goal.loop-at-preserved
loop-at-preserved g c =
    let d = g.D.Door in
    let law = g.met.D.Door in
    let lines = c.args.lines.now.items in
    let inv = c.loop-at.invariant in
    let (calls, used, so_far, kept) = inv.asked in
    let (line, n, first, more) = c.ask_at-reply.ensures.used in
    let reply = c.ask_at-reply.result in
    let goes = sym c.in-Goes.ensures.step in
    record {
      asked = (
        calls ++ line_call n line reply ∷ [],
        Used-append d.caller d.journal d.serves d.answers d.later d.ready d.told law.onward law.serves_on law.answers_on
            c.args.door.now c.loop-at.door c.ask_at-reply.new.door calls (line_call n line reply ∷ []) used more,
        so_far_on lines (drop (c.loop-at.at + 1) lines) calls c.loop-at.kept c.in-Goes.next n line reply
            (subst (λ x. SoFar lines x calls) (first_left c.loop-at.at lines c.loop-at.lines.items line inv.rest first) so_far) goes,
        kept_on calls c.loop-at.kept c.in-Goes.next c.loop-at.at n line reply c.loop-at.lines.items c.ask_at-reply.new.lines.items c.put.new.lines.items
            inv.kept kept c.ask_at-reply.ensures.kept (c.put.ensures.kept line) (next_kept c.loop-at.kept c.in-Goes.next line reply goes),
      );
      rest = c.put.ensures.rest (c.loop-at.at + 1) (omega (arith, inv.kept)) ∙ c.ask_at-reply.ensures.rest
          ∙ drop_more_same c.loop-at.lines.items lines c.loop-at.at inv.rest;
      kept = omega (arith, inv.kept, next_small c.loop-at.kept c.in-Goes.next reply goes);
      long = omega (arith, inv.long, c.put.ensures.length, c.ask_at-reply.ensures.length, c.put.new.lines.ok.0, c.ask_at-reply.new.lines.ok.0, c.loop-at.lines.ok.0);
    }
