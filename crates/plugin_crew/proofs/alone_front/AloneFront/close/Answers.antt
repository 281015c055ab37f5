use Rattle.std.proofs.Common.{sym, ◌∙◌, subst}
use Rattle.std.specs.Bool.{MatchBool}
use Rattle.xi_plain.specs.Journal.{front_entries}
use Rattle.xi_plain.specs.Reply.{has_entry}
use Rattle.xi_plain.specs.declared.ask.Ask.TheVariants.{CloseDown}
use Rattle.plugin_session.proofs.ForCallers.{ready_on}
use Rattle.plugin_crew.specs.Alone.{IsClosed, IsRunning}
use Rattle.plugin_crew.specs.Taker.{HasTaken, IsEnteredBy, adds_entry}
use Rattle.plugin_crew.proofs.AloneLemmas.{closing_made, closing_none, members_past, only_front}
use Rattle.plugin_crew.proofs.alone_front.AloneFront.close.Goals as goal
use Rattle.plugin_crew.proofs.alone_front.AloneFront.close.Goals.{then-adds_entry, else-adds_entry}

pub serve-reply-requires : goal.serve-reply-requires
serve-reply-requires g c =
    let f = c.args.self.now in
    let run = c.requires.running in
    g.met.O.Object.fits_on f.first.value f.object 0 CloseDown run.members_are.0 run.may.close

pub round-requires-clause-serving : goal.round-requires-clause-serving
round-requires-clause-serving g c =
    let o = g.O.Object in
    let law = g.met.O.Object in
    let f = c.args.self.now in
    let run = c.requires.running in
    let next = c.serve-reply.new.self in
    let adds = law.one_entry f.object (o.journal f.object) 0 CloseDown c.serve-reply.result (o.journal next) c.serve-reply.ensures.served in (
      f.first.value,
      run.visits,
      members_past o.journal o.serves o.answers o.grown g.P.Plugin.told law.onward law.serves_on law.answers_on f.first.value f.object next f.crew.members.items run.visits
          c.serve-reply.ensures.grown (only_front (has_entry c.serve-reply.result) (o.journal f.object) (o.journal next) adds) run.members_are,
    )

pub round-requires-clause-ready : goal.round-requires-clause-ready
round-requires-clause-ready g c caller from to =
    let law = g.met.O.Object in
    let f = c.args.self.now in
    let run = c.requires.running in
    let next = c.serve-reply.new.self in
    let grown = law.onward f.first.value f.object next run.members_are.0 c.serve-reply.ensures.grown in
    ready_on g.O.Object.fits caller f.first.value next (λ ask fits. law.fits_on f.first.value next caller ask grown fits) (run.may.plugins caller from to)

pub returns-clause-closed : goal.returns-clause-closed
returns-clause-closed g c =
    let o = g.O.Object in
    let law = g.met.O.Object in
    let f = c.args.self.now in
    let run = c.requires.running in
    let next = c.serve-reply.new.self in
    let given = c.serve-reply.result in
    let took = c.took_of-took.result in
    let entries = front_entries (o.journal f.object) in
    let adds = law.one_entry f.object (o.journal f.object) 0 CloseDown given (o.journal next) c.serve-reply.ensures.served in
    elim c.if-adds_entry.branch [
      | then-adds_entry w ↦ subst (λ x. MatchBool (adds_entry took) (IsClosed o.journal o.serves o.answers o.grown g.P.Plugin.told x.first.value x.object x.crew.members.items entries)
          (IsRunning o.journal o.serves o.answers o.grown g.P.Plugin.told o.fits x.first.value x.object x.crew.members.items)) (sym w.self-is)
          (closing_made o.journal o.serves o.answers o.grown g.P.Plugin.told law.onward law.serves_on law.answers_on o.fits f.first.value f.object next w.round.new.object
          f.crew.members.items w.round.new.self.members.items given took c.took_of-took.ensures (sym c.adds_entry.ensures ∙ w.if-adds_entry.true) c.serve-reply.ensures.grown adds
          c.serve-reply.ensures.served w.round.ensures.length (law.prefix next w.round.new.object w.round.ensures.grown) w.round.ensures.round run).0
      | else-adds_entry w ↦ subst (λ x. MatchBool (adds_entry took) (IsClosed o.journal o.serves o.answers o.grown g.P.Plugin.told x.first.value x.object x.crew.members.items entries)
          (IsRunning o.journal o.serves o.answers o.grown g.P.Plugin.told o.fits x.first.value x.object x.crew.members.items)) (sym w.self-is)
          (closing_none o.journal o.serves o.answers o.grown g.P.Plugin.told law.onward law.serves_on law.answers_on o.fits f.first.value f.object next
          f.crew.members.items given took c.took_of-took.ensures (sym c.adds_entry.ensures ∙ w.if-adds_entry.false) c.serve-reply.ensures.grown adds
          c.serve-reply.ensures.served run).0
    ]

pub returns-clause-took : goal.returns-clause-took
returns-clause-took g c =
    let o = g.O.Object in
    let law = g.met.O.Object in
    let f = c.args.self.now in
    let run = c.requires.running in
    let next = c.serve-reply.new.self in
    let given = c.serve-reply.result in
    let took = c.took_of-took.result in
    let entries = front_entries (o.journal f.object) in
    let adds = law.one_entry f.object (o.journal f.object) 0 CloseDown given (o.journal next) c.serve-reply.ensures.served in
    elim c.if-adds_entry.branch [
      | then-adds_entry w ↦ subst (λ x. HasTaken entries took (front_entries (o.journal x.object))) (sym w.self-is)
          (closing_made o.journal o.serves o.answers o.grown g.P.Plugin.told law.onward law.serves_on law.answers_on o.fits f.first.value f.object next w.round.new.object
          f.crew.members.items w.round.new.self.members.items given took c.took_of-took.ensures (sym c.adds_entry.ensures ∙ w.if-adds_entry.true) c.serve-reply.ensures.grown adds
          c.serve-reply.ensures.served w.round.ensures.length (law.prefix next w.round.new.object w.round.ensures.grown) w.round.ensures.round run).1
      | else-adds_entry w ↦ subst (λ x. HasTaken entries took (front_entries (o.journal x.object))) (sym w.self-is)
          (closing_none o.journal o.serves o.answers o.grown g.P.Plugin.told law.onward law.serves_on law.answers_on o.fits f.first.value f.object next
          f.crew.members.items given took c.took_of-took.ensures (sym c.adds_entry.ensures ∙ w.if-adds_entry.false) c.serve-reply.ensures.grown adds
          c.serve-reply.ensures.served run).1
    ]

pub returns-clause-served : goal.returns-clause-served
returns-clause-served g c =
    let o = g.O.Object in
    let law = g.met.O.Object in
    let f = c.args.self.now in
    let run = c.requires.running in
    let next = c.serve-reply.new.self in
    let given = c.serve-reply.result in
    let took = c.took_of-took.result in
    let entries = front_entries (o.journal f.object) in
    let adds = law.one_entry f.object (o.journal f.object) 0 CloseDown given (o.journal next) c.serve-reply.ensures.served in
    elim c.if-adds_entry.branch [
      | then-adds_entry w ↦ subst (λ x. IsEnteredBy (o.serves f.first.value) CloseDown (o.journal f.object) took (o.journal x.object)) (sym w.self-is)
          (closing_made o.journal o.serves o.answers o.grown g.P.Plugin.told law.onward law.serves_on law.answers_on o.fits f.first.value f.object next w.round.new.object
          f.crew.members.items w.round.new.self.members.items given took c.took_of-took.ensures (sym c.adds_entry.ensures ∙ w.if-adds_entry.true) c.serve-reply.ensures.grown adds
          c.serve-reply.ensures.served w.round.ensures.length (law.prefix next w.round.new.object w.round.ensures.grown) w.round.ensures.round run).2
      | else-adds_entry w ↦ subst (λ x. IsEnteredBy (o.serves f.first.value) CloseDown (o.journal f.object) took (o.journal x.object)) (sym w.self-is)
          (closing_none o.journal o.serves o.answers o.grown g.P.Plugin.told law.onward law.serves_on law.answers_on o.fits f.first.value f.object next
          f.crew.members.items given took c.took_of-took.ensures (sym c.adds_entry.ensures ∙ w.if-adds_entry.false) c.serve-reply.ensures.grown adds
          c.serve-reply.ensures.served run).2
    ]
