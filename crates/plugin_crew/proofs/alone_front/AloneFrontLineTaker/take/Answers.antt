use Rattle.std.proofs.Common.{sym, ◌∙◌, subst}
use Rattle.xi_plain.specs.Journal.{front_entries}
use Rattle.xi_plain.specs.Reply.{has_entry}
use Rattle.xi_plain.specs.declared.ask.Ask.TheVariants.{FrontLine}
use Rattle.plugin_session.proofs.ForCallers.{ready_on}
use Rattle.plugin_crew.specs.Alone.{IsRunning}
use Rattle.plugin_crew.specs.Taker.{HasTaken, IsTakenBy}
use Rattle.plugin_crew.proofs.AloneLemmas.{line_sent, line_unsent, members_past, only_front}
use Rattle.plugin_crew.proofs.alone_front.AloneFrontLineTaker.take.Goals as goal
use Rattle.plugin_crew.proofs.alone_front.AloneFrontLineTaker.take.Goals.{then-is_sent, else-is_sent}

pub serve-reply-requires : goal.serve-reply-requires
serve-reply-requires g c =
    let f = c.args.self.now in
    let run = c.requires.ready in
    g.met.O.Object.fits_on f.first.value f.object 0 (FrontLine c.args.line) run.members_are.0 (run.may.lines c.args.line)

pub round-requires-clause-serving : goal.round-requires-clause-serving
round-requires-clause-serving g c =
    let o = g.O.Object in
    let law = g.met.O.Object in
    let f = c.args.self.now in
    let run = c.requires.ready in
    let next = c.serve-reply.new.self in
    let adds = law.one_entry f.object (o.journal f.object) 0 (FrontLine c.args.line) c.serve-reply.result (o.journal next) c.serve-reply.ensures.served in (
      f.first.value,
      run.visits,
      members_past o.journal o.serves o.answers o.grown g.P.Plugin.told law.onward law.serves_on law.answers_on f.first.value f.object next f.crew.members.items run.visits
          c.serve-reply.ensures.grown (only_front (has_entry c.serve-reply.result) (o.journal f.object) (o.journal next) adds) run.members_are,
    )

pub round-requires-clause-ready : goal.round-requires-clause-ready
round-requires-clause-ready g c caller from to =
    let law = g.met.O.Object in
    let f = c.args.self.now in
    let run = c.requires.ready in
    let next = c.serve-reply.new.self in
    let grown = law.onward f.first.value f.object next run.members_are.0 c.serve-reply.ensures.grown in
    ready_on g.O.Object.fits caller f.first.value next (λ ask fits. law.fits_on f.first.value next caller ask grown fits) (run.may.plugins caller from to)

pub returns-clause-ready : goal.returns-clause-ready
returns-clause-ready g c =
    let o = g.O.Object in
    let law = g.met.O.Object in
    let f = c.args.self.now in
    let run = c.requires.ready in
    let next = c.serve-reply.new.self in
    let given = c.serve-reply.result in
    let took = c.took_of-took.result in
    let line = c.args.line in
    let adds = law.one_entry f.object (o.journal f.object) 0 (FrontLine line) given (o.journal next) c.serve-reply.ensures.served in
    elim c.if-is_sent.branch [
      | then-is_sent w ↦ subst (λ x. IsRunning o.journal o.serves o.answers o.grown g.P.Plugin.told o.fits x.first.value x.object x.crew.members.items) (sym w.self-is)
          (line_sent o.journal o.serves o.answers o.grown g.P.Plugin.told law.onward law.serves_on law.answers_on o.fits f.first.value f.object next w.round.new.object
          f.crew.members.items w.round.new.self.members.items line given took c.took_of-took.ensures (sym c.is_sent.ensures ∙ w.if-is_sent.true) c.serve-reply.ensures.grown adds
          c.serve-reply.ensures.served w.round.ensures.length (law.prefix next w.round.new.object w.round.ensures.grown) w.round.ensures.round run).0
      | else-is_sent w ↦ subst (λ x. IsRunning o.journal o.serves o.answers o.grown g.P.Plugin.told o.fits x.first.value x.object x.crew.members.items) (sym w.self-is)
          (line_unsent o.journal o.serves o.answers o.grown g.P.Plugin.told law.onward law.serves_on law.answers_on o.fits f.first.value f.object next
          f.crew.members.items line given took c.took_of-took.ensures (sym c.is_sent.ensures ∙ w.if-is_sent.false) c.serve-reply.ensures.grown adds
          c.serve-reply.ensures.served run).0
    ]

pub returns-clause-took : goal.returns-clause-took
returns-clause-took g c =
    let o = g.O.Object in
    let law = g.met.O.Object in
    let f = c.args.self.now in
    let run = c.requires.ready in
    let next = c.serve-reply.new.self in
    let given = c.serve-reply.result in
    let took = c.took_of-took.result in
    let line = c.args.line in
    let adds = law.one_entry f.object (o.journal f.object) 0 (FrontLine line) given (o.journal next) c.serve-reply.ensures.served in
    elim c.if-is_sent.branch [
      | then-is_sent w ↦ subst (λ x. HasTaken (front_entries (o.journal f.object)) took (front_entries (o.journal x.object))) (sym w.self-is)
          (line_sent o.journal o.serves o.answers o.grown g.P.Plugin.told law.onward law.serves_on law.answers_on o.fits f.first.value f.object next w.round.new.object
          f.crew.members.items w.round.new.self.members.items line given took c.took_of-took.ensures (sym c.is_sent.ensures ∙ w.if-is_sent.true) c.serve-reply.ensures.grown adds
          c.serve-reply.ensures.served w.round.ensures.length (law.prefix next w.round.new.object w.round.ensures.grown) w.round.ensures.round run).1
      | else-is_sent w ↦ subst (λ x. HasTaken (front_entries (o.journal f.object)) took (front_entries (o.journal x.object))) (sym w.self-is)
          (line_unsent o.journal o.serves o.answers o.grown g.P.Plugin.told law.onward law.serves_on law.answers_on o.fits f.first.value f.object next
          f.crew.members.items line given took c.took_of-took.ensures (sym c.is_sent.ensures ∙ w.if-is_sent.false) c.serve-reply.ensures.grown adds
          c.serve-reply.ensures.served run).1
    ]

pub returns-clause-served : goal.returns-clause-served
returns-clause-served g c =
    let o = g.O.Object in
    let law = g.met.O.Object in
    let f = c.args.self.now in
    let run = c.requires.ready in
    let next = c.serve-reply.new.self in
    let given = c.serve-reply.result in
    let took = c.took_of-took.result in
    let line = c.args.line in
    let adds = law.one_entry f.object (o.journal f.object) 0 (FrontLine line) given (o.journal next) c.serve-reply.ensures.served in
    elim c.if-is_sent.branch [
      | then-is_sent w ↦ subst (λ x. IsTakenBy (o.serves f.first.value) line (o.journal f.object) took (o.journal x.object)) (sym w.self-is)
          (line_sent o.journal o.serves o.answers o.grown g.P.Plugin.told law.onward law.serves_on law.answers_on o.fits f.first.value f.object next w.round.new.object
          f.crew.members.items w.round.new.self.members.items line given took c.took_of-took.ensures (sym c.is_sent.ensures ∙ w.if-is_sent.true) c.serve-reply.ensures.grown adds
          c.serve-reply.ensures.served w.round.ensures.length (law.prefix next w.round.new.object w.round.ensures.grown) w.round.ensures.round run).2
      | else-is_sent w ↦ subst (λ x. IsTakenBy (o.serves f.first.value) line (o.journal f.object) took (o.journal x.object)) (sym w.self-is)
          (line_unsent o.journal o.serves o.answers o.grown g.P.Plugin.told law.onward law.serves_on law.answers_on o.fits f.first.value f.object next
          f.crew.members.items line given took c.took_of-took.ensures (sym c.is_sent.ensures ∙ w.if-is_sent.false) c.serve-reply.ensures.grown adds
          c.serve-reply.ensures.served run).2
    ]
