use Rattle.std.proofs.Common.{◌≡◌, length, ap, sym, ◌∙◌, arith}
use Rattle.std.proofs.lemmas.List.{length-map}
use Rattle.crew_cases.proofs.threads.front_works.Goals as goal

pub say_all-requires : goal.say_all-requires
say_all-requires g c = (
  c.requires.staffed,
  record {
    lines = λ line. tt;
    close = tt;
    plugins = λ caller from to. record { plugin = from; asks = λ ask of_plugin. tt };
    faults = λ before caller ask given after served. served.1;
  },
)

pub close_where-requires : goal.close_where-requires
close_where-requires g c = c.say_all.ensures.ready.0

pub gather_all-requires-clause-reserved : goal.gather_all-requires-clause-reserved
gather_all-requires-clause-reserved g c =
    let posts = c.args.taker.posts.items in
    let nexts = c.close_where.new.taker.posts.items in
    let same : length nexts ≡ length posts =
    sym (length-map nexts (λ post. post.given)) ∙ ap length (c.close_where.ensures.same.1 ∙ c.say_all.ensures.later.2) ∙ length-map posts (λ post. post.given) in
    (omega (arith, same, c.requires.reserved.0), omega (arith, same, c.requires.reserved.1))
