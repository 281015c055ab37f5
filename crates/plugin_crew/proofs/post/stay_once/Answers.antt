use Rattle.std.proofs.Common.{ap, sym, ◌∙◌}
use Rattle.plugin_crew.specs.declared.member.Member.{Member}
use Rattle.plugin_crew.specs.Standing.{is_going, standing_after}
use Rattle.plugin_crew.proofs.PostLemmas.{stay_open, stay_caller, stay_usable, stay_further, stay_turn}
use Rattle.plugin_crew.proofs.post.stay_once.Goals as goal

pub turn_once-after-requires-clause-open : goal.turn_once-after-requires-clause-open
turn_once-after-requires-clause-open g c =
    let o = g.O.Object in
    let (given, stay) = c.requires.stays in
    stay_open o.fits o.legal o.serves o.answers g.P.Plugin.told given c.args.member c.args.door stay (ap is_going c.requires.going)

pub turn_once-after-requires-clause-caller : goal.turn_once-after-requires-clause-caller
turn_once-after-requires-clause-caller g c =
    let o = g.O.Object in
    let (given, stay) = c.requires.stays in
    stay_caller o.fits o.legal o.serves o.answers g.P.Plugin.told given c.args.member c.args.door stay

pub turn_once-after-requires-clause-place : goal.turn_once-after-requires-clause-place
turn_once-after-requires-clause-place g c = let (given, stay) = c.requires.stays in stay.session.place

pub turn_once-after-requires-clause-ready : goal.turn_once-after-requires-clause-ready
turn_once-after-requires-clause-ready g c =
    let o = g.O.Object in
    let (given, stay) = c.requires.stays in
    stay_usable o.fits o.legal o.serves o.answers g.P.Plugin.told given c.args.member c.args.door stay

pub returns-clause-stays : goal.returns-clause-stays
returns-clause-stays g c given stay =
    let o = g.O.Object in
    let next : Member g.row.P.Denot =
    record {
      caller = c.args.member.caller;
      port = c.turn_once-after.new.self;
      plugin = c.turn_once-after.new.plugin;
      began = c.args.member.began;
      standing = c.standing_after-member.result;
    } in
    let (visit, visited, is) = c.turn_once-after.ensures.visited in
    stay_further o.fits o.legal o.serves o.answers g.P.Plugin.told given c.args.member next c.args.door c.turn_once-after.new.door visit visited.fits visited.moved
    c.turn_once-after.ensures.place visited.used.grown visited.used.usable visited.used.went visited.tells (c.standing_after-member.ensures ∙ ap standing_after (sym is)) stay

pub returns-clause-turn : goal.returns-clause-turn
returns-clause-turn g c given stay =
    let o = g.O.Object in
    let next : Member g.row.P.Denot =
    record {
      caller = c.args.member.caller;
      port = c.turn_once-after.new.self;
      plugin = c.turn_once-after.new.plugin;
      began = c.args.member.began;
      standing = c.standing_after-member.result;
    } in
    let (visit, visited, is) = c.turn_once-after.ensures.visited in
    stay_turn o.fits o.legal o.serves o.answers g.P.Plugin.told given c.args.member next c.args.door c.turn_once-after.new.door visit (ap is_going c.requires.going)
    visited.fits visited.moved (c.standing_after-member.ensures ∙ ap standing_after (sym is)) visited.used.went stay
