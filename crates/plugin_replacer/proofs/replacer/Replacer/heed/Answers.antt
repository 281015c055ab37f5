use Rattle.std.proofs.Common.{◌≢◌, Some, ap, subst, ◌∙◌}
use Rattle.std.specs.Str.{encode_utf8_all}
use Rattle.plugin_side.specs.Heard.{heard_in}
use Rattle.plugin_mirror.specs.declared.fault.BookFault.TheVariants.{NoMemory}
use Rattle.plugin_replacer.specs.Replacing.{searched_all, edits, line_course}
use Rattle.plugin_replacer.specs.Turns.{Puts, PutsFirst, TakesCourse, in_utf8}
use Rattle.plugin_replacer.proofs.StepLemmas.{heed-taken, heed-ended, heed-first, on_err_any, handed_on}
use Rattle.plugin_replacer.proofs.CourseLemmas.{PutsFirst-none}
use Rattle.plugin_replacer.proofs.replacer.Replacer.heed.Goals as goal

pub returns-clause-all : goal.returns-clause-all
returns-clause-all g c =
    let s = c.self.inside.search in
    heed-taken g.M.Spot.found_in c.args.self.now s.spot s.new c.self.inside.book s.searched c.self.inside.fault c.self.view_is (heard_in (encode_utf8_all c.args.line.now))
    c.take.new.self c.pages.new.self.searched (in_utf8 c.args.given.now) (in_utf8 c.pages.new.given) c.in_ok-take.ensures.taken c.take.ensures.rest
    (c.in_ok-pages.ensures.searched ∙ ap (searched_all s.searched) c.leaves.ensures)
    (subst (λ leaves. Puts (edits (g.M.Spot.found_in s.spot) s.new s.searched leaves) (in_utf8 c.args.given.now) (in_utf8 c.pages.new.given)) c.leaves.ensures c.in_ok-pages.ensures.all)

pub returns-in_err-take-clause-ended : goal.returns-in_err-take-clause-ended
returns-in_err-take-clause-ended g c =
    let old = c.args.self.now in
    let s = c.self.inside.search in
    let why = c.in_err-take.field-0.0 in
    let heard = heard_in (encode_utf8_all c.args.line.now) in
    let given = in_utf8 c.args.given.now in
    handed_on
    (λ fault. fault ≢ NoMemory → TakesCourse (line_course (g.M.Spot.found_in old.spot) old.new old.state heard) (record { book = c.take.new.self; searched = s.searched }) (Some fault) given given)
    c.from_residual.result why c.from_residual.ensures.1
    (λ other.
    heed-ended g.M.Spot.found_in old s.spot s.new c.self.inside.book s.searched c.self.inside.fault c.self.view_is heard c.take.new.self why given
    (c.in_err-take.ensures.fault other) c.in_err-take.ensures.same)

pub returns-in_err-take-clause-first : goal.returns-in_err-take-clause-first
returns-in_err-take-clause-first g c = on_err_any _ (PutsFirst-none _ _)

pub returns-in_err-pages-clause-first : goal.returns-in_err-pages-clause-first
returns-in_err-pages-clause-first g c =
    let s = c.self.inside.search in
    on_err_any _
    (heed-first g.M.Spot.found_in c.args.self.now s.spot s.new c.self.inside.book s.searched c.self.inside.fault c.self.view_is (heard_in (encode_utf8_all c.args.line.now))
    c.take.new.self (in_utf8 c.args.given.now) (in_utf8 c.pages.new.given) c.in_ok-take.ensures.taken
    (subst (λ leaves. PutsFirst (edits (g.M.Spot.found_in s.spot) s.new s.searched leaves) (in_utf8 c.args.given.now) (in_utf8 c.pages.new.given)) c.leaves.ensures c.in_err-pages.ensures.first))
