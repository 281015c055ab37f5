use Rattle.std.proofs.Common.{Option, ap, sym, ◌∙◌}
use Rattle.std.specs.Prelude.{slice_get}
use Rattle.std.specs.Option.{option_or}
use Rattle.plain_text.specs.declared.run.Run.{Run}
use Rattle.match_index.specs.Found.{first_from, runs_in}
use Rattle.doc_view.specs.Search.{if_wraps}
use Rattle.doc_view.proofs.SearchLemmas.{find-all}
use Rattle.doc_view.proofs.search.next_match.Goals as goal

pub returns-in-Some : goal.returns-in-Some
returns-in-Some c =
    let runs = runs_in c.args.matches.now in
    let found = ap (λ n. first_from n runs) (sym c.end_of_regions.ensures) ∙ sym c.first_from.ensures ∙ c.in-Some.is in
    sym (ap (λ (o : Option Run). option_or o (if_wraps c.args.wrap_around (slice_get runs 0))) found)

pub returns-in-None : goal.returns-in-None
returns-in-None c =
    let runs = runs_in c.args.matches.now in
    let found = ap (λ n. first_from n runs) (sym c.end_of_regions.ensures) ∙ sym c.first_from.ensures ∙ c.in-None.is in
    c.if_wraps.ensures ∙ ap (if_wraps c.args.wrap_around) (c.first_from-in-None.ensures ∙ find-all runs) ∙
    sym (ap (λ (o : Option Run). option_or o (if_wraps c.args.wrap_around (slice_get runs 0))) found)
