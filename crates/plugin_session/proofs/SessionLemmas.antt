-- Sessions that a journal serves, and longer ones.
use Rattle.std.proofs.Common.{ℕ, List, [], ◌∷◌, ◌++◌, length, refl, ap, sym, ◌∙◌}
use Rattle.std.specs.Prelude.{◌==◌}
use Rattle.std.proofs.lemmas.List.{append-nil}
use Rattle.std.proofs.lemmas.List.Elements.{filter-append}
use Rattle.xi_plain.specs.declared.entry.Entry.{Entry}
use Rattle.xi_plain.specs.declared.ask.Ask.{Ask}
use Rattle.xi_plain.specs.declared.ask.Query.{Query}
use Rattle.xi_plain.specs.declared.reply.Reply.{Reply}
use Rattle.xi_plain.specs.declared.reply.Answer.{Answer}
use Rattle.xi_plain.specs.Journal.{entries_of}
use Rattle.plugin_session.specs.declared.noted.Noted.{Noted}
use Rattle.plugin_session.specs.declared.noted.Noted.TheVariants.{Asked, Looked}
use Rattle.plugin_session.specs.Call.{Call, end_of, IsServedBy, Stand, Went}
use Rattle.plugin_session.specs.Visit.{Visit, IsVisit, IsServed, ServedStays, port_of, calls_of}
use Rattle.plugin_session.proofs.CallLemmas.{Stand-longer, entries_at-longer, Went-append}

module _ (serves : List Entry → ℕ → Ask → Reply → List Entry → Type 0) (answers : List Entry → ℕ → Query → Answer → Type 0) where
  -- a journal that is longer by no entry of the caller serves the session too
  pub served_stays : ServedStays serves answers
  served_stays caller journal more visits served none =
      record {
        each = served.each;
        stand = Stand-longer serves answers journal more caller 0 (calls_of visits) served.stand;
        alone = filter-append (λ entry. entry.caller == caller) journal more
            ∙ ap (λ x. entries_of caller journal ++ x) none ∙ append-nil (entries_of caller journal)
            ∙ served.alone ∙ sym (entries_at-longer serves answers journal more caller 0 (calls_of visits) served.stand);
      }

  -- a session with one visit more
  pub served_further : (caller : ℕ) (before after : List Entry) (visits : List Visit) (visit : Visit)
      → IsServed serves answers caller before visits → IsVisit (port_of caller visits) visit
      → Went serves answers caller before after visit.calls → IsServed serves answers caller after (visit ∷ visits)
  served_further caller before after visits visit served is went =
      let so_far : Went serves answers caller [] before (calls_of visits) =
      record { begins = (before, refl); stand = served.stand; own = served.alone } in
      let all = Went-append serves answers caller [] before after (calls_of visits) visit.calls so_far went in
      record { each = (is, served.each); stand = all.stand; alone = all.own }

module _ (serves_now serves : List Entry → ℕ → Ask → Reply → List Entry → Type 0)
    (answers_now answers : List Entry → ℕ → Query → Answer → Type 0)
    (serve : (before : List Entry) (caller : ℕ) (ask : Ask) (reply : Reply) (after : List Entry)
    → serves_now before caller ask reply after → serves before caller ask reply after)
    (answer : (log : List Entry) (caller : ℕ) (query : Query) (found : Answer) → answers_now log caller query found → answers log caller query found)
  where
    -- what was served by a later state was served by a former one
    IsServedBy-on : (journal : List Entry) (caller at : ℕ) (noted : Noted) → IsServedBy serves_now answers_now journal caller at noted
        → IsServedBy serves answers journal caller at noted
    IsServedBy-on journal caller at (Looked query found) is = answer _ caller query found is
    IsServedBy-on journal caller at (Asked ask reply) is = serve _ caller ask reply _ is

    Stand-on : (journal : List Entry) (caller from : ℕ) (calls : List Call) → Stand serves_now answers_now journal caller from calls
        → Stand serves answers journal caller from calls
    Stand-on journal caller from [] is = is
    Stand-on journal caller from (call ∷ calls) (le, served, rest) =
        (le, IsServedBy-on journal caller call.at call.noted served, Stand-on journal caller (end_of call) calls rest)

    pub Went-on : (caller : ℕ) (before after : List Entry) (calls : List Call) → Went serves_now answers_now caller before after calls
        → Went serves answers caller before after calls
    Went-on caller before after calls went =
        record { begins = went.begins; stand = Stand-on after caller (length before) calls went.stand; own = went.own }
