-- Calls at a door, one by one and together.
use Rattle.std.proofs.Common.{◌≡◌, ℕ, ◌+◌, ◌≤◌, Bool, true, false, List, [], ◌∷◌, ◌++◌, length, Option, Some, None, refl, ap, sym, ◌∙◌, subst, arith}
use Rattle.std.specs.Prelude.{◌==◌, if◌then◌else◌, take, drop}
use Rattle.std.proofs.lemmas.Bool.Decides.{nat_tests}
use Rattle.std.proofs.lemmas.List.{append-nil, append_assoc, length-append, take_all}
use Rattle.std.proofs.lemmas.List.Elements.{filter-append}
use Rattle.std.proofs.Math.Seq.{take-append_seam, drop-append_seam}
use Rattle.xi_plain.specs.declared.entry.Entry.{Entry}
use Rattle.xi_plain.specs.declared.ask.Ask.{Ask}
use Rattle.xi_plain.specs.declared.ask.Query.{Query}
use Rattle.xi_plain.specs.declared.reply.Reply.{Reply}
use Rattle.xi_plain.specs.declared.reply.Answer.{Answer}
use Rattle.xi_plain.specs.Reply.{has_entry}
use Rattle.xi_plain.specs.Room.{AddsEntryIf}
use Rattle.xi_plain.specs.Journal.{entries_of}
use Rattle.plugin_session.specs.declared.noted.Noted.{Noted}
use Rattle.plugin_session.specs.declared.noted.Noted.TheVariants.{Asked, Looked}
use Rattle.plugin_session.specs.Turn.{TellsMore}
use Rattle.plugin_session.specs.Call.{Call, Used, Went, made, noted_of, IsAskServed, IsLookServed}
use Rattle.plugin_session.proofs.CallLemmas.{Went-append, Begins-length}
use Rattle.plugin_session.proofs.SessionLemmas.{Went-on}

-- what is told gains nothing by nothing, and more after more
pub TellsMore-none : {A : Type 0} (told : Option (List A)) → TellsMore told told []
TellsMore-none None = tt
TellsMore-none (Some told) = sym (append-nil told)

pub TellsMore-append : {A : Type 0} (a b c : Option (List A)) (first second : List A) → TellsMore a b first → TellsMore b c second
    → TellsMore a c (first ++ second)
TellsMore-append None None None first second is more = tt
TellsMore-append None None (Some c) first second is more = more
TellsMore-append None (Some b) c first second is more = absurd is
TellsMore-append (Some a) None None first second is more = tt
TellsMore-append (Some a) None (Some c) first second is more = absurd more
TellsMore-append (Some a) (Some b) None first second is more = tt
TellsMore-append (Some a) (Some b) (Some c) first second is more = more ∙ ap (λ x. x ++ second) is ∙ append_assoc a first second

noted_of-append : (calls rest : List Call) → noted_of (calls ++ rest) ≡ noted_of calls ++ noted_of rest
noted_of-append [] rest = refl
noted_of-append (call ∷ calls) rest = ap (λ x. call.noted ∷ x) (noted_of-append calls rest)

-- the entries that an ask added: one of the caller, or none
abbrev Adds : Bool → ℕ → List Entry → List Entry → Type 0
Adds made caller before after =
    (more : List Entry) × (after ≡ before ++ more) × (length more ≡ (if made then 1 else 0)) × (entries_of caller more ≡ more)

pub own_entry : (caller : ℕ) (entry : Entry) → entry.caller ≡ caller → entries_of caller (entry ∷ []) ≡ entry ∷ []
own_entry caller entry is =
    let own : (entry.caller == caller) ≡ true = grind (arith, nat_tests, is) in
    ap (λ b. if b then entry ∷ [] else []) own

added : (made : Bool) (caller : ℕ) (before after : List Entry) → AddsEntryIf made before caller after → Adds made caller before after
added true caller before after (entry, is, own) = (entry ∷ [], is, refl, own_entry caller entry own)
added false caller before after is = ([], is ∙ sym (append-nil before), refl, refl)

module _ (serves : List Entry → ℕ → Ask → Reply → List Entry → Type 0) (answers : List Entry → ℕ → Query → Answer → Type 0) where
  Went-none : (caller : ℕ) (journal : List Entry) → Went serves answers caller journal journal []
  Went-none caller journal =
      record { begins = ([], sym (append-nil journal)); stand = omega arith; own = sym (append-nil (entries_of caller journal)) }

  -- what the entries of the caller are after others made some, and it made these
  own_after : (caller : ℕ) (before others more : List Entry) → entries_of caller others ≡ [] → entries_of caller more ≡ more
      → entries_of caller ((before ++ others) ++ more) ≡ entries_of caller before ++ more
  own_after caller before others more none own =
      let by = λ (entry : Entry). entry.caller == caller in
      filter-append by (before ++ others) more
      ∙ ap (λ x. x ++ entries_of caller more) (filter-append by before others ∙ ap (λ x. entries_of caller before ++ x) none ∙ append-nil (entries_of caller before))
      ∙ ap (λ x. entries_of caller before ++ x) own

  went_ask : (caller : ℕ) (ask : Ask) (reply : Reply) (before others more : List Entry) → entries_of caller others ≡ []
      → length more ≡ made (Asked ask reply) → entries_of caller more ≡ more
      → serves (before ++ others) caller ask reply ((before ++ others) ++ more)
      → Went serves answers caller before ((before ++ others) ++ more) (record { at = length (before ++ others); noted = Asked ask reply } ∷ [])
  went_ask caller ask reply before others more none count own served =
      let mid = before ++ others in
      let n = made (Asked ask reply) in
      let all : length (mid ++ more) ≡ length mid + n = length-append mid more ∙ ap (λ x. length mid + x) count in
      let whole : take (length mid + n) (mid ++ more) ≡ mid ++ more = take_all (length mid + n) (mid ++ more) (omega (arith, all)) in
      let part : take n (drop (length mid) (mid ++ more)) ≡ more =
      ap (take n) (drop-append_seam mid more) ∙ take_all n more (omega (arith, count)) in
      let longer : length before ≤ length mid = rw (length-append before others) (omega arith) in
      record {
        begins = (others ++ more, append_assoc before others more);
        stand = (
          longer,
          subst (λ x. serves (take (length mid) (mid ++ more)) caller ask reply x) (sym whole)
              (subst (λ x. serves x caller ask reply (mid ++ more)) (sym (take-append_seam mid more)) served),
          omega (arith, all),
        );
        own = own_after caller before others more none own
            ∙ ap (λ x. entries_of caller before ++ x) (sym (append-nil (take n (drop (length mid) (mid ++ more))) ∙ part));
      }

  went_look : (caller : ℕ) (query : Query) (answer : Answer) (before others : List Entry) → entries_of caller others ≡ []
      → answers (before ++ others) caller query answer
      → Went serves answers caller before (before ++ others) (record { at = length (before ++ others); noted = Looked query answer } ∷ [])
  went_look caller query answer before others none answered =
      let mid = before ++ others in
      let longer : length before ≤ length mid = rw (length-append before others) (omega arith) in
      record {
        begins = (others, refl);
        stand = (longer, subst (λ x. answers x caller query answer) (sym (take_all (length mid) mid (omega arith))) answered, omega arith);
        own = filter-append (λ (entry : Entry). entry.caller == caller) before others ∙ ap (λ x. entries_of caller before ++ x) none;
      }

module _ {D : Type 0} (caller : D → ℕ) (journal : D → List Entry)
    (serves : D → List Entry → ℕ → Ask → Reply → List Entry → Type 0) (answers : D → List Entry → ℕ → Query → Answer → Type 0)
    (later : D → D → Type 0) (ready : D → Type 0) (told : D → Option (List Noted)) where
  pub Used-none : (door : D) → later door door → ready door → Used caller journal serves answers later ready told door door []
  Used-none door grown usable =
      record {
        same = refl;
        grown = grown;
        usable = usable;
        went = Went-none (serves door) (answers door) (caller door) (journal door);
        tells = TellsMore-none (told door);
      }

  pub Used-ask : (before after : D) (ask : Ask) (reply : Reply) → caller after ≡ caller before → later before after → ready after
      → ((log done : List Entry) → serves before log (caller before) ask reply done → AddsEntryIf (has_entry reply) log (caller before) done)
      → IsAskServed (serves before) (caller before) ask reply (journal before) (journal after)
      → TellsMore (told before) (told after) (Asked ask reply ∷ [])
      → (at : ℕ) × Used caller journal serves answers later ready told before after (record { at = at; noted = Asked ask reply } ∷ [])
  Used-ask before after ask reply same grown usable one (others, none, served) tells =
      let mid = journal before ++ others in
      let new = added (has_entry reply) (caller before) mid (journal after) (one mid (journal after) served) in (
        length mid,
        record {
          same = same;
          grown = grown;
          usable = usable;
          went = subst (λ x. Went (serves before) (answers before) (caller before) (journal before) x (record { at = length mid; noted = Asked ask reply } ∷ []))
              (sym new.1)
              (went_ask (serves before) (answers before) (caller before) ask reply (journal before) others new.0 none new.2 new.3
              (subst (λ x. serves before mid (caller before) ask reply x) new.1 served));
          tells = tells;
        },
      )

  pub Used-look : (before after : D) (query : Query) (answer : Answer) → caller after ≡ caller before → later before after → ready after
      → IsLookServed (answers before) (caller before) query answer (journal before) (journal after)
      → TellsMore (told before) (told after) (Looked query answer ∷ [])
      → Used caller journal serves answers later ready told before after (record { at = length (journal after); noted = Looked query answer } ∷ [])
  Used-look before after query answer same grown usable (others, none, is, answered) tells =
      record {
        same = same;
        grown = grown;
        usable = usable;
        went = subst (λ x. Went (serves before) (answers before) (caller before) (journal before) x (record { at = length x; noted = Looked query answer } ∷ []))
            (sym is)
            (went_look (serves before) (answers before) (caller before) query answer (journal before) others none
            (subst (λ x. answers before x (caller before) query answer) is answered));
        tells = tells;
      }

  -- the journal is as long as before at least
  pub used_longer : (before after : D) (calls : List Call) → Used caller journal serves answers later ready told before after calls
      → length (journal before) ≤ length (journal after)
  used_longer before after calls used = Begins-length (journal before) (journal after) used.went.begins

  module _ (onward : (a b c : D) → later a b → later b c → later a c)
      (serve : (a b : D) (log : List Entry) (who : ℕ) (ask : Ask) (reply : Reply) (done : List Entry) → later a b → serves b log who ask reply done
      → serves a log who ask reply done)
      (answer : (a b : D) (log : List Entry) (who : ℕ) (query : Query) (found : Answer) → later a b → answers b log who query found
      → answers a log who query found) where
    -- calls at a former door, said of it, are said of one before it
    pub went_before : (first before : D) (who : ℕ) (old new : List Entry) (calls : List Call) → later first before
        → Went (serves before) (answers before) who old new calls → Went (serves first) (answers first) who old new calls
    went_before first before who old new calls grown went =
        Went-on (serves before) (serves first) (answers before) (answers first)
        (λ log asker ask reply done is. serve first before log asker ask reply done grown is)
        (λ log asker query found is. answer first before log asker query found grown is)
        who old new calls went

    pub Used-append : (a b c : D) (calls rest : List Call) → Used caller journal serves answers later ready told a b calls
        → Used caller journal serves answers later ready told b c rest → Used caller journal serves answers later ready told a c (calls ++ rest)
    Used-append a b c calls rest first second =
        record {
          same = second.same ∙ first.same;
          grown = onward a b c first.grown second.grown;
          usable = second.usable;
          went = Went-append (serves a) (answers a) (caller a) (journal a) (journal b) (journal c) calls rest first.went
              (went_before a b (caller a) (journal b) (journal c) rest first.grown
              (subst (λ who. Went (serves b) (answers b) who (journal b) (journal c) rest) first.same second.went));
          tells = subst (TellsMore (told a) (told c)) (sym (noted_of-append calls rest))
              (TellsMore-append (told a) (told b) (told c) (noted_of calls) (noted_of rest) first.tells second.tells);
        }
