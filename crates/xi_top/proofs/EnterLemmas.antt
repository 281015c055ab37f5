-- What a line that was entered comes to, by what came of it.
use Rattle.std.proofs.Common.{◌≡◌, ℕ, true, false, Bool, List, [], ◌∷◌, ◌++◌, get_or, inl, inr, Err, refl, ap, sym, ◌∙◌, subst, arith}
use Rattle.std.proofs.lemmas.Bool.Decides.{nat_tests}
use Rattle.std.proofs.lemmas.List.{append_cancel_left}
use Rattle.std.proofs.lemmas.List.Elements.{filter-append}
use Rattle.std.proofs.lemmas.List.Folds.{list_any-append}
use Rattle.std.specs.Prelude.{◌==◌, ◌||◌, not, if◌then◌else◌}
use Rattle.xi_plain.specs.declared.entry.Entry.{Entry}
use Rattle.xi_plain.specs.declared.ask.Ask.{Ask}
use Rattle.xi_plain.specs.declared.ask.Ask.TheVariants.{FrontLine}
use Rattle.xi_plain.specs.declared.reply.Reply.{Reply}
use Rattle.xi_plain.specs.declared.reply.Reply.TheVariants as reply
use Rattle.xi_plain.specs.Journal.{front_entries, is_closing}
use Rattle.xi_plain.specs.Reply.{has_entry}
use Rattle.xi_plain.specs.Room.{Begins}
use Rattle.core_session.specs.Kept.{is_over}
use Rattle.plugin_crew.specs.declared.took.Took.{Took}
use Rattle.plugin_crew.specs.declared.took.Took.TheVariants as took
use Rattle.plugin_crew.specs.Taker.{HasTaken, IsTakenBy, adds_entry, took_of}
use Rattle.xi_top.specs.declared.ending.Ending.{Ending}
use Rattle.xi_top.specs.declared.ending.Ending.TheVariants.{NoMemory, SourceFault, SinkFault, TooMany, TooLong}
use Rattle.xi_top.specs.Reads.{ReadsLines}
use Rattle.xi_top.specs.InnerRun.{Enters, FailsBy, IsEntry, IsNoSourceFault, ended_by}

-- ---- where no more is to come

any_left : (a b : Bool) → a ≡ true → (a || b) ≡ true
any_left true b is = refl
any_left false b is = absurd cc

any_right : (a b : Bool) → b ≡ true → (a || b) ≡ true
any_right true b is = refl
any_right false b is = is

-- it stays so
pub over_more : (entries more : List Entry) → is_over entries ≡ true → is_over (entries ++ more) ≡ true
over_more entries more over =
    list_any-append (λ entry. is_closing entry || not entry.sent) entries more ∙ any_left (is_over entries) (is_over more) over

pub over_begins : (first journal : List Entry) → Begins first journal → is_over first ≡ true → is_over journal ≡ true
over_begins first journal (more, is) over = ap is_over is ∙ over_more first more over

-- after an entry that was not sent
unsent_ends : (closes sent : Bool) → sent ≡ false → ((closes || not sent) || false) ≡ true
unsent_ends true false is = refl
unsent_ends false false is = refl
unsent_ends closes true is = absurd cc

pub over_last : (entries : List Entry) (entry : Entry) → entry.sent ≡ false → is_over (entries ++ entry ∷ []) ≡ true
over_last entries entry unsent =
    list_any-append (λ e. is_closing e || not e.sent) entries (entry ∷ []) ∙
    any_right (is_over entries) (is_over (entry ∷ [])) (unsent_ends (is_closing entry) entry.sent unsent)

-- one of the front end's is one of all
over_with : (own : Bool) (entry : Entry) (fronts entries : List Entry) → (is_over fronts ≡ true → is_over entries ≡ true) →
    is_over (if own then entry ∷ fronts else fronts) ≡ true → is_over (entry ∷ entries) ≡ true
over_with false entry fronts entries later over = any_right (is_closing entry || not entry.sent) (is_over entries) (later over)
over_with true entry fronts entries later over = by (is_closing entry || not entry.sent) over
  where
    by : (here : Bool) → (here || is_over fronts) ≡ true → (here || is_over entries) ≡ true
    by true is = refl
    by false is = later is

pub over_front : (entries : List Entry) → is_over (front_entries entries) ≡ true → is_over entries ≡ true
over_front [] over = over
over_front (entry ∷ entries) over = over_with (entry.caller == 0) entry (front_entries entries) entries (over_front entries) over

-- ---- one line

pub front_one : (before after : List Entry) (entry : Entry) → after ≡ before ++ entry ∷ [] → entry.caller ≡ 0 →
    front_entries after ≡ front_entries before ++ entry ∷ []
front_one before after entry is own =
    let by : (entry.caller == 0) ≡ true = grind (arith, nat_tests, own) in
    ap front_entries is ∙ filter-append (λ e. e.caller == 0) before (entry ∷ []) ∙
    ap (λ b. front_entries before ++ (if b then entry ∷ [] else [])) by

pub same_last : (first : List Entry) (a b : Entry) → first ++ a ∷ [] ≡ first ++ b ∷ [] → a ≡ b
same_last first a b same = ap (λ entries. get_or entries 0 a) (append_cancel_left first (a ∷ []) (b ∷ []) same)

-- what came with an entry, and what was turned away
pub with_entry : (took : Took) (given : Reply) → took ≡ took_of given → adds_entry took ≡ true → has_entry given ≡ true
with_entry took (reply.Taken text) is adds = refl
with_entry took reply.SinkFault is adds = refl
with_entry took (reply.Refused text) is adds = sym (ap adds_entry is) ∙ adds
with_entry took reply.Closed is adds = sym (ap adds_entry is) ∙ adds
with_entry took reply.NoMemory is adds = sym (ap adds_entry is) ∙ adds

-- the entry of a line that was taken, or whose entry was not sent
entry_by : (serves : List Entry → ℕ → Ask → Reply → List Entry → Type 0) (line : List ℕ) (old new : List Entry) (took : Took) (entry : Entry) →
    ReadsLines serves → adds_entry took ≡ true → front_entries new ≡ front_entries old ++ entry ∷ [] → IsTakenBy serves line old took new →
    IsEntry old new line entry.sent
entry_by serves line old new took entry reads adds added (before, after, given, served, begins, ends, same, becomes, is) =
    let line_is = reads.entry line before given after served (with_entry took given is adds) in
    let both : front_entries old ++ entry ∷ [] ≡ front_entries old ++ line_is.entry ∷ [] =
    sym added ∙ sym becomes ∙ front_one before after line_is.entry line_is.added line_is.own ∙ ap (λ front. front ++ line_is.entry ∷ []) same in
    record {
      entry = entry;
      added = added;
      asks = ap (λ e. e.command) (same_last (front_entries old) entry line_is.entry both) ∙ line_is.asks;
      sent_is = refl;
    }

pub enters_by : (serves : List Entry → ℕ → Ask → Reply → List Entry → Type 0) (line : List ℕ) (old new : List Entry) (took : Took) →
    ReadsLines serves → HasTaken (front_entries old) took (front_entries new) → IsTakenBy serves line old took new →
    Enters old new line (ended_by took)
enters_by serves line old new took.Taken reads (entry, added, sent) taken =
    subst (IsEntry old new line) sent (entry_by serves line old new took.Taken entry reads refl added taken)
enters_by serves line old new took.Fault reads (entry, added, unsent) taken =
    let over : is_over (front_entries new) ≡ true = ap is_over added ∙ over_last (front_entries old) entry unsent in
    (over_front new over, inl (subst (IsEntry old new line) unsent (entry_by serves line old new took.Fault entry reads refl added taken)))
enters_by serves line old new took.Closed reads same (before, after, given, served, begins, ends, front, fronts, is) =
    let closed = reads.closed line before given after served (sym is) in
    (over_begins after new ends (ap is_over closed.0 ∙ closed.1), inr same)
enters_by serves line old new took.NoMemory reads same taken = same

-- who does the same reads lines too
pub reads_on : (serves others : List Entry → ℕ → Ask → Reply → List Entry → Type 0) →
    ((before : List Entry) (caller : ℕ) (ask : Ask) (given : Reply) (after : List Entry) → others before caller ask given after →
    serves before caller ask given after) → ReadsLines serves → ReadsLines others
reads_on serves others on reads = record {
  entry = λ line before given after served made. reads.entry line before given after (on before 0 (FrontLine line) given after served) made;
  closed = λ line before given after served is. reads.closed line before given after (on before 0 (FrontLine line) given after served) is;
}

-- what fails to enter a line is not the source
pub no_fault : (old new : List Entry) (line : List ℕ) (ending : Ending) → FailsBy old new line ending → IsNoSourceFault (Err ending)
no_fault old new line SinkFault fails = tt
no_fault old new line NoMemory fails = tt
no_fault old new line SourceFault fails = absurd fails
no_fault old new line TooMany fails = tt
no_fault old new line TooLong fails = tt
