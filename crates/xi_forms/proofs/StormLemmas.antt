-- What a storm comes to, by what its run came to.
use Rattle.std.proofs.Common.{◌≡◌, ℕ, suc, inl, inr, List, [], ◌∷◌, Option, Some, Ok, Err, ap, sym, ◌∙◌, subst, arith}
use Rattle.std.proofs.lemmas.List.Elements.{filter-append}
use Rattle.std.specs.Prelude.{◌==◌, ◌⊎◌}
use Rattle.xi_plain.specs.declared.entry.Entry.{Entry}
use Rattle.xi_plain.specs.Journal.{IsLegal, closing_entry, front_entries}
use Rattle.plain_text.specs.InputLines.{lines_of}
use Rattle.outside.specs.Sink.{Gains, SinkState}
use Rattle.session_step.specs.declared.terms.Terms.{Terms}
use Rattle.session_step.specs.Accepted.{AreAccepted}
use Rattle.core_session.specs.Shows.{Shows}
use Rattle.storm_lines.specs.declared.summary.Summary.{Summary}
use Rattle.storm_lines.specs.Lines.{storm_bytes}
use Rattle.storm_lines.proofs.ForCallers.{inputs_come_apart}
use Rattle.xi_top.specs.declared.ending.Ending.TheVariants.{NoMemory, SourceFault, SinkFault, TooMany, TooLong}
use Rattle.xi_top.specs.Alone.{terms_for}
use Rattle.xi_top.specs.Ending.{Outcome}
use Rattle.xi_top.specs.Run.{IsRun, Passage, RunsAlone}
use Rattle.xi_top.proofs.ForCallers.{told_input}
use Rattle.xi_forms.specs.InnerStorm.{IsRead, TellsAs, TellsRun}
use Rattle.xi_forms.specs.Storm.{EndsStorm, HoldsAll, HoldsFirst, IsSummary}
use Rattle.xi_forms.specs.Summary.{IsSummaryOf}

-- the passage is that of a storm: its source has the lines, and its sink is empty
pub record IsStormy (count seed : ℕ) (passage : Passage) : Type 0 where
  pub input : passage.before.source.left ≡ Some (storm_bytes count seed)
  pub empty : passage.before.sink.held ≡ Some []

holds_first : (plugins count seed : ℕ) (passage : Passage) (journal : List Entry) (outcome : Outcome) → IsStormy count seed passage →
    IsRun plugins passage journal outcome → HoldsFirst count seed journal
holds_first plugins count seed passage journal outcome stormy run =
    let input = told_input _ _ (storm_bytes count seed) run.taken run.left stormy.input run.gives run.leaves in
    record {
      entries = front_entries run.entries;
      front = ap front_entries run.closed ∙ filter-append (λ entry. entry.caller == 0) run.entries (closing_entry ∷ []);
      lines = run.lines.lines;
      later = run.lines.later;
      first = sym (inputs_come_apart count seed).lines ∙ ap lines_of input ∙ run.lines.first;
      asked = run.lines.asked;
    }

-- what a sink that held nothing gained is what it holds
gained : (before after : Option (List ℕ)) (bytes held : List ℕ) → before ≡ Some [] → after ≡ Some held → Gains before after bytes → held ≡ bytes
gained before after bytes held empty holds gains = subst (λ a. Gains (Some []) a bytes) holds (subst (λ b. Gains b after bytes) empty gains)

no_status : {A : Type 0} {n : ℕ} → 0 ≡ suc n → A
no_status {A} {n} is = absurd (omega (arith, is))

-- all its lines, and the summary of them, where it ended well
record EndedWell (count seed plugins : ℕ) (journal : List Entry) (summary : Summary) : Type 0 where
  holds : HoldsAll count seed journal
  is : IsSummary (terms_for plugins) journal summary

ended_well : (plugins count seed : ℕ) (passage : Passage) (journal : List Entry) (ran : ℕ) (terms : Terms) (summary : Summary) →
    IsStormy count seed passage → RunsAlone plugins passage journal ran → terms ≡ terms_for plugins →
    IsRead terms journal passage.after.sink.held ran summary → EndedWell count seed plugins journal summary
unfolding holds_first
ended_well plugins count seed passage journal ran terms summary stormy (inl (Ok done, is, run)) made read = record {
  holds = record { some = holds_first plugins count seed passage journal (Ok done) stormy run; all = run.lines.so_many.1 };
  is = record {
    bytes = read.bytes;
    shows =
        subst (λ bytes. ∥ Shows (terms_for plugins) journal bytes ∥₁)
        (sym (gained passage.before.sink.held passage.after.sink.held run.written.bytes read.bytes stormy.empty read.holds run.written.gains))
        run.written.shows;
    numbers = subst (λ t. ∥ IsSummaryOf t journal read.bytes summary ∥₁) made read.numbers;
  };
}
ended_well plugins count seed passage journal ran terms summary stormy (inl (Err NoMemory, is, run)) made read = no_status (sym read.ran_well ∙ is)
ended_well plugins count seed passage journal ran terms summary stormy (inl (Err SourceFault, is, run)) made read = no_status (sym read.ran_well ∙ is)
ended_well plugins count seed passage journal ran terms summary stormy (inl (Err SinkFault, is, run)) made read = no_status (sym read.ran_well ∙ is)
ended_well plugins count seed passage journal ran terms summary stormy (inl (Err TooMany, is, run)) made read = no_status (sym read.ran_well ∙ is)
ended_well plugins count seed passage journal ran terms summary stormy (inl (Err TooLong, is, run)) made read = no_status (sym read.ran_well ∙ is)
ended_well plugins count seed passage journal ran terms summary stormy (inr (is, none)) made read = no_status (sym read.ran_well ∙ is)

some_lines : (plugins count seed : ℕ) (passage : Passage) (journal : List Entry) (ran : ℕ) → IsStormy count seed passage →
    RunsAlone plugins passage journal ran → (journal ≡ []) ⊎ HoldsFirst count seed journal
some_lines plugins count seed passage journal ran stormy (inl (outcome, is, run)) =
    inr (holds_first plugins count seed passage journal outcome stormy run)
some_lines plugins count seed passage journal ran stormy (inr (is, none)) = inl none.empty

-- a journal without entries has none that was not accepted
pub nothing_accepted : (plugins : ℕ) (journal : List Entry) → journal ≡ [] → ∥ AreAccepted (terms_for plugins) journal ∥₁
nothing_accepted plugins journal empty = subst (λ j. ∥ AreAccepted (terms_for plugins) j ∥₁) (sym empty) ∣ tt ∣₁

pub storm_legal : (plugins : ℕ) (passage : Passage) (journal : List Entry) (ran : ℕ) → RunsAlone plugins passage journal ran →
    (journal ≡ []) ⊎ IsLegal plugins journal
storm_legal plugins passage journal ran (inl (outcome, is, run)) = inr run.legal
storm_legal plugins passage journal ran (inr (is, none)) = inl none.empty

pub storm_accepted : (plugins : ℕ) (passage : Passage) (journal : List Entry) (ran : ℕ) → RunsAlone plugins passage journal ran →
    ∥ AreAccepted (terms_for plugins) journal ∥₁
storm_accepted plugins passage journal ran (inl (outcome, is, run)) = run.accepted
storm_accepted plugins passage journal ran (inr (is, none)) = nothing_accepted plugins journal none.empty

pub ends_storm : (plugins count seed : ℕ) (passage : Passage) (journal : List Entry) (ran status : ℕ) (terms : Terms) (before after : SinkState) →
    IsStormy count seed passage → RunsAlone plugins passage journal ran → terms ≡ terms_for plugins →
    TellsRun terms journal passage.after.sink.held ran before after status → EndsStorm count seed plugins before after journal status
ends_storm plugins count seed passage journal ran status terms before after stormy runs made (inl (summary, read, inl (is, told))) =
    let well = ended_well plugins count seed passage journal ran terms summary stormy runs made read in
    inl (is, record { holds = well.holds; summary = summary; is = well.is; told = told })
ends_storm plugins count seed passage journal ran status terms before after stormy runs made (inl (summary, read, inr (inl (is, cut)))) =
    let well = ended_well plugins count seed passage journal ran terms summary stormy runs made read in
    inr (inl (is, record { holds = well.holds; summary = summary; is = well.is; cut = cut }))
ends_storm plugins count seed passage journal ran status terms before after stormy runs made (inl (summary, read, inr (inr (is, same)))) =
    inr (inr (is, some_lines plugins count seed passage journal ran stormy runs, same))
ends_storm plugins count seed passage journal ran status terms before after stormy runs made (inr (is, same)) =
    inr (inr (is, some_lines plugins count seed passage journal ran stormy runs, same))

-- ---- what was told of a run

pub tells_run : (terms : Terms) (journal : List Entry) (held : Option (List ℕ)) (ran : ℕ) (summary : Summary) (before after : SinkState) (status : ℕ) →
    ran ≡ 0 → (bytes : List ℕ) × (held ≡ Some bytes) × ∥ IsSummaryOf terms journal bytes summary ∥₁ → TellsAs summary before after status →
    TellsRun terms journal held ran before after status
tells_run terms journal held ran summary before after status well (bytes, holds, numbers) tells =
    inl (summary, record { ran_well = well; bytes = bytes; holds = holds; numbers = numbers }, tells)

pub storm_ends : (plugins count seed : ℕ) (passage : Passage) (journal last : List Entry) (ran status : ℕ) (terms : Terms) (before after : SinkState) →
    RunsAlone plugins passage journal ran → passage.before.source.left ≡ Some (storm_bytes count seed) → passage.before.sink.held ≡ Some [] →
    terms ≡ terms_for plugins → TellsRun terms journal passage.after.sink.held ran before after status → last ≡ journal →
    EndsStorm count seed plugins before after last status
storm_ends plugins count seed passage journal last ran status terms before after runs input empty made tells same =
    subst (λ j. EndsStorm count seed plugins before after j status) (sym same)
    (ends_storm plugins count seed passage journal ran status terms before after (record { input = input; empty = empty }) runs made tells)
