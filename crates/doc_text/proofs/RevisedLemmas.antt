-- What a revision makes of a text in memory is what it makes of the plain one.
use Rattle.std.proofs.Common.{◌≡◌, ℕ, Option, None, refl, ap, ap₂, sym, ◌∙◌, subst, arith}
use Rattle.std.specs.Arc.{arc_value}
use Rattle.plain_edits.specs.History.{History, head}
use Rattle.rev_engine.specs.declared.edit.Edit.{Edit}
use Rattle.rev_engine.specs.Engine.{IsChange, StandsFor, asked_by}
use Rattle.rev_engine.specs.Given.{AskedEdit}
use Rattle.undo_groups.specs.Groups.{Groups}
use Rattle.edit_groups.specs.declared.typing.Kind.{Kind}
use Rattle.edit_groups.specs.declared.typing.Typing.{Typing}
use Rattle.edit_groups.specs.Grouping.{group_by, groups_by, known_group, named_group, run_group}
use Rattle.edit_groups.specs.Typing.{run_on}
use Rattle.doc_text.specs.declared.engine_step.EngineStep.{EngineStep}
use Rattle.doc_text.specs.declared.revised.Revised.{Revised}
use Rattle.doc_text.specs.Agree.{Agree}
use Rattle.doc_text.specs.Asking.{plugin_edit}
use Rattle.doc_text.specs.InMemory.{TextState}
use Rattle.doc_text.specs.Inner.{IsAfter, IsAfterEdit, IsStepFrom, left_text}
use Rattle.doc_text.specs.Notices.{notice_to}
use Rattle.doc_text.specs.Revised.{IsRevised}
use Rattle.doc_text.specs.Revisions.{going_on, saved_text}
use Rattle.doc_text.specs.Stands.{IsTextOf, TextStandsFor}
use Rattle.doc_text.specs.Writing.{Writing}
use Rattle.doc_text.proofs.AgreeLemmas.{Agree-ended, Agree-still}
use Rattle.doc_text.proofs.GroupLemmas.{known_group-named}
use Rattle.doc_text.proofs.HeadLemmas.{head-text}
use Rattle.doc_text.proofs.SessionLemmas.{AreAcknowledged-later}

-- ---- a step of the engine, and what it leaves beside

-- the text in memory after it
abbrev pub later_text : TextState → EngineStep → Groups → Option Typing → TextState
later_text text step groups typing = record text { engine = arc_value step.engine; groups = groups; typing = typing }

pub IsTextOf-later : (text : TextState) (plain : Writing) (history : History) (step : EngineStep) (groups : Groups) (typing : Option Typing) →
    TextStandsFor text plain → IsAfter plain.history history step → Agree history.revisions history.collected groups typing → IsStepFrom text.engine step →
    IsTextOf (later_text text step groups typing) (left_text plain history groups typing)
IsTextOf-later text plain history step groups typing stands is agree from =
    let was = stands.parts in record {
      state = record {
        stands = is.stands;
        within = is.within;
        bound = omega (arith, was.state.bound, from.limit);
      };
      limit = from.limit ∙ was.limit;
      sessions = was.sessions;
      acknowledged = AreAcknowledged-later plain.history history plain.sessions is.same_floor (omega (arith, is.one_more)) was.acknowledged;
      groups = refl;
      typing = refl;
      agree = agree;
      saved = was.saved;
      saved_before = omega (arith, was.saved_before, is.one_more);
    }

pub IsRevised-later : (text : TextState) (plain : Writing) (history : History) (step : EngineStep) (groups : Groups) (typing : Option Typing) (author : ℕ)
    (made : Revised) → TextStandsFor text plain → IsAfter plain.history history step → Agree history.revisions history.collected groups typing →
    IsStepFrom text.engine step → made.text ≡ later_text text step groups typing → made.units ≡ step.change.units →
    made.notice ≡ notice_to plain history author → IsRevised plain (left_text plain history groups typing) author made
IsRevised-later text plain history step groups typing author made stands is agree from text_is units_is notice_is =
    let At : TextState → Type 0 = λ t. IsTextOf t (left_text plain history groups typing) in record {
      stands = subst At (sym text_is) (IsTextOf-later text plain history step groups typing stands is agree from);
      changes =
          subst (λ units. IsChange plain.history history (record { rev = head history; units = units })) (sym units_is)
          (subst (λ rev. IsChange plain.history history (record { rev = rev; units = step.change.units })) is.changes.rev is.changes);
      text_before = is.text_before;
      notice = notice_is;
    }

-- ---- no revision

-- the text in memory with its run, where that goes on
abbrev pub run_text : TextState → Option Kind → TextState
run_text text kind = record text { typing = run_on text.typing kind }

pub TextStandsFor-run : (text : TextState) (plain : Writing) (kind : Option Kind) → TextStandsFor text plain →
    TextStandsFor (run_text text kind) (going_on plain kind)
TextStandsFor-run text plain kind stands =
    let was = stands.parts in record {
      parts = record {
        state = was.state;
        limit = was.limit;
        sessions = was.sessions;
        acknowledged = was.acknowledged;
        groups = was.groups;
        typing = ap (λ typing. run_on typing kind) was.typing;
        agree = Agree-still plain.history.revisions plain.history.collected plain.groups plain.typing was.agree kind;
        saved = was.saved;
        saved_before = was.saved_before;
      };
      none_left = stands.none_left;
    }

-- the text in memory once it was saved, and its run ended
abbrev pub marked_text : TextState → TextState
marked_text text = record text { typing = None; saved = head text.engine.revisions }

pub TextStandsFor-saved : (text : TextState) (plain : Writing) → TextStandsFor text plain → TextStandsFor (marked_text text) (saved_text plain)
TextStandsFor-saved text plain stands =
    let was = stands.parts in record {
      parts = record {
        state = was.state;
        limit = was.limit;
        sessions = was.sessions;
        acknowledged = was.acknowledged;
        groups = was.groups;
        typing = refl;
        agree = Agree-ended plain.history.revisions plain.history.collected plain.groups plain.typing was.agree;
        saved = head-text text plain was;
        saved_before = omega arith;
      };
      none_left = stands.none_left;
    }

-- ---- the front end's edit

-- the group of it, and the groups with it
pub joined-front : (text : TextState) (plain : Writing) (kind : Option Kind) → IsTextOf text plain →
    run_group (run_on text.typing kind) ≡ run_group (run_on plain.typing kind)
joined-front text plain kind stands = ap (λ typing. run_group (run_on typing kind)) stands.typing

pub group-front : (text : TextState) (plain : Writing) (kind : Option Kind) → IsTextOf text plain →
    group_by text.groups (run_group (run_on text.typing kind)) ≡ group_by plain.groups (run_group (run_on plain.typing kind))
group-front text plain kind stands = ap₂ group_by stands.groups (joined-front text plain kind stands)

pub groups-front : (text : TextState) (plain : Writing) (kind : Option Kind) → IsTextOf text plain →
    groups_by text.groups (run_group (run_on text.typing kind)) ≡ groups_by plain.groups (run_group (run_on plain.typing kind))
groups-front text plain kind stands = ap₂ groups_by stands.groups (joined-front text plain kind stands)

-- ---- the edit of a plugin

pub joined-named : (text : TextState) (plain : Writing) (named : Option ℕ) → IsTextOf text plain →
    known_group text.groups named ≡ named_group plain.history named
joined-named text plain named stands =
    ap (λ groups. known_group groups named) stands.groups ∙
    known_group-named plain.history plain.groups plain.typing named stands.agree

pub group-named : (text : TextState) (plain : Writing) (named : Option ℕ) → IsTextOf text plain →
    group_by text.groups (known_group text.groups named) ≡ group_by plain.groups (named_group plain.history named)
group-named text plain named stands = ap₂ group_by stands.groups (joined-named text plain named stands)

pub groups-named : (text : TextState) (plain : Writing) (named : Option ℕ) → IsTextOf text plain →
    groups_by text.groups (known_group text.groups named) ≡ groups_by plain.groups (named_group plain.history named)
groups-named text plain named stands = ap₂ groups_by stands.groups (joined-named text plain named stands)

-- the edit of a plugin, as the text takes it
pub asked-given : (plain : Writing) (caller group : ℕ) (joined : Option ℕ) (edit given : Edit) → given ≡ record edit { author = caller; group = group } →
    group ≡ group_by plain.groups joined → asked_by given ≡ plugin_edit plain caller edit joined
asked-given plain caller group joined edit given is group_is =
    ap asked_by is ∙
    ap (λ n. record { base = edit.rev; delta = edit.delta; group = n; priority = edit.priority; author = caller }) group_is

pub IsAfter-plain : (text : TextState) (plain : Writing) (asked other : AskedEdit) (step : EngineStep) → IsTextOf text plain → other ≡ asked →
    ((h : History) → StandsFor text.engine h → IsAfterEdit h other step) → IsAfterEdit plain.history asked step
IsAfter-plain text plain asked other step stands same each =
    let At : AskedEdit → Type 0 = λ a. IsAfterEdit plain.history a step in
    subst At same (each plain.history stands.state.stands)
