-- Lemmas on a line of a plugin, and on its entry.
use Rattle.std.proofs.Common.{◌≡◌, ℕ, ◌≤◌, arith, Bool, true, false, List, [], ◌∷◌, ◌++◌, length, None, refl, ap, sym, ◌∙◌, subst}
use Rattle.std.specs.Prelude.{◌==◌, if◌then◌else◌, unwrap_or}
use Rattle.std.specs.Arc.{arc_value}
use Rattle.std.specs.Coded.{le_prop}
use Rattle.std.specs.List.{AllByRecursion, AllByRecursion-prop, list_any}
use Rattle.std.specs.Str.{encode_utf8_all}
use Rattle.std.proofs.lemmas.Bool.Decides.{nat_tests}
use Rattle.serde_json.specs.Data.{Data}
use Rattle.plain_edits.specs.declared.style.Style.{Style}
use Rattle.plugin_wire.specs.Told.{Told}
use Rattle.xi_plain.specs.declared.command.Act.{Act}
use Rattle.xi_plain.specs.declared.command.Act.TheVariants as act
use Rattle.xi_plain.specs.declared.command.Command.{Command}
use Rattle.xi_plain.specs.declared.config.Config.{Config}
use Rattle.xi_plain.specs.declared.entry.Entry.{Entry}
use Rattle.xi_plain.specs.declared.entry.ShelfNote.TheVariants.{NoCall}
use Rattle.xi_plain.specs.declared.reply.Reply.TheVariants.{Taken}
use Rattle.entry_lines.specs.Notices.{AreNoticeTexts}
use Rattle.entry_lines.specs.Piece.{AreLinesOf, UpdatesReadBack}
use Rattle.entry_lines.proofs.ForCallers.{all_append}
use Rattle.session_step.specs.Accepted.{Accepts, AcceptsBy, is_of_plugin}
use Rattle.session_step.specs.News.{news_by, news_of}
use Rattle.session_step.specs.PluginStep.{plugin_messages, plugin_outcome, plugin_refusal, styles_after}
use Rattle.session_step.specs.Session.{OpenView, Session, ended_after, ended_with, is_front, messages_by, plugin_act_step, step, step_by}
use Rattle.session_step.specs.Views.{AreOfPlugins, AreThere, HasSession, HaveSessions, Stands}
use Rattle.session_step.specs.declared.opened.Opened.{Opened}
use Rattle.session_step.specs.PluginEffects.{HasPlace, views_with}
use Rattle.core_session.specs.PluginMade.{IsPluginMade, IsPluginPrepared}
use Rattle.core_session.specs.declared.plugin_made.PluginMade.TheVariants as made_of
use Rattle.core_session.specs.declared.plugin_made.PluginPrepared.{PluginPrepared}
use Rattle.session_step.specs.declared.next.NextViews.{NextViews}
use Rattle.session_step.specs.declared.next.NextViews.TheVariants.{All, One, Same}
use Rattle.core_session.proofs.AskLemmas.{closes_of-plugin, note_of-plugin}
use Rattle.core_session.specs.InnerSession.{IsPrepared, updates_by}
use Rattle.core_session.specs.Kept.{IsOpen, StandsForSession, plugin_entry}
use Rattle.core_session.specs.Shelves.{asks_as}

-- ---- an entry of a plugin is none of the front end's

front_not : (caller : ℕ) → 1 ≤ caller → (caller == 0) ≡ false
front_not caller some = grind (arith, nat_tests)

module _ (session : Session) (caller : ℕ) (command : Command) (sent : Bool) (some : 1 ≤ caller) where
  pub step-plugin : step session (plugin_entry caller command sent) ≡ plugin_act_step session caller command.act
  step-plugin = ap (λ front. step_by front session (plugin_entry caller command sent)) (front_not caller some)

  messages-plugin : messages_by (is_front (plugin_entry caller command sent)) session (plugin_entry caller command sent) ≡
      plugin_messages command.id (plugin_outcome session.views session.styles caller command.act)
  messages-plugin = ap (λ front. messages_by front session (plugin_entry caller command sent)) (front_not caller some)

  updates-plugin : updates_by (is_front (plugin_entry caller command sent)) session (plugin_entry caller command sent) ≡
      (plugin_outcome session.views session.styles caller command.act).updates
  updates-plugin = ap (λ front. updates_by front session (plugin_entry caller command sent)) (front_not caller some)

  news-plugin : news_of session (plugin_entry caller command sent) ≡ (plugin_outcome session.views session.styles caller command.act).news
  news-plugin = ap (λ front. news_by front session (plugin_entry caller command sent)) (front_not caller some)

  accepts-plugin : is_of_plugin command.act ≡ true → plugin_refusal session.views session.styles caller command.act ≡ None →
      Accepts session (plugin_entry caller command sent)
  accepts-plugin asks taken =
      subst (λ front. AcceptsBy front session (plugin_entry caller command sent)) (sym (front_not caller some)) (record { asks = asks; taken = taken })

-- the entry of what a plugin may ask is open, and saves nothing
pub IsOpen-plugin : (plugins caller : ℕ) (command : Command) → caller ≤ plugins → is_of_plugin command.act ≡ true →
    IsOpen plugins (plugin_entry caller command true)
IsOpen-plugin plugins caller command most asks = record {
  caller = grind (arith, nat_tests);
  asks = closes_of-plugin command.act asks;
  note = note_of-plugin command.act asks;
  sent = refl;
}

pub asks_none : (views : List OpenView) (asked : Act) → is_of_plugin asked ≡ true → asks_as views asked NoCall ≡ true
asks_none views (act.Save name path) asks = absurd cc
asks_none views asked asks = refl

-- ---- what is in memory after it

AreOfPlugins-with : (plugins caller : ℕ) (ended : List ℕ) → 1 ≤ caller → caller ≤ plugins → AreOfPlugins plugins ended →
    AreOfPlugins plugins (ended_with ended caller)
AreOfPlugins-with plugins caller ended some most are = by (list_any (λ other. other == caller) ended)
  where
    by : (there : Bool) → AreOfPlugins plugins (if there then ended else ended ++ caller ∷ [])
    by true = are
    by false = all_append (λ one. (1 ≤ one) × (one ≤ plugins)) ended (caller ∷ []) are ((some, most), tt)

AreOfPlugins-after : (plugins caller : ℕ) (ended : List ℕ) (asked : Act) → 1 ≤ caller → caller ≤ plugins → AreOfPlugins plugins ended →
    AreOfPlugins plugins (ended_after ended caller asked)
AreOfPlugins-after plugins caller ended act.Ended some most are = AreOfPlugins-with plugins caller ended some most are
AreOfPlugins-after plugins caller ended asked some most are = are

stands-plugin : (held : List Opened) (table : List Style) (ended : List ℕ) (opened : ℕ) (config : Config) (session : Session) (caller : ℕ)
    (given : PluginPrepared) → 1 ≤ caller → caller ≤ session.terms.plugins → StandsForSession held table ended opened config session →
    IsPluginPrepared held table ended caller given.command (plugin_outcome session.views session.styles caller given.command.act) given →
    StandsForSession (views_with held given.next) (unwrap_or given.grown table) (unwrap_or given.gone ended) opened config
    (plugin_act_step session caller given.command.act)
stands-plugin held table ended opened config session caller given some most stands prepared = record {
  views = prepared.stands;
  styles = prepared.table ∙ ap (λ before. styles_after before given.command.act) stands.styles;
  ended = prepared.gone ∙ ap (λ before. ended_after before caller given.command.act) stands.ended;
  plugins = AreOfPlugins-after session.terms.plugins caller session.ended given.command.act some most stands.plugins;
  opened = stands.opened;
  config = stands.config;
  tab = stands.tab;
}

-- what a command of a plugin comes to is what its entry does
pub IsPrepared-plugin : (held : List Opened) (table : List Style) (ended : List ℕ) (opened : ℕ) (config : Config) (session : Session) (caller : ℕ)
    (given : PluginPrepared) (entry : Entry) → entry ≡ plugin_entry caller given.command true → 1 ≤ caller → caller ≤ session.terms.plugins →
    StandsForSession held table ended opened config session → is_of_plugin given.command.act ≡ true →
    plugin_refusal session.views session.styles caller given.command.act ≡ None →
    IsPluginPrepared held table ended caller given.command (plugin_outcome session.views session.styles caller given.command.act) given →
    IsPrepared held table ended session (record {
      entry = entry;
      piece = given.piece;
      told = given.told;
      next = given.next;
      grown = given.grown;
      gone = given.gone;
      opened = opened;
      config = config;
    })
IsPrepared-plugin held table ended opened config session caller given entry is some most stands asks taken prepared =
    let command = given.command in
    let Lines : List Data → Type 0 = λ messages. AreLinesOf messages (encode_utf8_all given.piece) in
    let Tells : List Told → Type 0 = λ news. AreNoticeTexts news given.told in
    let After : Session → Type 0 =
    λ after. StandsForSession (views_with held given.next) (unwrap_or given.grown table) (unwrap_or given.gone ended) opened config after in
    let At : Entry → Type 0 = λ entry. IsPrepared held table ended session (record {
      entry = entry;
      piece = given.piece;
      told = given.told;
      next = given.next;
      grown = given.grown;
      gone = given.gone;
      opened = opened;
      config = config;
    }) in
    subst At (sym is)
    (record {
      accepted = accepts-plugin session caller command true some asks taken;
      lines = subst Lines (sym (messages-plugin session caller command true some)) prepared.lines;
      reads_back = subst UpdatesReadBack (sym (updates-plugin session caller command true some)) prepared.reads_back;
      told = subst Tells (sym (news-plugin session caller command true some)) prepared.told;
      stands =
          subst After (sym (step-plugin session caller command true some))
          (stands-plugin held table ended opened config session caller given some most stands prepared);
    })

-- ---- what the call needs

-- the plugin has a session in each document
pub HaveSessions-stands : (plugins caller : ℕ) (held : List Opened) (views : List OpenView) → Stands held views →
    AllByRecursion (λ (view : OpenView). length view.document.text.sessions ≡ plugins) views → 1 ≤ caller → caller ≤ plugins → HaveSessions caller held
HaveSessions-stands plugins caller [] views stands many some most = tt
HaveSessions-stands plugins caller (kept ∷ held) [] stands many some most = absurd stands
HaveSessions-stands plugins caller (kept ∷ held) (view ∷ views) stands many some most =
    ((some, omega (arith, most, many.0, ap length stands.0.stands.text.parts.sessions)), HaveSessions-stands plugins caller held views stands.1 many.1 some most)

pub HaveSessions-prop : (caller : ℕ) (held : List Opened) → IsProp (HaveSessions caller held)
HaveSessions-prop caller held = AllByRecursion-prop (λ (kept : Opened). HasSession caller (arc_value kept.doc)) (λ kept. hlevel le_prop) held

pub HasPlace-prop : (held : List Opened) (next : NextViews) → IsProp (HasPlace held next)
HasPlace-prop held Same = hlevel le_prop
HasPlace-prop held (One at opened) = le_prop
HasPlace-prop held (All next) = hlevel le_prop

-- ---- what comes of a command of a plugin

-- what was made of it, by its own command and the styles of the session
pub taken_of : (held : List Opened) (table : List Style) (ended : List ℕ) (session : Session) (caller : ℕ) (command : Command) (made : PluginPrepared) →
    table ≡ session.styles → IsPluginMade held session.views table ended caller command (made_of.Taken made) →
    (plugin_refusal session.views session.styles caller made.command.act ≡ None) ×
    IsPluginPrepared held table ended caller made.command (plugin_outcome session.views session.styles caller made.command.act) made
taken_of held table ended session caller command made same is =
    let Of : Command → List Style → Type 0 =
    λ command styles. (plugin_refusal session.views styles caller command.act ≡ None) ×
    IsPluginPrepared held table ended caller command (plugin_outcome session.views styles caller command.act) made in
    subst (λ (own : Command). Of own session.styles) (sym is.1.command_is) (subst (Of command) same is)

-- the same, where what was handed in is what is in memory
pub taken_from : (views here : List Opened) (table : List Style) (ended gone : List ℕ) (session : Session) (caller : ℕ) (command : Command)
    (made : PluginPrepared) → here ≡ views → gone ≡ ended → table ≡ session.styles → AreThere views session.views →
    (AreThere here session.views → IsPluginMade here session.views table gone caller command (made_of.Taken made)) →
    (plugin_refusal session.views session.styles caller made.command.act ≡ None) ×
    IsPluginPrepared views table ended caller made.command (plugin_outcome session.views session.styles caller made.command.act) made
taken_from views here table ended gone session caller command made here_is gone_is same there gave =
    let Here : List Opened → Type 0 = λ held. IsPluginMade held session.views table ended caller command (made_of.Taken made) in
    let Gone : List ℕ → Type 0 = λ over. IsPluginMade here session.views table over caller command (made_of.Taken made) in
    let There : List Opened → Type 0 = λ held. AreThere held session.views in
    taken_of views table ended session caller command made same (subst Here here_is (subst Gone gone_is (gave (subst There (sym here_is) there))))
