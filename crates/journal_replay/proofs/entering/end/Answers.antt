use Rattle.std.proofs.Common.{◌≡◌, refl, inl}
use Rattle.xi_plain.specs.declared.command.Id.TheVariants.{NoId}
use Rattle.core_session.specs.Core.{journal_of, terms_of}
use Rattle.core_session.specs.GrownLaws.{IsGrown-same}
use Rattle.journal_replay.specs.Inner.{point_at}
use Rattle.journal_replay.proofs.EnterLemmas.{entered_by}
use Rattle.xi_plain.specs.declared.ask.Ask.TheVariants.{PluginEnd}
use Rattle.core_session.specs.Kept.{ending}
use Rattle.journal_replay.proofs.FollowLemmas.{ending_command, follows_plugin}
use Rattle.journal_replay.proofs.entering.end.Goals as goal

pub returns-then-not-has_no_id-clause-grown : goal.returns-then-not-has_no_id-clause-grown
returns-then-not-has_no_id-clause-grown g c = IsGrown-same _

pub returns-clause-entered : goal.returns-clause-entered
returns-clause-entered g c = λ lines.
    let terms = terms_of c.args.core.now in
    let before = journal_of c.args.core.now in
    let after = journal_of c.plugin_end-reply.new.self in
    let entry = c.args.entry.now in
    let none : entry.command.id ≡ NoId = c.has_no_id.ensures.0 c.if-not-has_no_id.false in
    let asks : entry.command ≡ ending = ending_command entry.command none c.requires.ends in
    entered_by terms.plugins (point_at terms before lines) entry terms before PluginEnd after asks
    (λ taken. follows_plugin terms.plugins terms before lines entry c.requires.note c.requires.caller.0 c.requires.caller.1 (inl asks))
    (λ follows. refl) c.settle.result c.plugin_end-reply.result c.plugin_end-reply.ensures.serves c.settle.ensures
