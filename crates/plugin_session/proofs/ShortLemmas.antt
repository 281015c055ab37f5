-- A session that lacked memory.
use Rattle.std.proofs.Common.{◌≡◌, ℕ, ◌+◌, List, [], length, take, inl, inr, refl, sym, subst, arith}
use Rattle.std.proofs.lemmas.List.{take_all}
use Rattle.xi_plain.specs.declared.entry.Entry.{Entry}
use Rattle.xi_plain.specs.declared.ask.Ask.{Ask}
use Rattle.xi_plain.specs.declared.ask.Ask.TheVariants.{PluginEnd}
use Rattle.xi_plain.specs.declared.ask.Query.{Query}
use Rattle.xi_plain.specs.declared.ask.Query.TheVariants as query
use Rattle.xi_plain.specs.declared.reply.Reply.{Reply}
use Rattle.xi_plain.specs.declared.reply.Reply.TheVariants.{Closed}
use Rattle.xi_plain.specs.declared.reply.Answer.{Answer}
use Rattle.plugin_session.specs.declared.after.After.{After}
use Rattle.plugin_session.specs.declared.after.After.TheVariants as after
use Rattle.plugin_session.specs.Short.{ShortIsNotWhole, last_answer}

not_over : ◌≡◌ {A = After} after.NoMemory after.Over → ⊥
not_over is = cc

module _ (serves : List Entry → ℕ → Ask → Reply → List Entry → Type 0) (answers : List Entry → ℕ → Query → Answer → Type 0) where
  pub short_is_not_whole : ShortIsNotWhole serves answers
  short_is_not_whole caller journal start line starts none looked closed =
      let len = length journal in
      let all : take len journal ≡ journal = take_all len journal (omega arith) in
      let more : take (len + 0) journal ≡ journal = take_all (len + 0) journal (omega arith) in (
        record {
          each = (
            (refl, (len, last_answer len line, _, refl, inr (refl, (len, Closed, refl, refl)))),
            ((refl, inl (start, starts, ([], _, refl, (refl, refl)))), tt),
          );
          stand = (
            omega arith,
            subst (λ x. answers x caller (query.Notices 0) (last_answer len line)) (sym all) looked,
            (
              omega arith,
              subst (λ x. serves x caller PluginEnd Closed (take (len + 0) journal)) (sym all)
                  (subst (λ x. serves journal caller PluginEnd Closed x) (sym more) closed),
              omega arith,
            ),
          );
          alone = none;
        },
        λ whole. not_over whole.1,
      )
