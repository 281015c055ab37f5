-- What several entries come to, one after the other.
use Rattle.std.proofs.Common.{◌≡◌, ℕ, ◌+◌, ◌<◌, ◌≤◌, arith, Bool, true, false, List, [], ◌∷◌, ◌++◌, length, take, drop, map, get_or, Some, None, refl, ap, sym, ◌∙◌, subst, append-nil}
use Rattle.std.proofs.lemmas.List.{length-take-le, map-append, take_more, take_all}
use Rattle.xi_plain.specs.declared.entry.Entry.{Entry}
use Rattle.xi_plain.specs.Journal.{is_closing}
use Rattle.session_step.specs.declared.terms.Terms.{Terms}
use Rattle.session_step.specs.Session.{Session, first_session, session_of}
use Rattle.core_session.specs.Kept.{is_over, with_sent}
use Rattle.journal_replay.specs.declared.replaying.ReplayFault.TheVariants as fault
use Rattle.journal_replay.specs.Follow.{AllFollow, FirstDiffers, FollowsAt, Point, first_point, lines_left, point_after}
use Rattle.journal_replay.specs.declared.entering.Entered.{Entered}
use Rattle.journal_replay.specs.Inner.{AsksNoMore, IsPlayed, IsReplayed, all_sent, point_at}
use Rattle.journal_replay.specs.Replay.{asked_only}
use Rattle.journal_replay.proofs.PointLemmas.{AllFollow-push, FirstDiffers-push, all_sent-append, is_over-all, point_after-push, session-point_after, session_after-sent, split_at}

-- HOW FAR A REPLAY HAS COME after these entries: they follow, the session has them, and these lines are left
pub record SoFar (plugins : ℕ) (first : Point) (front : List Entry) (log : List Entry) (lines : List (List ℕ)) (closed : Bool) : Type 0 where
  pub follow : AllFollow plugins first front
  pub log_is : log ≡ all_sent front
  pub lines_are : lines ≡ (point_after first front).lines
  pub closed_is : closed ≡ (point_after first front).closed

pub so_far_first : (plugins : ℕ) (terms : Terms) (tape : List ℕ) (log : List Entry) → log ≡ [] →
    SoFar plugins (first_point terms tape) [] log (first_point terms tape).lines false
so_far_first plugins terms tape log empty = record { follow = tt; log_is = empty; lines_are = refl; closed_is = refl }

point_is : (point : Point) (session : Session) (lines : List (List ℕ)) (closed : Bool) → session ≡ point.session → lines ≡ point.lines →
    closed ≡ point.closed → record { session = session; lines = lines; closed = closed } ≡ point
point_is point session lines closed s l c =
    ap (λ x. record { session = x; lines = lines; closed = closed }) s ∙
    ap (λ x. record { session = point.session; lines = x; closed = closed }) l ∙
    ap (λ x. record { session = point.session; lines = point.lines; closed = x }) c

asked_only-sent : (entries : List Entry) → map asked_only (all_sent entries) ≡ map asked_only entries
asked_only-sent [] = refl
asked_only-sent (entry ∷ entries) = ap (λ rest. asked_only entry ∷ rest) (asked_only-sent entries)

module _ (plugins : ℕ) (terms : Terms) (tape : List ℕ) (front : List Entry) (log : List Entry) (lines : List (List ℕ)) (closed : Bool)
    (so_far : SoFar plugins (first_point terms tape) front log lines closed) where
  -- the session is over where a closing entry came
  pub over_is : is_over log ≡ closed
  over_is = ap is_over so_far.log_is ∙ is_over-all plugins (first_point terms tape) front refl so_far.follow ∙ sym so_far.closed_is

  -- the point is that of the session
  pub point_now : closed ≡ false → point_at terms log lines ≡ point_after (first_point terms tape) front
  point_now unclosed =
      let first = first_point terms tape in
      point_is (point_after first front) (session_of terms log) lines false
      (ap (session_of terms) so_far.log_is ∙ session_after-sent (first_session terms) front ∙ sym (session-point_after first front))
      so_far.lines_are (sym unclosed ∙ so_far.closed_is)

  -- one more entry
  pub so_far_next : (entry : Entry) (after : List Entry) → closed ≡ false → FollowsAt plugins (point_at terms log lines) entry →
      after ≡ log ++ with_sent entry true ∷ [] →
      SoFar plugins (first_point terms tape) (front ++ entry ∷ []) after (lines_left entry lines) (is_closing entry)
  so_far_next entry after unclosed follows is =
      let first = first_point terms tape in
      let next = point_after-push first front entry in
      let At : Point → Type 0 = λ point. FollowsAt plugins point entry in
      record {
        follow = AllFollow-push plugins first front entry so_far.follow (subst At (point_now unclosed) follows);
        log_is = is ∙ ap (λ xs. xs ++ with_sent entry true ∷ []) so_far.log_is ∙ sym (all_sent-append front (entry ∷ []));
        lines_are = ap (lines_left entry) so_far.lines_are ∙ sym (ap (λ (p : Point). p.lines) next);
        closed_is = sym (ap (λ (p : Point). p.closed) next);
      }

-- ---- by the index of an entry

module _ (plugins : ℕ) (terms : Terms) (tape : List ℕ) (journal : List Entry) (at : ℕ) (entry : Entry) (inside : at < length journal)
    (is : entry ≡ get_or journal at entry) (log : List Entry) (lines : List (List ℕ)) (closed : Bool)
    (so_far : SoFar plugins (first_point terms tape) (take at journal) log lines closed) where
  parts : journal ≡ take at journal ++ entry ∷ drop (at + 1) journal
  parts = split_at journal at entry inside is

  len : length (take at journal) ≡ at
  len = length-take-le at journal (omega (arith, inside))

  one_more : take at journal ++ entry ∷ [] ≡ take (at + 1) journal
  one_more = ap (λ e. take at journal ++ e ∷ []) is ∙ sym (take_more journal at entry inside)

  differs_by : (FollowsAt plugins (point_after (first_point terms tape) (take at journal)) entry → ⊥) → FirstDiffers plugins (first_point terms tape) journal at
  differs_by differs =
      subst (λ xs. FirstDiffers plugins (first_point terms tape) xs at) (sym parts)
      (subst (λ n. FirstDiffers plugins (first_point terms tape) (take at journal ++ entry ∷ drop (at + 1) journal) n) len
      (FirstDiffers-push plugins (first_point terms tape) (take at journal) entry (drop (at + 1) journal) so_far.follow differs))

  -- it does not follow: it stands behind a closing entry
  pub played_closed : (after : List Entry) → closed ≡ true → after ≡ log → IsPlayed plugins (first_point terms tape) journal (Some (fault.Differs at)) after
  played_closed after over same = (differs_by (λ follows. never (sym over ∙ so_far.closed_is ∙ follows.unclosed)), same ∙ so_far.log_is)
    where
      never : true ≡ false → ⊥
      never absurdly = cc

  -- or the session has none like it
  pub played_differs : (after : List Entry) → closed ≡ false → (FollowsAt plugins (point_at terms log lines) entry → ⊥) → after ≡ log →
      IsPlayed plugins (first_point terms tape) journal (Some (fault.Differs at)) after
  played_differs after unclosed differs same =
      let At : Point → Type 0 = λ point. FollowsAt plugins point entry → ⊥ in
      (differs_by (subst At (point_now plugins terms tape (take at journal) log lines closed so_far unclosed) differs), same ∙ so_far.log_is)

  -- it was not sent whole
  pub played_fault : (after : List Entry) → closed ≡ false → FollowsAt plugins (point_at terms log lines) entry →
      after ≡ log ++ with_sent entry false ∷ [] → IsPlayed plugins (first_point terms tape) journal (Some fault.SinkFault) after
  played_fault after unclosed follows put =
      let At : Point → Type 0 = λ point. FollowsAt plugins point entry in (
        take at journal,
        entry,
        drop (at + 1) journal,
        parts,
        AllFollow-push plugins (first_point terms tape) (take at journal) entry so_far.follow
            (subst At (point_now plugins terms tape (take at journal) log lines closed so_far unclosed) follows),
        put ∙ ap (λ xs. xs ++ with_sent entry false ∷ []) so_far.log_is,
      )

  -- memory was wanting
  pub played_lacking : (after more : List Entry) → after ≡ log ++ more → AsksNoMore more entry →
      IsPlayed plugins (first_point terms tape) journal (Some fault.NoMemory) after
  played_lacking after [] put asks =
      (at, ap (map asked_only) (put ∙ append-nil log ∙ so_far.log_is) ∙ asked_only-sent (take at journal))
  played_lacking after (made ∷ []) put asks = (
    at + 1,
    ap (map asked_only) (put ∙ ap (λ xs. xs ++ made ∷ []) so_far.log_is) ∙ map-append asked_only (all_sent (take at journal)) (made ∷ []) ∙
        ap (λ xs. xs ++ asked_only made ∷ []) (asked_only-sent (take at journal)) ∙ ap (λ e. map asked_only (take at journal) ++ e ∷ []) asks ∙
        sym (map-append asked_only (take at journal) (entry ∷ [])) ∙ ap (map asked_only) one_more,
  )
  played_lacking after (made ∷ (next ∷ more)) put asks = absurd asks

  -- it is an entry again
  pub so_far_at : (after : List Entry) → closed ≡ false → FollowsAt plugins (point_at terms log lines) entry →
      after ≡ log ++ with_sent entry true ∷ [] → SoFar plugins (first_point terms tape) (take (at + 1) journal) after (lines_left entry lines) (is_closing entry)
  so_far_at after unclosed follows put =
      subst (λ xs. SoFar plugins (first_point terms tape) xs after (lines_left entry lines) (is_closing entry)) one_more
      (so_far_next plugins terms tape (take at journal) log lines closed so_far entry after unclosed follows put)

-- all of them are entries again
pub played_all : (plugins : ℕ) (terms : Terms) (tape : List ℕ) (journal : List Entry) (at : ℕ) (log : List Entry) (lines : List (List ℕ)) (closed : Bool) →
    SoFar plugins (first_point terms tape) (take at journal) log lines closed → length journal ≤ at →
    IsPlayed plugins (first_point terms tape) journal None log
played_all plugins terms tape journal at log lines closed so_far end =
    let all : take at journal ≡ journal = take_all at journal end in
    (subst (AllFollow plugins (first_point terms tape)) all so_far.follow, so_far.log_is ∙ ap all_sent all)

-- the terms of a session are those that it was made with
pub at_terms : (terms other : Terms) (result : Entered) (plugins : ℕ) (log : List Entry) (lines : List (List ℕ)) (entry : Entry) (after : List Entry) →
    other ≡ terms → IsReplayed result plugins (point_at other log lines) entry log after → IsReplayed result plugins (point_at terms log lines) entry log after
at_terms terms other result plugins log lines entry after same came =
    subst (λ t. IsReplayed result plugins (point_at t log lines) entry log after) same came
