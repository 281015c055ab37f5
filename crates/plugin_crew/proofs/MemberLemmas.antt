-- Plugins of a run, one after the other.
use Rattle.std.proofs.Common.{◌≡◌, ◌≢◌, ◌≤◌, ◌<◌, ℕ, ◌+◌, Bool, true, false, List, [], ◌∷◌, ◌++◌, length, take, drop, Option, refl, ap, sym, ◌∙◌, subst, arith}
use Rattle.std.specs.Prelude.{replicate, not, get_or, ◌&&◌}
use Rattle.std.proofs.lemmas.List.{map-append, take-append-drop, drop_more}
use Rattle.xi_plain.specs.declared.entry.Entry.{Entry}
use Rattle.xi_plain.specs.declared.ask.Ask.{Ask}
use Rattle.xi_plain.specs.declared.ask.Query.{Query}
use Rattle.xi_plain.specs.declared.reply.Reply.{Reply}
use Rattle.xi_plain.specs.declared.reply.Answer.{Answer}
use Rattle.plugin_session.specs.Alone.{OnlyAdds}
use Rattle.plugin_session.specs.Turn.{Turned}
use Rattle.plugin_session.specs.Visit.{Visit}
use Rattle.plugin_crew.specs.declared.member.Member.{Member}
use Rattle.plugin_crew.specs.Member.{AreNew, IsNew, IsMember, AreMembers, are_served, begun_of}
use Rattle.plugin_crew.specs.Standing.{is_served}
use Rattle.plugin_crew.proofs.SessionLemmas.{session_new, session_stays}
use Rattle.plugin_crew.proofs.RoundLemmas.{none_own}

not_false : (b : Bool) → not b ≡ false → b ≡ true
not_false true is = refl
not_false false is = absurd cc

not_true : (b : Bool) → not b ≡ true → b ≡ false
not_true true is = absurd cc
not_true false is = refl

-- one more before its first turn
pub new_snoc : {P : Type 0} (caller count : ℕ) (plugins : List P) (members : List (Member P)) (plugin : P) (member : Member P) → length members ≡ count
    → AreNew caller plugins members → IsNew (caller + count) plugin member → AreNew caller (plugins ++ plugin ∷ []) (members ++ member ∷ [])
new_snoc caller count [] [] plugin member long new is = (subst (λ c. IsNew c plugin member) (omega (arith, long)) is, tt)
new_snoc caller count [] (other ∷ members) plugin member long new is = absurd new
new_snoc caller count (other ∷ plugins) [] plugin member long new is = absurd new
new_snoc caller count (first ∷ plugins) (other ∷ members) plugin member long (one, new) is = (
  one,
  new_snoc (caller + 1) (length members) plugins members plugin member refl new (subst (λ c. IsNew c plugin member) (omega (arith, long)) is),
)

-- whether memory was wanting for none, member by member
pub served_step : {P : Type 0} (members : List (Member P)) (at : ℕ) (d : Member P) → at < length members → not (is_served (get_or members at d).standing) ≡ false
    → are_served (drop (at + 1) members) ≡ are_served (drop at members)
served_step members at d inside is =
    let served : is_served (get_or members at d).standing ≡ true = not_false (is_served (get_or members at d).standing) is in
    sym (ap are_served (drop_more members at d inside) ∙ ap (λ b. b && are_served (drop (at + 1) members)) served)

pub served_stop : {P : Type 0} (members : List (Member P)) (at : ℕ) (d : Member P) → at < length members → not (is_served (get_or members at d).standing) ≡ true
    → are_served (drop at members) ≡ false
served_stop members at d inside is =
    let short : is_served (get_or members at d).standing ≡ false = not_true (is_served (get_or members at d).standing) is in
    ap are_served (drop_more members at d inside) ∙ ap (λ b. b && are_served (drop (at + 1) members)) short

-- what the plugins were at first stays, where one goes on that began as before
pub begun_on : {P : Type 0} (at : ℕ) (nows nexts : List (Member P)) (member next : Member P) → next.began ≡ member.began
    → drop at nows ≡ member ∷ drop (at + 1) nows → drop at nexts ≡ next ∷ drop (at + 1) nows → take at nexts ≡ take at nows
    → begun_of nexts ≡ begun_of nows
begun_on at nows nexts member next began old_is new_is kept =
    ap begun_of (sym (take-append-drop at nexts)) ∙ ap (λ x. begun_of (take at nexts ++ x)) new_is
    ∙ ap (λ x. begun_of (x ++ next ∷ drop (at + 1) nows)) kept
    ∙ map-append (λ m. m.began.value) (take at nows) (next ∷ drop (at + 1) nows)
    ∙ ap (λ b. begun_of (take at nows) ++ (b.value ∷ begun_of (drop (at + 1) nows))) began
    ∙ sym (map-append (λ m. m.began.value) (take at nows) (member ∷ drop (at + 1) nows))
    ∙ ap (λ x. begun_of (take at nows ++ x)) (sym old_is) ∙ ap begun_of (take-append-drop at nows)

module _ {P : Type 0} (told : P → Option (List Turned)) (serves : List Entry → ℕ → Ask → Reply → List Entry → Type 0)
    (answers : List Entry → ℕ → Query → Answer → Type 0) where
  -- before the first turns
  pub members_new : (caller : ℕ) (plugins : List P) (members : List (Member P)) → AreNew caller plugins members
      → AreMembers told serves answers caller [] members (replicate (length members) [])
  members_new caller [] [] new = tt
  members_new caller [] (member ∷ members) new = absurd new
  members_new caller (plugin ∷ plugins) [] new = absurd new
  members_new caller (plugin ∷ plugins) (member ∷ members) (first, rest) = (
    record {
      number = first.number;
      session = session_new serves answers caller [] member.port (told member.began.value) (told member.plugin) member.standing refl first.port
          (ap told (first.began ∙ sym first.now)) first.going;
    },
    members_new (caller + 1) plugins members rest,
  )

  -- past the entries of one who is none of them
  pub member_stays : (who caller : ℕ) (before after : List Entry) (member : Member P) (visits : List Visit) → caller ≢ who
      → OnlyAdds who before after → IsMember told serves answers caller before member visits → IsMember told serves answers caller after member visits
  member_stays who caller before after member visits other (more, is, all) member_is =
      subst (λ x. IsMember told serves answers caller x member visits) (sym is)
      (record {
        number = member_is.number;
        session = session_stays serves answers caller before more member.port (told member.began.value) (told member.plugin) member.standing visits
            (none_own caller who more other all) member_is.session;
      })

  pub members_stay : (who caller : ℕ) (before after : List Entry) (members : List (Member P)) (visits : List (List Visit))
      → ((k : ℕ) → caller ≤ k → k < caller + length members → k ≢ who) → OnlyAdds who before after
      → AreMembers told serves answers caller before members visits → AreMembers told serves answers caller after members visits
  members_stay who caller before after [] [] others adds are = tt
  members_stay who caller before after [] (first ∷ rest) others adds are = absurd are
  members_stay who caller before after (member ∷ members) [] others adds are = absurd are
  members_stay who caller before after (member ∷ members) (first ∷ rest) others adds (is, are) = (
    member_stays who caller before after member first (others caller (omega arith) (omega arith)) adds is,
    members_stay who (caller + 1) before after members rest (λ k from to. others k (omega (arith, from)) (omega (arith, to))) adds are,
  )

  -- one more at the end
  pub members_snoc : (caller count : ℕ) (journal : List Entry) (members : List (Member P)) (member : Member P) (visits : List (List Visit)) (own : List Visit)
      → length members ≡ count → AreMembers told serves answers caller journal members visits → IsMember told serves answers (caller + count) journal member own
      → AreMembers told serves answers caller journal (members ++ member ∷ []) (visits ++ own ∷ [])
  members_snoc caller count journal [] member [] own long are is =
      (subst (λ c. IsMember told serves answers c journal member own) (omega (arith, long)) is, tt)
  members_snoc caller count journal [] member (first ∷ rest) own long are is = absurd are
  members_snoc caller count journal (other ∷ members) member [] own long are is = absurd are
  members_snoc caller count journal (other ∷ members) member (first ∷ rest) own long (one, are) is = (
    one,
    members_snoc (caller + 1) (length members) journal members member rest own refl are
        (subst (λ c. IsMember told serves answers c journal member own) (omega (arith, long)) is),
  )

  -- the first of those that are left, with its visits
  pub record Front (caller : ℕ) (journal : List Entry) (member : Member P) (members : List (Member P)) (visits : List (List Visit)) : Type 0 where
    pub own : List Visit
    pub rest : List (List Visit)
    pub all : visits ≡ own ∷ rest
    pub first : IsMember told serves answers caller journal member own
    pub others : AreMembers told serves answers (caller + 1) journal members rest

  pub members_front : (caller : ℕ) (journal : List Entry) (member : Member P) (members : List (Member P)) (visits : List (List Visit))
      → AreMembers told serves answers caller journal (member ∷ members) visits → Front caller journal member members visits
  members_front caller journal member members [] are = absurd are
  members_front caller journal member members (own ∷ rest) are = record { own = own; rest = rest; all = refl; first = are.0; others = are.1 }

  -- where none is left, there are no visits
  pub members_none : (caller : ℕ) (journal : List Entry) (visits : List (List Visit)) → AreMembers told serves answers caller journal [] visits → visits ≡ []
  members_none caller journal [] are = refl
  members_none caller journal (own ∷ rest) are = absurd are
