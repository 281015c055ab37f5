-- Posts of a run on threads, from turn to turn.
use Rattle.std.proofs.Common.{◌≡◌, ◌≤◌, ◌<◌, ◌+◌, ℕ, zero, suc, Bool, true, false, List, [], ◌∷◌, length, get_or, refl, ap, sym, ◌∙◌, subst, arith}
use Rattle.std.proofs.Math.ListN.{set}
use Rattle.std.proofs.lemmas.List.{length-map}
use Rattle.xi_plain.specs.declared.entry.Entry.{Entry}
use Rattle.xi_plain.specs.declared.ask.Ask.{Ask}
use Rattle.xi_plain.specs.declared.ask.Query.{Query}
use Rattle.xi_plain.specs.declared.reply.Reply.{Reply}
use Rattle.xi_plain.specs.declared.reply.Answer.{Answer}
use Rattle.atomic_table.specs.Seated.{TableId}
use Rattle.room_lock.specs.Room.{Known, IsSamePass}
use Rattle.plugin_crew.specs.Alone.{MayServe}
use Rattle.plugin_crew.specs.Place.{Posted, IsVisited, AreVisited, AreVisitedIf, givens_of}
use Rattle.plugin_crew.specs.Threads.{MayTake}
use Rattle.plugin_crew.proofs.ThreadLemmas.{staffed_on}

module _ {O P : Type 0} (serves : O → List Entry → ℕ → Ask → Reply → List Entry → Type 0)
    (answers : O → List Entry → ℕ → Query → Answer → Type 0) where
  -- a round leaves what each was given
  visited_given : (olds news : List (Posted O P)) → AreVisited serves answers olds news → givens_of news ≡ givens_of olds
  visited_given [] [] are = refl
  visited_given [] (new ∷ news) are = absurd are
  visited_given (old ∷ olds) [] are = absurd are
  visited_given (old ∷ olds) (new ∷ news) (is, are) =
      ap (λ given. given ∷ givens_of news) is.0 ∙ ap (λ givens. old.given ∷ givens) (visited_given olds news are)

  pub round_given : (goes : Bool) (olds news : List (Posted O P)) → AreVisitedIf serves answers goes olds news → givens_of news ≡ givens_of olds
  round_given true olds news are = visited_given olds news are
  round_given false olds news is = ap givens_of is

  -- and how many there are
  pub round_length : (goes : Bool) (olds news : List (Posted O P)) → AreVisitedIf serves answers goes olds news → length news ≡ length olds
  round_length goes olds news are =
      sym (length-map news (λ post. post.given)) ∙ ap length (round_given goes olds news are) ∙ length-map olds (λ post. post.given)

  -- A ROUND SO FAR: those before this place had their turns, and those from it on are as they were
  abbrev pub VisitedTo : ℕ → List (Posted O P) → List (Posted O P) → Type 0
  VisitedTo zero olds news = news ≡ olds
  VisitedTo (suc at) [] [] = Unit {0}
  VisitedTo (suc at) [] (new ∷ news) = ⊥
  VisitedTo (suc at) (old ∷ olds) [] = ⊥
  VisitedTo (suc at) (old ∷ olds) (new ∷ news) = IsVisited serves answers old new × VisitedTo at olds news

  -- one more
  visited_next : (at : ℕ) (olds nows : List (Posted O P)) (post next : Posted O P) → at < length nows → post ≡ get_or nows at post
      → IsVisited serves answers post next → VisitedTo at olds nows → VisitedTo (suc at) olds (set nows at next)
  visited_next zero olds [] post next inside is had to = absurd (omega (arith, inside))
  visited_next zero olds (now ∷ nows) post next inside is had to =
      subst (λ x. VisitedTo 1 x (next ∷ nows)) to (subst (λ p. IsVisited serves answers p next) is had, refl)
  visited_next (suc at) [] [] post next inside is had to = absurd (omega (arith, inside))
  visited_next (suc at) [] (now ∷ nows) post next inside is had to = absurd to
  visited_next (suc at) (old ∷ olds) [] post next inside is had to = absurd to
  visited_next (suc at) (old ∷ olds) (now ∷ nows) post next inside is had to =
      (to.0, visited_next at olds nows post next (omega (arith, inside)) is had to.1)

  pub visited_on : (at : ℕ) (olds nows : List (Posted O P)) (post next : Posted O P) → at < length nows → post ≡ get_or nows at post
      → IsVisited serves answers post next → VisitedTo at olds nows → VisitedTo (at + 1) olds (set nows at next)
  visited_on at olds nows post next inside is had to =
      let same : suc at ≡ at + 1 = omega arith in
      subst (λ n. VisitedTo n olds (set nows at next)) same (visited_next at olds nows post next inside is had to)

  -- all
  pub visited_all : (at : ℕ) (olds nows : List (Posted O P)) → length nows ≤ at → VisitedTo at olds nows → AreVisited serves answers olds nows
  visited_all zero olds [] all to = subst (λ x. AreVisited serves answers x []) to tt
  visited_all zero olds (now ∷ nows) all to = absurd (omega (arith, all))
  visited_all (suc at) [] [] all to = tt
  visited_all (suc at) [] (now ∷ nows) all to = absurd to
  visited_all (suc at) (old ∷ olds) [] all to = absurd to
  visited_all (suc at) (old ∷ olds) (now ∷ nows) all to = (to.0, visited_all at olds nows (omega (arith, all)) to.1)

  -- the front goes on by its pass
  pub take_on : (fits : O → ℕ → Ask → Type 0) (room : TableId) (first : O) (pass next : Known) (goes : Bool) (olds news : List (Posted O P))
      → IsSamePass pass next → AreVisitedIf serves answers goes olds news → MayTake fits serves room first pass olds → MayTake fits serves room first next news
  take_on fits room first pass next goes olds news same are (staffed, may) = (
    staffed_on room first pass next (givens_of olds) (givens_of news) same (round_given goes olds news are) staffed,
    subst (λ n. MayServe fits serves n first) (sym (round_length goes olds news are)) may,
  )
