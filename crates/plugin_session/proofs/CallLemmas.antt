-- How calls stand in a journal that grows.
use Rattle.std.proofs.Common.{◌≡◌, ℕ, ◌+◌, ◌≤◌, List, [], ◌∷◌, ◌++◌, length, refl, ap, sym, ◌∙◌, subst, arith}
use Rattle.std.specs.Prelude.{take, drop}
use Rattle.std.proofs.lemmas.List.{take-append-le, drop-append-le, length-append, append_assoc, append-nil, length-drop}
use Rattle.xi_plain.specs.declared.entry.Entry.{Entry}
use Rattle.xi_plain.specs.declared.ask.Ask.{Ask}
use Rattle.xi_plain.specs.declared.ask.Query.{Query}
use Rattle.xi_plain.specs.declared.reply.Reply.{Reply}
use Rattle.xi_plain.specs.declared.reply.Answer.{Answer}
use Rattle.xi_plain.specs.Room.{Begins}
use Rattle.xi_plain.specs.Journal.{entries_of}
use Rattle.plugin_session.specs.Seat.{Begins-trans}
use Rattle.plugin_session.specs.declared.noted.Noted.{Noted}
use Rattle.plugin_session.specs.declared.noted.Noted.TheVariants.{Asked, Looked}
use Rattle.plugin_session.specs.Call.{Call, made, end_of, entries_at, answer_of, answers_of, IsServedBy, Stand, Went}

-- a journal is as long as its beginning at least
pub Begins-length : (a b : List Entry) → Begins a b → length a ≤ length b
Begins-length a b (more, is) =
    let long : length b ≡ length a + length more = ap length is ∙ length-append a more in omega (arith, long)

-- what stands in the part of a journal stays there
part_stays : (from n : ℕ) (a more : List Entry) → from + n ≤ length a → take n (drop from (a ++ more)) ≡ take n (drop from a)
part_stays from n a more fits =
    ap (take n) (drop-append-le from a more (omega (arith, fits)))
    ∙ take-append-le n (drop from a) more (rw (length-drop from a) (omega (arith, fits)))

pub answers_of-append : (calls rest : List Call) → answers_of (calls ++ rest) ≡ answers_of calls ++ answers_of rest
answers_of-append [] rest = refl
answers_of-append (call ∷ calls) rest =
    ap (λ x. answer_of call.noted ++ x) (answers_of-append calls rest) ∙ sym (append_assoc (answer_of call.noted) (answers_of calls) (answers_of rest))

pub entries_at-append : (journal : List Entry) (calls rest : List Call)
    → entries_at journal (calls ++ rest) ≡ entries_at journal calls ++ entries_at journal rest
entries_at-append journal [] rest = refl
entries_at-append journal (call ∷ calls) rest =
    let first = take (made call.noted) (drop call.at journal) in
    ap (λ x. first ++ x) (entries_at-append journal calls rest) ∙ sym (append_assoc first (entries_at journal calls) (entries_at journal rest))

module _ (serves : List Entry → ℕ → Ask → Reply → List Entry → Type 0) (answers : List Entry → ℕ → Query → Answer → Type 0) where
  -- what stands, stands within the journal
  pub Stand-bound : (journal : List Entry) (caller from : ℕ) (calls : List Call) → Stand serves answers journal caller from calls
      → from ≤ length journal
  Stand-bound journal caller from [] fits = fits
  Stand-bound journal caller from (call ∷ calls) (le, served, rest) =
      let bound : call.at + made call.noted ≤ length journal = Stand-bound journal caller (end_of call) calls rest in omega (arith, le, bound)

  -- from an earlier length too
  pub Stand-earlier : (journal : List Entry) (caller from earlier : ℕ) (calls : List Call) → earlier ≤ from
      → Stand serves answers journal caller from calls → Stand serves answers journal caller earlier calls
  Stand-earlier journal caller from earlier [] before fits = omega (arith, before, fits)
  Stand-earlier journal caller from earlier (call ∷ calls) before (le, served, rest) = (omega (arith, before, le), served, rest)

  -- a call that a journal served is served by a longer one
  served_on : (journal more : List Entry) (caller at : ℕ) (noted : Noted) → at + made noted ≤ length journal
      → IsServedBy serves answers journal caller at noted → IsServedBy serves answers (journal ++ more) caller at noted
  served_on journal more caller at (Looked query answer) fits served =
      subst (λ x. answers x caller query answer) (sym (take-append-le at journal more (omega (arith, fits)))) served
  served_on journal more caller at (Asked ask reply) fits served =
      let n = made (Asked ask reply) in
      subst (λ x. serves (take at (journal ++ more)) caller ask reply x) (sym (take-append-le (at + n) journal more fits))
      (subst (λ x. serves x caller ask reply (take (at + n) journal)) (sym (take-append-le at journal more (omega (arith, fits)))) served)

  -- what stands in a journal, and after it what stands in the longer one
  pub Stand-append : (journal more : List Entry) (caller from : ℕ) (calls rest : List Call) → Stand serves answers journal caller from calls
      → Stand serves answers (journal ++ more) caller (length journal) rest → Stand serves answers (journal ++ more) caller from (calls ++ rest)
  Stand-append journal more caller from [] rest fits stands = Stand-earlier (journal ++ more) caller (length journal) from rest fits stands
  Stand-append journal more caller from (call ∷ calls) rest (le, served, after) stands = (
    le,
    served_on journal more caller call.at call.noted (Stand-bound journal caller (end_of call) calls after) served,
    Stand-append journal more caller (end_of call) calls rest after stands,
  )

  -- what stands in a journal stands in a longer one
  pub Stand-longer : (journal more : List Entry) (caller from : ℕ) (calls : List Call) → Stand serves answers journal caller from calls
      → Stand serves answers (journal ++ more) caller from calls
  Stand-longer journal more caller from calls stands =
      subst (Stand serves answers (journal ++ more) caller from) (append-nil calls)
      (Stand-append journal more caller from calls [] stands (Begins-length journal (journal ++ more) (more, refl)))

  -- and its entries are the same
  pub entries_at-longer : (journal more : List Entry) (caller from : ℕ) (calls : List Call) → Stand serves answers journal caller from calls
      → entries_at (journal ++ more) calls ≡ entries_at journal calls
  entries_at-longer journal more caller from [] stands = refl
  entries_at-longer journal more caller from (call ∷ calls) (le, served, after) =
      ap (λ x. x ++ entries_at (journal ++ more) calls)
      (part_stays call.at (made call.noted) journal more (Stand-bound journal caller (end_of call) calls after))
      ∙ ap (λ x. take (made call.noted) (drop call.at journal) ++ x) (entries_at-longer journal more caller (end_of call) calls after)

  -- calls after calls
  pub Went-append : (caller : ℕ) (a b c : List Entry) (calls rest : List Call) → Went serves answers caller a b calls
      → Went serves answers caller b c rest → Went serves answers caller a c (calls ++ rest)
  Went-append caller a b c calls rest first then =
      let more = then.begins.0 in
      let is : c ≡ b ++ more = then.begins.1 in
      record {
        begins = Begins-trans a b c first.begins then.begins;
        stand = subst (λ x. Stand serves answers x caller (length a) (calls ++ rest)) (sym is)
            (Stand-append b more caller (length a) calls rest first.stand
            (subst (λ x. Stand serves answers x caller (length b) rest) is then.stand));
        own = then.own ∙ ap (λ x. x ++ entries_at c rest) first.own
            ∙ append_assoc (entries_of caller a) (entries_at b calls) (entries_at c rest)
            ∙ ap (λ x. entries_of caller a ++ (x ++ entries_at c rest))
            (sym (ap (λ x. entries_at x calls) is ∙ entries_at-longer b more caller (length a) calls first.stand))
            ∙ ap (λ x. entries_of caller a ++ x) (sym (entries_at-append c calls rest));
      }
