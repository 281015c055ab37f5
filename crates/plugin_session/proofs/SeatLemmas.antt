-- What a pass has seen after a call of the room, as a door says it.
use Rattle.std.proofs.Common.{◌≡◌, ℕ, ◌+◌, Bool, true, false, List, [], ◌∷◌, ◌++◌, ◌⊎◌, inl, inr, length, refl, ap, sym, ◌∙◌, arith}
use Rattle.std.specs.Prelude.{◌==◌}
use Rattle.std.specs.Bool.{MatchBool}
use Rattle.std.proofs.lemmas.List.{append-nil, length-append, take_all}
use Rattle.std.proofs.lemmas.List.Elements.{filter-append}
use Rattle.xi_plain.specs.declared.entry.Entry.{Entry}
use Rattle.xi_plain.specs.declared.reply.Receipt.{Receipt}
use Rattle.xi_plain.specs.Room.{Begins}
use Rattle.xi_plain.specs.Journal.{entries_of}
use Rattle.room_lock.specs.Room.{Known, GainsEntry, GainsNone, Tells, before_call, own}
use Rattle.plugin_session.proofs.DoorLemmas.{own_entry}

-- a list that is as long as the end of it has no more
none_more : {A : Type 0} (xs more : List A) → xs ++ more ≡ xs → more ≡ []
none_more xs [] is = refl
none_more xs (x ∷ more) is =
    let long : length xs + length (x ∷ more) ≡ length xs = sym (length-append xs (x ∷ more)) ∙ ap length is in absurd (omega (arith, long))

-- who made an entry among those that are new, where the caller's own are as before: others alone
pub no_own : (caller : ℕ) (before more : List Entry) → entries_of caller (before ++ more) ≡ entries_of caller before
    → entries_of caller more ≡ []
no_own caller before more is =
    none_more (entries_of caller before) (entries_of caller more) (sym (filter-append (λ entry. entry.caller == caller) before more) ∙ is)

-- a list with nothing in it
none_of : {A : Type 0} (xs : List A) → length xs ≡ 0 → xs ≡ []
none_of [] is = refl
none_of (x ∷ xs) is = absurd (omega (arith, is))

-- what a list goes on with is something with an entry after it, or nothing
abbrev Cut : List Entry → List Entry → List Entry → Type 0
Cut before more pre = ((others : List Entry) × (pre ≡ before ++ others)) ⊎ (more ≡ [])

cut_cons : (b p : Entry) (before more pre : List Entry) → b ≡ p → Cut before more pre → Cut (b ∷ before) more (p ∷ pre)
cut_cons b p before more pre same (inl (others, is)) = inl (others, ap (λ x. p ∷ x) is ∙ ap (λ x. x ∷ (before ++ others)) (sym same))
cut_cons b p before more pre same (inr none) = inr none

cut : (before more pre : List Entry) (entry : Entry) → before ++ more ≡ pre ++ entry ∷ [] → Cut before more pre
cut [] more pre entry is = inl (pre, refl)
cut (b ∷ before) more [] entry is =
    let tail : before ++ more ≡ [] = cc in
    let long : length before + length more ≡ 0 = sym (length-append before more) ∙ ap length tail in
    inr (none_of more (omega (arith, long)))
cut (b ∷ before) more (p ∷ pre) entry is =
    let head : b ≡ p = cc in
    let tail : before ++ more ≡ pre ++ entry ∷ [] = cc in
    cut_cons b p before more pre head (cut before more pre entry tail)

-- the entries of the caller grow with what was seen
pub own_grows : (before after : Known) → after.caller ≡ before.caller → Begins before.seen after.seen → Begins (own before) (own after)
own_grows before after same (more, is) = (
  entries_of before.caller more,
  ap (λ c. entries_of c after.seen) same ∙ ap (entries_of before.caller) is ∙ filter-append (λ entry. entry.caller == before.caller) before.seen more,
)

-- what others made before a call, where it made an entry
others_some : (before : Known) (after : List Entry) (pre more : List Entry) (entry : Entry) → after ≡ before.seen ++ more
    → after ≡ pre ++ entry ∷ [] → entry.caller ≡ before.caller → entries_of before.caller after ≡ own before ++ entry ∷ []
    → Cut before.seen more pre → (others : List Entry) × (entries_of before.caller others ≡ []) × (pre ≡ before.seen ++ others)
others_some before after pre more entry begins last by gained (inr none) =
    let same : after ≡ before.seen = begins ∙ ap (λ x. before.seen ++ x) none ∙ append-nil before.seen in
    let short : length (own before) ≡ length (own before) + 1 =
    ap (λ x. length (entries_of before.caller x)) (sym same) ∙ ap length gained ∙ length-append (own before) (entry ∷ []) in
    absurd (omega (arith, short))
others_some before after pre more entry begins last by gained (inl (others, is)) =
    let who = before.caller in
    let whole : entries_of who after ≡ (own before ++ entries_of who others) ++ entry ∷ [] =
    ap (entries_of who) last ∙ filter-append (λ e. e.caller == who) pre (entry ∷ [])
    ∙ ap (λ x. x ++ entries_of who (entry ∷ [])) (ap (entries_of who) is ∙ filter-append (λ e. e.caller == who) before.seen others)
    ∙ ap (λ x. (own before ++ entries_of who others) ++ x) (own_entry who entry by) in
    let one : length ((own before ++ entries_of who others) ++ entry ∷ []) ≡ length (own before ++ entry ∷ []) = ap length (sym whole ∙ gained) in
    let left : length ((own before ++ entries_of who others) ++ entry ∷ []) ≡ (length (own before) + length (entries_of who others)) + 1 =
    length-append (own before ++ entries_of who others) (entry ∷ []) ∙ ap (λ n. n + 1) (length-append (own before) (entries_of who others)) in
    let right : length (own before ++ entry ∷ []) ≡ length (own before) + 1 = length-append (own before) (entry ∷ []) in
    (others, none_of (entries_of who others) (omega (arith, one, left, right)), is)

others_if : (entered : Bool) (receipt : Receipt) (before after : Known) → after.caller ≡ before.caller → Begins before.seen after.seen
    → MatchBool entered (GainsEntry receipt before after) (GainsNone receipt before after)
    → (others : List Entry) × (entries_of before.caller others ≡ []) × (before_call receipt after.seen ≡ before.seen ++ others)
others_if true receipt before after same (more, is) (entry, by, last, placed, gained) =
    others_some before after.seen (before_call receipt after.seen) more entry is last by (ap (λ c. entries_of c after.seen) (sym same) ∙ gained)
    (cut before.seen more (before_call receipt after.seen) entry (sym is ∙ last))
others_if false receipt before after same (more, is) (placed, kept) = (
  more,
  no_own before.caller before.seen more (ap (entries_of before.caller) (sym is) ∙ ap (λ c. entries_of c after.seen) (sym same) ∙ kept),
  take_all receipt.place after.seen (omega (arith, placed)) ∙ is,
)

-- WHAT OTHERS MADE before a call, by its receipt
pub others_of : (receipt : Receipt) (before after : Known) → after.caller ≡ before.caller → Begins before.seen after.seen
    → Tells receipt before after
    → (others : List Entry) × (entries_of before.caller others ≡ []) × (before_call receipt after.seen ≡ before.seen ++ others)
others_of receipt before after same begins tells = others_if receipt.entered receipt before after same begins tells
