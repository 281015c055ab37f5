-- What a turn comes to for its caller.
use Rattle.std.proofs.Common.{◌≡◌, ℕ, ◌+◌, Bool, true, false, List, [], ◌∷◌, ◌++◌, length, take, Option, Some, refl, sym, ap, ◌∙◌, subst, arith, length-append, append-nil}
use Rattle.atomic_table.specs.Table.{Me}
use Rattle.xi_plain.specs.declared.entry.Entry.{Entry}
use Rattle.xi_plain.specs.declared.ask.Ask.{Ask}
use Rattle.xi_plain.specs.declared.ask.Query.{Query}
use Rattle.xi_plain.specs.declared.reply.Answer.{Answer}
use Rattle.xi_plain.specs.declared.reply.Reply.{Reply}
use Rattle.xi_plain.specs.declared.reply.Receipt.{Receipt}
use Rattle.xi_plain.specs.Journal.{entries_of}
use Rattle.xi_plain.specs.Reply.{has_entry}
use Rattle.xi_plain.specs.Room.{Begins, AddsEntryIf}
use Rattle.room_lock.specs.declared.view.Stage.TheVariants.{Turn}
use Rattle.room_lock.specs.declared.view.View.{View}
use Rattle.room_lock.specs.Room.{Known, IsSamePass, Tells, before_call, own}
use Rattle.room_lock.specs.Inner.{Agrees, with_turn, IsServed, IsAnswered}
use Rattle.room_lock.proofs.Journal.{entries_of-append, entries_of-mine, begins_on}
use Rattle.room_lock.proofs.Steps.{object_in}

-- where no entry was made, the turn knows the object's journal already
pub same_turn : {O : Type 0} (journal_of : O → List Entry) (me : Me (Option O) View) (object : O) → me.1 ≡ (0, Some object) ∷ [] → me.0.stage ≡ Turn
    → journal_of object ≡ me.0.seen → (other : O) → me.1 ≡ (0, Some other) ∷ [] → me ≡ (with_turn (journal_of other) me.0, me.1)
same_turn {O} journal_of me object holds is keeps_it other e =
    let same : object ≡ other = ap (object_in object) (sym holds ∙ e) in
    let seen : me.0.seen ≡ journal_of other = sym keeps_it ∙ ap journal_of same in
    λ i. (record { caller = me.0.caller; stage = is i; seen = seen i; made = me.0.made; joined = me.0.joined }, me.1)

take_front : (xs ys : List Entry) → take (length xs) (xs ++ ys) ≡ xs
take_front [] ys = refl
take_front (x ∷ xs) ys = ap (λ (l : List Entry). x ∷ l) (take_front xs ys)

-- what was there before a call
before_added : (made : Bool) (before : List Entry) (caller : ℕ) (after : List Entry) → AddsEntryIf made before caller after → take (length before) after ≡ before
before_added true before caller after adds = ap (take (length before)) adds.1 ∙ take_front before (adds.0 ∷ [])
before_added false before caller after adds =
    ap (take (length before)) adds ∙ (ap (take (length before)) (sym (append-nil before)) ∙ take_front before [])

added_onward : (made : Bool) (before : List Entry) (caller : ℕ) (after : List Entry) → AddsEntryIf made before caller after → Begins before after
added_onward true before caller after adds = (adds.0 ∷ [], adds.1)
added_onward false before caller after adds = ([], adds ∙ sym (append-nil before))

own_on : (caller : ℕ) (old before after : List Entry) (entry : Entry) → Agrees before caller old → after ≡ before ++ entry ∷ [] → entry.caller ≡ caller
    → entries_of caller after ≡ entries_of caller old ++ entry ∷ []
own_on caller old before after entry agrees adds mine =
    ap (entries_of caller) adds ∙ (entries_of-append caller before (entry ∷ []) ∙ (λ i. agrees.1 i ++ entries_of-mine caller entry mine i))

tells_turn : (place : ℕ) (entered : Bool) (before after : Known) (journal : List Entry) → IsSamePass before after → Agrees journal before.caller before.seen
    → place ≡ length journal → AddsEntryIf entered journal before.caller after.seen → Tells (record { place = place; entered = entered }) before after
tells_turn place true before after journal same agrees is adds =
    let entry : Entry = adds.0 in
    let back : take place after.seen ≡ journal = ap (λ (n : ℕ). take n after.seen) is ∙ before_added true journal before.caller after.seen adds in
    let long : length after.seen ≡ length journal + 1 = ap length adds.1 ∙ length-append journal (entry ∷ []) in (
      entry,
      adds.2,
      adds.1 ∙ ap (λ (l : List Entry). l ++ entry ∷ []) (sym back),
      omega arith,
      subst (λ (c : ℕ). entries_of c after.seen ≡ own before ++ entry ∷ []) (sym same.caller) (own_on before.caller before.seen journal after.seen entry agrees adds.1 adds.2),
    )
tells_turn place false before after journal same agrees is adds = (
  is ∙ ap length (sym adds),
  subst (λ (c : ℕ). entries_of c after.seen ≡ own before) (sym same.caller) (ap (entries_of before.caller) adds ∙ agrees.1),
)

module _ {O : Type 0} (legal : O → List Entry → Type 0) (first : O) where
  pub served_turn : (serves : O → List Entry → ℕ → Ask → Reply → List Entry → Type 0) (ask : Ask) (reply : Reply) (receipt : Receipt) (before after : Known)
      (journal : List Entry) → IsSamePass before after → Agrees journal before.caller before.seen → receipt.place ≡ length journal → receipt.entered ≡ has_entry reply
      → AddsEntryIf (has_entry reply) journal before.caller after.seen → legal first after.seen → serves first journal before.caller ask reply after.seen
      → IsServed legal first serves ask reply receipt before after
  served_turn serves ask reply receipt before after journal same agrees place entered adds lawful served =
      let mine : AddsEntryIf receipt.entered journal before.caller after.seen = subst (λ b. AddsEntryIf b journal before.caller after.seen) (sym entered) adds in
      let back : before_call receipt after.seen ≡ journal = ap (λ (n : ℕ). take n after.seen) place ∙ before_added receipt.entered journal before.caller after.seen mine in
      record {
        onward = record { same = same; seen = begins_on before.seen journal after.seen agrees.0 (added_onward receipt.entered journal before.caller after.seen mine); lawful = lawful };
        entered = entered;
        tells = tells_turn receipt.place receipt.entered before after journal same agrees place mine;
        served = subst (λ l. serves first l before.caller ask reply after.seen) (sym back) served;
      }

  pub answered_turn : (answers : O → List Entry → ℕ → Query → Answer → Type 0) (query : Query) (answer : Answer) (before after : Known)
      → IsSamePass before after → Agrees after.seen before.caller before.seen → legal first after.seen → answers first after.seen before.caller query answer
      → IsAnswered legal first answers query answer before after
  answered_turn answers query answer before after same agrees lawful answered = record {
    onward = record { same = same; seen = agrees.0; lawful = lawful };
    own_same = subst (λ (c : ℕ). entries_of c after.seen ≡ own before) (sym same.caller) agrees.1;
    answered = answered;
  }
