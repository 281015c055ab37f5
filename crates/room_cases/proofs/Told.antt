-- What a pass was told by its one call, the journal has in the end.
use Rattle.std.proofs.Common.{◌≡◌, ℕ, Bool, true, false, List, [], ◌∷◌, ◌++◌, length, sym, ap, ◌∙◌, arith, append_assoc, length-append}
use Rattle.std.specs.Bool.{MatchBool}
use Rattle.xi_plain.specs.declared.entry.Entry.{Entry}
use Rattle.xi_plain.specs.declared.reply.Receipt.{Receipt}
use Rattle.xi_plain.specs.Journal.{entries_of}
use Rattle.room_lock.specs.Room.{Known, GainsEntry, GainsNone, IsKnownOf, before_call}
use Rattle.room_cases.specs.Receipts.{IsFirstCall, IsOnlyEntry, IsReceiptIn}

-- all entries of the caller are its pass's own
all_own : (journal : List Entry) (caller : ℕ) (receipt : Receipt) (before after : Known) → before.caller ≡ caller → IsFirstCall before receipt after → IsKnownOf journal after → entries_of caller journal ≡ entries_of after.caller after.seen
all_own journal caller receipt before after is told known = ap (λ c. entries_of c journal) (sym (told.same.caller ∙ is)) ∙ known.2

stands_if : (entered : Bool) (journal : List Entry) (caller : ℕ) (receipt : Receipt) (before after : Known) → before.caller ≡ caller → IsFirstCall before receipt after → IsKnownOf journal after
    → MatchBool entered (GainsEntry receipt before after) (GainsNone receipt before after)
    → MatchBool entered (IsOnlyEntry receipt.place journal caller) (entries_of caller journal ≡ [])
stands_if true journal caller receipt before after is told known gains =
    let earlier = before_call receipt after.seen in
    let parts = ap length gains.2 ∙ length-append earlier (gains.0 ∷ []) in
    let place = gains.3 in
    record {
      earlier = earlier;
      entry = gains.0;
      later = known.0;
      there = known.1 ∙ (ap (λ l. l ++ known.0) gains.2 ∙ append_assoc earlier (gains.0 ∷ []) known.0);
      place_is = omega arith;
      alone = all_own journal caller receipt before after is told known ∙ (gains.4 ∙ ap (λ l. entries_of before.caller l ++ gains.0 ∷ []) told.fresh);
    }
stands_if false journal caller receipt before after is told known gains =
    all_own journal caller receipt before after is told known ∙ (gains.1 ∙ ap (entries_of before.caller) told.fresh)

-- the receipt stands in a journal that its pass knows
pub stands : (journal : List Entry) (caller : ℕ) (receipt : Receipt) (before after : Known) → before.caller ≡ caller → IsFirstCall before receipt after → IsKnownOf journal after → IsReceiptIn journal caller receipt
stands journal caller receipt before after is told known = stands_if receipt.entered journal caller receipt before after is told known told.tells
