-- Ids, acknowledgements and edits, over the lines of a turn.
use Rattle.std.proofs.Common.{◌≡◌, ℕ, ◌+◌, ◌-◌, ◌≤◌, ◌^◌, Bool, true, false, cond, List, [], ◌∷◌, ◌++◌, Option, Some, None, IfSome, Ordering, Less, Equal, Greater, nat_cmp, refl, sym, ap, subst, ◌∙◌, arith, append-nil}
use Rattle.std.specs.Prelude.{is_some, nat_lt, not, if◌then◌else◌, ◌||◌}
use Rattle.std.specs.Bool.{MatchBool}
use Rattle.std.specs.Map.{lookup, remove_entry}
use Rattle.std.specs.BTreeMap.{is_at, insert_entry}
use Rattle.std.specs.List.{AllByRecursion}
use Rattle.std.specs.Ordering.{match_ordering}
use Rattle.std.proofs.lemmas.List.Sums.{sum_by-cons}
use Rattle.std.proofs.lemmas.Bool.{cond-true, cond-false, le-ltb, eq-eqb}
use Rattle.plain_text.specs.Text.{byte_len, is_place}
use Rattle.plain_text.proofs.callers.PlaceLemmas.{gap_from-seam}
use Rattle.plain_edits.specs.Delta.{Fits, misfit_of, copy_misfit, or_later}
use Rattle.xi_plain.specs.declared.command.Command.{Command}
use Rattle.plugin_side.specs.declared.heard.Answered.{Answered}
use Rattle.plugin_side.specs.declared.heard.Answered.TheVariants.{Chunk, Edited, Lines, Null, Failed, Other}
use Rattle.plugin_side.specs.declared.heard.Heard.{Heard}
use Rattle.plugin_side.specs.declared.heard.Heard.TheVariants as Hears
use Rattle.plugin_side.specs.Heard.{heard_in}
use Rattle.shipped_plugins.specs.Turns.{Upshot, passed}
use Rattle.shipped_plugins.specs.Todo.{Version, TodoState, ack_ask, read_ask, answer_asks, asked_at, number_of, reads, settles, told_version, todo_step, todo_turn}
use Rattle.shipped_plugins.specs.Storm.{SizedVersion, StormState, storm_start, storm_delta, edit_ask, first_of, counts, quiet_changes, storm_step, storm_turn, told_change}
use Rattle.shipped_plugins.proofs.TurnLemmas.{all_append}
use Rattle.shipped_plugins.specs.Laws.{is_read, HasIdsFrom, IdsComeOnce, acknowledges, is_version, is_told, acks_of, tells_of, tellings_of, waiting_for, AcksAreTold, AreBehind, AcksFollowSpans, IsLengthIn, heard_change, FitsIn, EditsFit}

-- what a version makes the marker ask, where there is an id for it or none
abbrev read_step : TodoState → Version → Bool → Upshot TodoState
read_step state version some =
    if some
    then record {
      after = record { next = state.next + 1; asked = insert_entry nat_cmp state.asked state.next version };
      asks = read_ask state.next version ∷ [];
    }
    else passed state

-- ---- ids

weaker : (b : Bool) {P Q P' Q' : Type 0} → (P → P') → (Q → Q') → MatchBool b P Q → MatchBool b P' Q'
weaker true f g h = f h
weaker false f g h = g h

HasIdsFrom-append : (from between to : ℕ) (first later : List Command) → HasIdsFrom from between first → HasIdsFrom between to later → HasIdsFrom from to (first ++ later)
HasIdsFrom-append from between to [] later h k = subst (λ n. HasIdsFrom n to later) (sym h) k
HasIdsFrom-append from between to (command ∷ first) later h k =
    weaker (is_read command.act) (λ p. (p.0, HasIdsFrom-append (from + 1) between to first later p.1 k))
    (λ p. (p.0, HasIdsFrom-append from between to first later p.1 k)) h

ids_read : (state : TodoState) (version : Version) (some : Bool) → HasIdsFrom state.next (read_step state version some).after.next (read_step state version some).asks
ids_read state version true = (refl, refl)
ids_read state version false = refl

ids_told : (state : TodoState) (version : Option Version) → HasIdsFrom state.next (reads state version).after.next (reads state version).asks
ids_told state None = refl
ids_told state (Some version) = ids_read state version (nat_lt state.next (2 ^ 64 - 1))

ids_answered : (next : ℕ) (version : Option Version) (answer : Answered) → HasIdsFrom next next (answer_asks version answer)
ids_answered next None answer = refl
ids_answered next (Some version) (Chunk text offset) = (refl, (refl, refl))
ids_answered next (Some version) (Edited rev group) = refl
ids_answered next (Some version) (Lines n) = refl
ids_answered next (Some version) Null = refl
ids_answered next (Some version) (Failed code message) = refl
ids_answered next (Some version) Other = refl

ids_settled : (state : TodoState) (id : Option ℕ) (answer : Answered) → HasIdsFrom state.next (settles state id answer).after.next (settles state id answer).asks
ids_settled state None answer = refl
ids_settled state (Some id) answer = ids_answered state.next (asked_at state.asked id) answer

ids_step : (state : TodoState) (heard : Heard) → HasIdsFrom state.next (todo_step state heard).after.next (todo_step state heard).asks
ids_step state (Hears.Told told) = ids_told state (told_version told)
ids_step state (Hears.Answer id answer) = ids_settled state (number_of id) answer
ids_step state Hears.Nothing = refl

pub ids_come_once : IdsComeOnce
ids_come_once state [] = refl
ids_come_once state (line ∷ lines) =
    let first = todo_step state (heard_in line) in
    HasIdsFrom-append state.next first.after.next (todo_turn first.after lines).after.next first.asks (todo_turn first.after lines).asks
    (ids_step state (heard_in line)) (ids_come_once first.after lines)

-- ---- acknowledgements are told

-- a truth as a number
abbrev one : Bool → ℕ
one b = cond b 1 0

acks-cons : (version : Version) (command : Command) (commands : List Command) → acks_of version (command ∷ commands) ≡ one (acknowledges version command.act) + acks_of version commands
acks-cons version command commands = sum_by-cons (λ c. cond (acknowledges version c.act) 1 0) command commands

tellings-cons : (version : Version) (line : List ℕ) (lines : List (List ℕ)) → tellings_of version (line ∷ lines) ≡ one (tells_of version (heard_in line)) + tellings_of version lines
tellings-cons version line lines = sum_by-cons (λ l. cond (tells_of version (heard_in l)) 1 0) line lines

waiting-cons : (version : Version) (entry : ℕ × Version) (asked : List (ℕ × Version)) → waiting_for version (entry ∷ asked) ≡ one (is_version version entry.1) + waiting_for version asked
waiting-cons version entry asked = sum_by-cons (λ e. cond (is_version version e.1) 1 0) entry asked

count_on : (all own c n a b : ℕ) → all ≡ c + n → own ≡ c + a → n ≡ a + b → all ≡ own + b
count_on all own c n a b h k l = omega (arith, h, k, l)

acks-append : (version : Version) (first later : List Command) → acks_of version (first ++ later) ≡ acks_of version first + acks_of version later
acks-append version [] later = omega arith
acks-append version (command ∷ first) later =
    count_on (acks_of version (command ∷ (first ++ later))) (acks_of version (command ∷ first)) (one (acknowledges version command.act)) (acks_of version (first ++ later))
    (acks_of version first) (acks_of version later) (acks-cons version command (first ++ later)) (acks-cons version command first) (acks-append version first later)

at_most : (all m w : ℕ) → all ≡ m + w → all ≤ m + w
at_most all m w h = omega (arith, h)

in_its_place : (all both m e w : ℕ) → all ≡ m + w → both ≡ e + w → all ≤ m + both
in_its_place all both m e w h k = omega (arith, h, k)

behind_it : (all both m e w i : ℕ) → all ≡ e + i → both ≡ e + w → i ≤ m + w → all ≤ m + both
behind_it all both m e w i h k l = omega (arith, h, k, l)

waiting-inserted : (version : Version) (id : ℕ) (more : Version) (entry : ℕ × Version) (asked : List (ℕ × Version)) (order : Ordering)
    → waiting_for version (insert_entry nat_cmp asked id more) ≤ one (is_version version more) + waiting_for version asked
    → waiting_for version (match_ordering order ((id, more) ∷ entry ∷ asked) ((entry.0, more) ∷ asked) (entry ∷ insert_entry nat_cmp asked id more))
    ≤ one (is_version version more) + waiting_for version (entry ∷ asked)
waiting-inserted version id more entry asked Less h =
    at_most (waiting_for version ((id, more) ∷ entry ∷ asked)) (one (is_version version more)) (waiting_for version (entry ∷ asked))
    (waiting-cons version (id, more) (entry ∷ asked))
waiting-inserted version id more entry asked Equal h =
    in_its_place (waiting_for version ((entry.0, more) ∷ asked)) (waiting_for version (entry ∷ asked)) (one (is_version version more)) (one (is_version version entry.1))
    (waiting_for version asked) (waiting-cons version (entry.0, more) asked) (waiting-cons version entry asked)
waiting-inserted version id more entry asked Greater h =
    let inserted = insert_entry nat_cmp asked id more in
    behind_it (waiting_for version (entry ∷ inserted)) (waiting_for version (entry ∷ asked)) (one (is_version version more)) (one (is_version version entry.1))
    (waiting_for version asked) (waiting_for version inserted) (waiting-cons version entry inserted) (waiting-cons version entry asked) h

waiting-insert : (version : Version) (asked : List (ℕ × Version)) (id : ℕ) (more : Version)
    → waiting_for version (insert_entry nat_cmp asked id more) ≤ one (is_version version more) + waiting_for version asked
waiting-insert version [] id more = at_most (waiting_for version ((id, more) ∷ [])) (one (is_version version more)) (waiting_for version []) (waiting-cons version (id, more) [])
waiting-insert version (entry ∷ asked) id more =
    waiting-inserted version id more entry asked (nat_cmp id entry.0) (waiting-insert version asked id more)

turned_round : (both e w : ℕ) → both ≡ e + w → w + e ≡ both
turned_round both e w h = omega (arith, h)

gone_on : (all both e r t w : ℕ) → all ≡ e + r → both ≡ e + w → r + t ≡ w → all + t ≡ both
gone_on all both e r t w h k l = omega (arith, h, k, l)

waiting-removed : (version : Version) (test : ℕ → Bool) (entry : ℕ × Version) (asked : List (ℕ × Version)) (here : Bool)
    → waiting_for version (remove_entry test asked) + one (is_told version (lookup test asked)) ≡ waiting_for version asked
    → waiting_for version (cond here asked (entry ∷ remove_entry test asked)) + one (is_told version (cond here (Some entry.1) (lookup test asked)))
    ≡ waiting_for version (entry ∷ asked)
waiting-removed version test entry asked true h =
    turned_round (waiting_for version (entry ∷ asked)) (one (is_version version entry.1)) (waiting_for version asked) (waiting-cons version entry asked)
waiting-removed version test entry asked false h =
    gone_on (waiting_for version (entry ∷ remove_entry test asked)) (waiting_for version (entry ∷ asked)) (one (is_version version entry.1))
    (waiting_for version (remove_entry test asked)) (one (is_told version (lookup test asked))) (waiting_for version asked)
    (waiting-cons version entry (remove_entry test asked)) (waiting-cons version entry asked) h

waiting-remove : (version : Version) (test : ℕ → Bool) (asked : List (ℕ × Version))
    → waiting_for version (remove_entry test asked) + one (is_told version (lookup test asked)) ≡ waiting_for version asked
waiting-remove version test [] = omega arith
waiting-remove version test (entry ∷ asked) = waiting-removed version test entry asked (test entry.0) (waiting-remove version test asked)

acks_answered : (version : Version) (had : Option Version) (answer : Answered) → acks_of version (answer_asks had answer) ≤ one (is_told version had)
acks_answered version None answer = omega arith
acks_answered version (Some had) (Chunk text offset) = omega arith
acks_answered version (Some had) (Edited rev group) = omega arith
acks_answered version (Some had) (Lines n) = omega arith
acks_answered version (Some had) Null = omega arith
acks_answered version (Some had) (Failed code message) = omega arith
acks_answered version (Some had) Other = omega arith

acks_read : (version : Version) (state : TodoState) (told : Version) (some : Bool)
    → acks_of version (read_step state told some).asks + waiting_for version (read_step state told some).after.asked
    ≤ one (is_version version told) + waiting_for version state.asked
acks_read version state told true = omega (arith, waiting-insert version state.asked state.next told)
acks_read version state told false = omega arith

acks_told : (version : Version) (state : TodoState) (told : Option Version)
    → acks_of version (reads state told).asks + waiting_for version (reads state told).after.asked ≤ one (is_told version told) + waiting_for version state.asked
acks_told version state None = omega arith
acks_told version state (Some told) = acks_read version state told (nat_lt state.next (2 ^ 64 - 1))

acks_settled : (version : Version) (state : TodoState) (id : Option ℕ) (answer : Answered)
    → acks_of version (settles state id answer).asks + waiting_for version (settles state id answer).after.asked ≤ waiting_for version state.asked
acks_settled version state None answer = omega arith
acks_settled version state (Some id) answer =
    omega (arith, acks_answered version (asked_at state.asked id) answer, waiting-remove version (is_at (nat_cmp id)) state.asked)

acks_step : (version : Version) (state : TodoState) (heard : Heard)
    → acks_of version (todo_step state heard).asks + waiting_for version (todo_step state heard).after.asked
    ≤ one (tells_of version heard) + waiting_for version state.asked
acks_step version state (Hears.Told told) = acks_told version state (told_version told)
acks_step version state (Hears.Answer id answer) = omega (arith, acks_settled version state (number_of id) answer)
acks_step version state Hears.Nothing = omega arith

one_line_more : (all a b now after told tellings more before : ℕ) → all ≡ a + b → tellings ≡ told + more → a + now ≤ told + before → b + after ≤ more + now
    → all + after ≤ tellings + before
one_line_more all a b now after told tellings more before h k l m = omega (arith, h, k, l, m)

pub acks_are_told : AcksAreTold
acks_are_told state [] version = omega arith
acks_are_told state (line ∷ lines) version =
    let first = todo_step state (heard_in line) in
    let rest = todo_turn first.after lines in
    one_line_more (acks_of version (first.asks ++ rest.asks)) (acks_of version first.asks) (acks_of version rest.asks) (waiting_for version first.after.asked)
    (waiting_for version rest.after.asked) (one (tells_of version (heard_in line))) (tellings_of version (line ∷ lines)) (tellings_of version lines)
    (waiting_for version state.asked) (acks-append version first.asks rest.asks) (tellings-cons version line lines) (acks_step version state (heard_in line)) (acks_are_told first.after lines version)

-- ---- acknowledgements stand behind their spans

behind_read : (state : TodoState) (version : Version) (some : Bool) (later : List Command) → AreBehind None later → AreBehind None ((read_step state version some).asks ++ later)
behind_read state version true later h = (tt, h)
behind_read state version false later h = h

behind_told : (state : TodoState) (version : Option Version) (later : List Command) → AreBehind None later → AreBehind None ((reads state version).asks ++ later)
behind_told state None later h = h
behind_told state (Some version) later h = behind_read state version (nat_lt state.next (2 ^ 64 - 1)) later h

behind_answered : (version : Option Version) (answer : Answered) (later : List Command) → AreBehind None later → AreBehind None (answer_asks version answer ++ later)
behind_answered None answer later h = h
behind_answered (Some version) (Chunk text offset) later h = (tt, (refl, h))
behind_answered (Some version) (Edited rev group) later h = h
behind_answered (Some version) (Lines n) later h = h
behind_answered (Some version) Null later h = h
behind_answered (Some version) (Failed code message) later h = h
behind_answered (Some version) Other later h = h

behind_settled : (state : TodoState) (id : Option ℕ) (answer : Answered) (later : List Command) → AreBehind None later → AreBehind None ((settles state id answer).asks ++ later)
behind_settled state None answer later h = h
behind_settled state (Some id) answer later h = behind_answered (asked_at state.asked id) answer later h

behind_step : (state : TodoState) (heard : Heard) (later : List Command) → AreBehind None later → AreBehind None ((todo_step state heard).asks ++ later)
behind_step state (Hears.Told told) later h = behind_told state (told_version told) later h
behind_step state (Hears.Answer id answer) later h = behind_settled state (number_of id) answer later h
behind_step state Hears.Nothing later h = h

pub acks_follow_spans : AcksFollowSpans
acks_follow_spans state [] = tt
acks_follow_spans state (line ∷ lines) =
    let first = todo_step state (heard_in line) in
    behind_step state (heard_in line) (todo_turn first.after lines).asks (acks_follow_spans first.after lines)

-- ---- edits fit

start_is_place : (text : List ℕ) → is_place text 0 ≡ true
start_is_place [] = refl
start_is_place (c ∷ text) = refl

end_is_place : (text : List ℕ) → is_place text (byte_len text) ≡ true
end_is_place text = ap (λ t. is_place t (byte_len text)) (sym (append-nil text)) ∙ ap is_some (gap_from-seam 0 text [])

copy_fits : (text : List ℕ) → copy_misfit text 0 0 (byte_len text) ≡ None
copy_fits text =
    let low : (nat_lt (byte_len text) 0 || nat_lt 0 0) ≡ false = ap (λ b. b || nat_lt 0 0) (le-ltb (byte_len text) 0 (omega arith)) in
    cond-false _ _ _ low ∙ cond-false _ _ _ (le-ltb (byte_len text) (byte_len text) (omega arith)) ∙ cond-false _ _ _ (ap not (start_is_place text))
    ∙ cond-false _ _ _ (ap not (end_is_place text))

pub delta_fits : (text : List ℕ) (len : ℕ) → len ≡ byte_len text → Fits text (storm_delta len)
delta_fits text len is =
    subst (λ n. misfit_of text (storm_delta n) ≡ None) (sym is)
    (cond-true _ _ _ (eq-eqb (byte_len text) (byte_len text) refl) ∙ ap (λ o. or_later o None) (copy_fits text))

first_is : (texts : Version → List ℕ) (first : Option SizedVersion) (now : SizedVersion) → IfSome first (IsLengthIn texts) → IsLengthIn texts now
    → IsLengthIn texts (first_of first now)
first_is texts None now h k = k
first_is texts (Some first) now h k = h

-- what a change makes the plugin ask, where it passes or not
abbrev count_step : StormState → SizedVersion → Bool → Upshot StormState
count_step state now quiet =
    if quiet
    then passed (record { count = state.count + 1; first = Some (first_of state.first now) })
    else record { after = storm_start; asks = edit_ask (first_of state.first now) ∷ ack_ask now.version ∷ [] }

-- what a step comes to where lengths are so
abbrev FitsAfter : (Version → List ℕ) → Upshot StormState → Type 0
FitsAfter texts step = IfSome step.after.first (IsLengthIn texts) × AllByRecursion (λ command. FitsIn texts command.act) step.asks

fits_counted : (texts : Version → List ℕ) (state : StormState) (now : SizedVersion) (quiet : Bool) → IfSome state.first (IsLengthIn texts) → IsLengthIn texts now
    → FitsAfter texts (count_step state now quiet)
fits_counted texts state now true h k = (first_is texts state.first now h k, tt)
fits_counted texts state now false h k =
    let first = first_of state.first now in
    (tt, (delta_fits (texts first.version) first.len (first_is texts state.first now h k), (tt, tt)))

fits_told : (texts : Version → List ℕ) (state : StormState) (change : Option SizedVersion) → IfSome state.first (IsLengthIn texts) → IfSome change (IsLengthIn texts)
    → FitsAfter texts (counts state change)
fits_told texts state None h k = (h, tt)
fits_told texts state (Some now) h k = fits_counted texts state now (nat_lt state.count quiet_changes) h k

fits_step : (texts : Version → List ℕ) (state : StormState) (heard : Heard) → IfSome state.first (IsLengthIn texts) → IfSome (heard_change heard) (IsLengthIn texts)
    → FitsAfter texts (storm_step state heard)
fits_step texts state (Hears.Told told) h k = fits_told texts state (told_change told) h k
fits_step texts state (Hears.Answer id answer) h k = (h, tt)
fits_step texts state Hears.Nothing h k = (h, tt)

pub edits_fit : EditsFit
edits_fit texts state [] h tell = (h, tt)
edits_fit texts state (line ∷ lines) h tell =
    let first = storm_step state (heard_in line) in
    let now = fits_step texts state (heard_in line) h tell.0 in
    let rest = edits_fit texts first.after lines now.0 tell.1 in
    (rest.0, all_append (λ command. FitsIn texts command.act) first.asks (storm_turn first.after lines).asks now.1 rest.1)
