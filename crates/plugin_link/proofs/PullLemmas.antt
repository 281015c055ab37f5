-- Lemmas on bytes that are pushed and pulled, and on the lines among them.
use Rattle.std.proofs.Common.{◌≡◌, ◌≢◌, ℕ, zero, suc, Bool, ◌+◌, ◌-◌, ◌<◌, ◌≤◌, inl, true, false, List, [], ◌∷◌, ◌++◌, length, take, drop, Some, None, Result, Ok, Err, refl, ap, sym, subst, ◌∙◌, append_assoc, append-nil, arith, length-drop, take_all, get_or}
use Rattle.std.specs.Prelude.{if◌then◌else◌, ◌==◌}
use Rattle.std.specs.Result.{IsErrAnd}
use Rattle.std.specs.List.{AllByRecursion}
use Rattle.std.specs.Str.{encode_utf8_all, IsUtf8}
use Rattle.std.proofs.lemmas.Bool.Decides.{nat_tests}
use Rattle.std.proofs.lemmas.List.{take-append-drop, drop-append-le, length-take-le}
use Rattle.std.proofs.Math.Seq.{take-nil}
use Rattle.plain_text.proofs.callers.TextLemmas.{is_empty-encodes}
use Rattle.memchr.specs.Find.{Nowhere, Passes, is_byte}
use Rattle.outside.specs.Source.{filled}
use Rattle.outside.specs.Faults.{Rose}
use Rattle.outside.proofs.ForCallers.{Rose-earlier}
use Rattle.plugin_link.specs.Turns.{HasNoLf, lined, framed, utf8_of}
use Rattle.plugin_link.specs.Link.{LinkTold, Pulls, Pushes}
use Rattle.plugin_link.specs.Cut.{HasLfAt}
use Rattle.plugin_link.specs.Pushing.{IsPartly}
use Rattle.plugin_link.specs.Pulling.{line_limit, IsTooLong, IsNotText, StopsBy, NextBy, Comes, TextBy, IsShortLine, HasLines, Reads, lines_limit, end_of}
use Rattle.plugin_link.specs.declared.link_end.LinkEnd.{LinkEnd}
use Rattle.plugin_link.specs.declared.link_end.LinkEnd.TheVariants.{Ended, PullFailed, PushFailed, TooLong, TooMany, NotText, NoMemory}
use Rattle.plugin_link.proofs.CallLemmas.{Pulls-append, Pushes-append, partly_later}
use Rattle.plugin_link.proofs.TurnLemmas.{framed-next}

-- ---- where a search finds the LF

is_lf : (b : ℕ) → (b == 10) ≡ true → b ≡ 10
is_lf b is = grind (arith, nat_tests)

lf_is : (b : ℕ) → b ≡ 10 → (b == 10) ≡ true
lf_is b is = grind (arith, nat_tests)

pub none_found : (hay : List ℕ) → Nowhere (Passes (is_byte 10) hay) 0 (length hay) → HasNoLf hay
none_found [] none = tt
none_found (b ∷ hay) none =
    (λ is. none 0 (omega arith) (omega arith) (lf_is b is), none_found hay (λ k low high. none (suc k) (omega arith) (omega (arith, high))))

next_lf : (b : ℕ) (bytes : List ℕ) (at : ℕ) → b ≢ 10 → HasLfAt bytes at → HasLfAt (b ∷ bytes) (suc at)
next_lf b bytes at differs has =
    let less : suc (at + 1) ≡ suc at + 1 = omega arith in
    let inside = has.inside in
    record {
      inside = omega (arith, inside);
      no_lf = (differs, has.no_lf);
      parts = ap (λ rest. b ∷ rest) has.parts ∙ ap (λ n. (b ∷ take at bytes) ++ 10 ∷ drop n (b ∷ bytes)) less;
    }

pub lf_found : (hay : List ℕ) (at : ℕ) → at < length hay → Nowhere (Passes (is_byte 10) hay) 0 at → Passes (is_byte 10) hay at → HasLfAt hay at
lf_found [] at within none here = absurd (omega (arith, within))
lf_found (b ∷ hay) zero within none here = record { inside = omega arith; no_lf = tt; parts = ap (λ c. c ∷ hay) (is_lf b here) }
lf_found (b ∷ hay) (suc at) within none here =
    next_lf b hay at (λ is. none 0 (omega arith) (omega arith) (lf_is b is))
    (lf_found hay at (omega (arith, within)) (λ k low high. none (suc k) (omega arith) (omega (arith, high))) here)

-- and where it began behind bytes without one
pub later_lf : (bytes : List ℕ) (seen at : ℕ) → seen ≤ length bytes → HasNoLf (take seen bytes) → HasLfAt (drop seen bytes) at → HasLfAt bytes (seen + at)
later_lf bytes zero at inside none has = let same : at ≡ zero + at = omega arith in subst (HasLfAt bytes) same has
later_lf [] (suc seen) at inside none has = absurd (omega (arith, inside))
later_lf (b ∷ bytes) (suc seen) at inside none has =
    let same : suc (seen + at) ≡ suc seen + at = omega arith in
    subst (HasLfAt (b ∷ bytes)) same (next_lf b bytes (seen + at) none.0 (later_lf bytes seen at (omega (arith, inside)) none.1 has))

pub later_none : (bytes : List ℕ) (seen : ℕ) → HasNoLf (take seen bytes) → HasNoLf (drop seen bytes) → HasNoLf bytes
later_none bytes zero front back = back
later_none [] (suc seen) front back = tt
later_none (b ∷ bytes) (suc seen) front back = (front.0, later_none bytes seen front.1 back)

-- ---- parts of a piece

take-plus : (m n : ℕ) (xs : List ℕ) → take (m + n) xs ≡ take m xs ++ take n (drop m xs)
take-plus zero n xs = let same : zero + n ≡ n = omega arith in ap (λ k. take k xs) same
take-plus (suc m) n [] = take-nil (suc m + n) ∙ sym (take-nil n)
take-plus (suc m) n (x ∷ xs) =
    let less : suc m + n ≡ suc (m + n) = omega arith in
    ap (λ k. take k (x ∷ xs)) less ∙ ap (λ rest. x ∷ rest) (take-plus m n xs)

take_rest : (m : ℕ) (xs : List ℕ) → take (length xs - m) (drop m xs) ≡ drop m xs
take_rest m xs = take_all (length xs - m) (drop m xs) (omega (arith, length-drop m xs))

take-plus_rest : (m n : ℕ) (xs : List ℕ) → take m xs ++ take n (take (length xs - m) (drop m xs)) ≡ take (m + n) xs
take-plus_rest m n xs = ap (λ rest. take m xs ++ take n rest) (take_rest m xs) ∙ sym (take-plus m n xs)

pub pushed_more : (a b c : LinkTold) (piece : List ℕ) (taken count : ℕ) → Pushes a b (take taken piece) →
    Pushes b c (take count (take (length piece - taken) (drop taken piece))) → Pushes a c (take (taken + count) piece)
pushed_more a b c piece taken count p q =
    subst (Pushes a c) (take-plus_rest taken count piece)
    (Pushes-append a b c (take taken piece) (take count (take (length piece - taken) (drop taken piece))) p q)

-- a push that failed before the end of the piece
pub stopped_within : (a b c : LinkTold) (piece : List ℕ) (taken : ℕ) → taken < length piece → Pushes a b (take taken piece) → Pushes b c [] →
    Rose b.faults c.faults → IsPartly a c piece
stopped_within a b c piece taken within p q rose =
    record {
      put = take taken piece;
      missing = drop taken piece;
      pushes = subst (Pushes a c) (append-nil (take taken piece)) (Pushes-append a b c (take taken piece) [] p q);
      parts = sym (take-append-drop taken piece);
      some = λ none. let empty = ap length none in absurd (omega (arith, within, empty, length-drop taken piece));
      rose = Rose-earlier a.faults b.faults c.faults p.faults rose;
    }

-- ---- the lines of a turn, pushed one after the other

drop-item : (xs : List (List ℕ)) (i : ℕ) (x : List ℕ) → i < length xs → x ≡ get_or xs i x → drop i xs ≡ x ∷ drop (i + 1) xs
drop-item [] i x below is = absurd (omega (arith, below))
drop-item (y ∷ xs) zero x below is = ap (λ z. z ∷ xs) (sym is)
drop-item (y ∷ xs) (suc i) x below is =
    let less : suc (i + 1) ≡ suc i + 1 = omega arith in
    drop-item xs i x (omega (arith, below)) is ∙ ap (λ n. x ∷ drop n (y ∷ xs)) less

framed-item : (whole put bytes text : List ℕ) (texts : List (List ℕ)) (i : ℕ) → whole ≡ put ++ framed (utf8_of (drop i texts)) → i < length texts →
    text ≡ get_or texts i text → bytes ≡ encode_utf8_all text →
    whole ≡ put ++ ((bytes ++ 10 ∷ []) ++ framed (utf8_of (drop (i + 1) texts)))
framed-item whole put bytes text texts i is below item same =
    is ∙ ap (λ rest. put ++ framed (utf8_of rest)) (drop-item texts i text below item) ∙
    ap (λ rest. put ++ rest) (framed-next (encode_utf8_all text) (utf8_of (drop (i + 1) texts))) ∙
    ap (λ line. put ++ ((line ++ 10 ∷ []) ++ framed (utf8_of (drop (i + 1) texts)))) (sym same)

pub pushed_line : (a b c : LinkTold) (whole put bytes text : List ℕ) (texts : List (List ℕ)) (i : ℕ) → Pushes a b put →
    whole ≡ put ++ framed (utf8_of (drop i texts)) → i < length texts → text ≡ get_or texts i text → bytes ≡ encode_utf8_all text →
    Pushes b c (bytes ++ 10 ∷ []) → (x : List ℕ) × Pushes a c x × (whole ≡ x ++ framed (utf8_of (drop (i + 1) texts)))
pushed_line a b c whole put bytes text texts i p is below item same q = (
  put ++ (bytes ++ 10 ∷ []),
  Pushes-append a b c put (bytes ++ 10 ∷ []) p q,
  framed-item whole put bytes text texts i is below item same ∙
      sym (append_assoc put (bytes ++ 10 ∷ []) (framed (utf8_of (drop (i + 1) texts)))),
)

append_some : (xs ys : List ℕ) → xs ≢ [] → (xs ++ ys) ≢ []
append_some [] ys some = λ is. some refl
append_some (x ∷ xs) ys some = λ is. absurd cc

pub cut_line : (a b c : LinkTold) (whole put bytes text : List ℕ) (texts : List (List ℕ)) (i : ℕ) → Pushes a b put →
    whole ≡ put ++ framed (utf8_of (drop i texts)) → i < length texts → text ≡ get_or texts i text → bytes ≡ encode_utf8_all text →
    IsPartly b c (bytes ++ 10 ∷ []) → IsPartly a c whole
cut_line a b c whole put bytes text texts i p is below item same q =
    let later = framed (utf8_of (drop (i + 1) texts)) in
    let longer : IsPartly b c ((bytes ++ 10 ∷ []) ++ later) =
    record {
      put = q.put;
      missing = q.missing ++ later;
      pushes = q.pushes;
      parts = ap (λ first. first ++ later) q.parts ∙ append_assoc q.put q.missing later;
      some = append_some q.missing later q.some;
      rose = q.rose;
    }
    in
    partly_later a b c whole put ((bytes ++ 10 ∷ []) ++ later) (framed-item whole put bytes text texts i is below item same) p longer

-- ---- a buffer that is filled in a part

drop-take : (buf : List ℕ) (room n : ℕ) → n ≤ room → room ≤ length buf → drop n (take room buf) ++ drop room buf ≡ drop n buf
drop-take buf room n within fits =
    let fit : n ≤ length (take room buf) = simp length-take-le (omega arith) in
    sym (drop-append-le n (take room buf) (drop room buf) fit) ∙ ap (drop n) (take-append-drop room buf)

pub filled-take : (buf bytes : List ℕ) (room n : ℕ) → n ≤ room → room ≤ length buf → filled (take room buf) bytes n ++ drop room buf ≡ filled buf bytes n
filled-take buf bytes room n within fits =
    append_assoc (take n bytes) (drop n (take room buf)) (drop room buf) ∙ ap (λ rest. take n bytes ++ rest) (drop-take buf room n within fits)

-- ---- the next line

too_long : (all : List ℕ) (at : ℕ) → HasLfAt all at → line_limit ≤ length (take at all) → IsTooLong all
too_long all at has long =
    record { front = take at all; more = 10 ∷ drop (at + 1) all; parts = has.parts; no_lf = has.no_lf; long = long }

not_text : (all : List ℕ) (at : ℕ) → HasLfAt all at → (length (take at all) < line_limit) × ¬ IsUtf8 (take at all) → IsNotText all
not_text all at has by =
    record { line = take at all; more = drop (at + 1) all; parts = has.parts; no_lf = has.no_lf; short = by.0; not_text = by.1 }

pub line_refused : (end : LinkEnd) (all after : List ℕ) (at : ℕ) → HasLfAt all at → TextBy (Err end) (take at all) → NextBy (Err end) all after
line_refused TooLong all after at has by = too_long all at has by
line_refused NotText all after at has by = not_text all at has by
line_refused NoMemory all after at has by = tt
line_refused Ended all after at has by = absurd by
line_refused PullFailed all after at has by = absurd by
line_refused PushFailed all after at has by = absurd by
line_refused TooMany all after at has by = absurd by

-- ---- the lines of a turn, pulled one after the other

has_more : (a b c : LinkTold) (before kept more : List ℕ) (given : List (List ℕ)) → HasLines a b before kept given → Pulls b c more →
    HasLines a c before (kept ++ more) given
has_more a b c before kept more given has next =
    record {
      got = has.got ++ more;
      pulls = Pulls-append a b c has.got more has.pulls next;
      lines = has.lines;
      parts =
          sym (append_assoc before has.got more) ∙ ap (λ bytes. bytes ++ more) has.parts ∙ append_assoc (lined given) kept more;
    }

lined-push : (given : List (List ℕ)) (line after : List ℕ) → lined given ++ (line ++ 10 ∷ after) ≡ lined (given ++ line ∷ []) ++ after
lined-push [] line after =
    sym (append_assoc line (10 ∷ []) after) ∙ ap (λ first. first ++ after) (sym (append-nil (line ++ 10 ∷ [])))
lined-push (first ∷ given) line after =
    append_assoc (first ++ 10 ∷ []) (lined given) (line ++ 10 ∷ after) ∙
    ap (λ rest. (first ++ 10 ∷ []) ++ rest) (lined-push given line after) ∙
    sym (append_assoc (first ++ 10 ∷ []) (lined (given ++ line ∷ [])) after)

push_each : (given : List (List ℕ)) (line : List ℕ) → AllByRecursion IsShortLine given → IsShortLine line → AllByRecursion IsShortLine (given ++ line ∷ [])
push_each [] line each is = (is, tt)
push_each (first ∷ given) line each is = (each.0, push_each given line each.1 is)

utf8_of-push : (texts : List (List ℕ)) (text : List ℕ) → utf8_of (texts ++ text ∷ []) ≡ utf8_of texts ++ encode_utf8_all text ∷ []
utf8_of-push [] text = refl
utf8_of-push (first ∷ texts) text = ap (λ rest. encode_utf8_all first ∷ rest) (utf8_of-push texts text)

length-utf8_of : (texts : List (List ℕ)) → length (utf8_of texts) ≡ length texts
length-utf8_of [] = refl
length-utf8_of (first ∷ texts) = ap suc (length-utf8_of texts)

some_bytes : (text : List ℕ) → text ≢ [] → encode_utf8_all text ≢ []
some_bytes text some = λ none. some (is_empty-encodes text (ap length none))

pub has_line : (a b c : LinkTold) (before kept after : List ℕ) (texts longer : List (List ℕ)) (text : List ℕ) → HasLines a b before kept (utf8_of texts) →
    Comes b c kept after (Ok text) → text ≢ [] → longer ≡ texts ++ text ∷ [] → HasLines a c before after (utf8_of longer)
has_line a b c before kept after texts longer text has comes some pushed =
    let given = utf8_of texts in
    let line = encode_utf8_all text in
    let more = has_more a b c before kept comes.got given has comes.pulls in
    subst (HasLines a c before after) (sym (ap utf8_of pushed ∙ utf8_of-push texts text))
    (record {
      got = more.got;
      pulls = more.pulls;
      lines = push_each given line has.lines ((some_bytes text some, comes.by.no_lf), comes.by.short);
      parts = more.parts ∙ ap (λ rest. lined given ++ rest) comes.by.parts ∙ lined-push given line after;
    })

pub reads_turn : (a b c : LinkTold) (before kept after : List ℕ) (texts : List (List ℕ)) (text : List ℕ) (count : ℕ) →
    HasLines a b before kept (utf8_of texts) → Comes b c kept after (Ok text) → text ≡ [] → length texts ≡ count → count < lines_limit →
    Reads a c before after (utf8_of texts) None
reads_turn a b c before kept after texts text count has comes none counted few =
    record {
      rest = kept ++ comes.got;
      has = has_more a b c before kept comes.got (utf8_of texts) has comes.pulls;
      by = (
        comes.by.parts ∙ ap (λ line. encode_utf8_all line ++ 10 ∷ after) none,
        omega (arith, few, counted, length-utf8_of texts),
      );
    }

stops_earlier : (end : LinkEnd) (a b c : LinkTold) (rest : List ℕ) → a.faults ≤ b.faults → StopsBy end b c rest → StopsBy end a c rest
stops_earlier Ended a b c rest stays by = by
stops_earlier PullFailed a b c rest stays by = (Rose-earlier a.faults b.faults c.faults stays by.0, by.1)
stops_earlier TooLong a b c rest stays by = by
stops_earlier NotText a b c rest stays by = by
stops_earlier NoMemory a b c rest stays by = tt
stops_earlier PushFailed a b c rest stays by = absurd by
stops_earlier TooMany a b c rest stays by = absurd by

pub reads_stopped : (end : LinkEnd) (a b c : LinkTold) (before kept after : List ℕ) (texts : List (List ℕ)) (count : ℕ) →
    HasLines a b before kept (utf8_of texts) → Comes b c kept after (Err end) → length texts ≡ count → count < lines_limit →
    Reads a c before after (utf8_of texts) (Some end)
reads_stopped end a b c before kept after texts count has comes counted few =
    record {
      rest = kept ++ comes.got;
      has = has_more a b c before kept comes.got (utf8_of texts) has comes.pulls;
      by = inl (
        stops_earlier end a b c (kept ++ comes.got) has.pulls.faults comes.by,
        omega (arith, few, counted, length-utf8_of texts),
      );
    }

pub reads_no_memory : (a b c : LinkTold) (before kept after : List ℕ) (texts same : List (List ℕ)) (outcome : Result (List ℕ) LinkEnd) (count : ℕ) →
    HasLines a b before kept (utf8_of texts) → Comes b c kept after outcome → same ≡ texts → length texts ≡ count → count < lines_limit →
    Reads a c before after (utf8_of same) (Some NoMemory)
reads_no_memory a b c before kept after texts same outcome count has comes is counted few =
    subst (λ lines. Reads a c before after (utf8_of lines) (Some NoMemory)) (sym is)
    (record {
      rest = kept ++ comes.got;
      has = has_more a b c before kept comes.got (utf8_of texts) has comes.pulls;
      by = inl (tt, omega (arith, few, counted, length-utf8_of texts));
    })

-- how the pulling ended where `?` handed on why
pub failed_end : (outcome : Result (Unit {0}) LinkEnd) (end : LinkEnd) → IsErrAnd outcome (λ e. e ≡ end) → end_of outcome ≡ Some end
failed_end (Ok one) end is = absurd is
failed_end (Err other) end is = ap Some is

-- ---- bytes that were pulled behind others

take_within : (m n : ℕ) (xs : List ℕ) → m ≤ n → take m (take n xs) ≡ take m xs
take_within zero n xs within = refl
take_within (suc m) zero xs within = absurd (omega (arith, within))
take_within (suc m) (suc n) [] within = refl
take_within (suc m) (suc n) (x ∷ xs) within = ap (λ rest. x ∷ rest) (take_within m n xs (omega (arith, within)))

take_past : (xs ys : List ℕ) (n : ℕ) → take (length xs + n) (xs ++ ys) ≡ xs ++ take n ys
take_past [] ys n = let same : zero + n ≡ n = omega arith in ap (λ k. take k ys) same
take_past (x ∷ xs) ys n =
    let less : suc (length xs) + n ≡ suc (length xs + n) = omega arith in
    ap (λ k. take k (x ∷ (xs ++ ys))) less ∙ ap (λ rest. x ∷ rest) (take_past xs ys n)

take_first : (n : ℕ) (xs ys : List ℕ) → n ≤ length xs → take n (xs ++ ys) ≡ take n xs
take_first zero xs ys within = refl
take_first (suc n) [] ys within = absurd (omega (arith, within))
take_first (suc n) (x ∷ xs) ys within = ap (λ rest. x ∷ rest) (take_first n xs ys (omega (arith, within)))

pub got_behind : (old all buf post tail : List ℕ) (len count total : ℕ) → take len all ≡ old → len ≡ length old → count ≤ length buf →
    len + count ≤ total → take (len + count) (take total ((take len all ++ (buf ++ post)) ++ tail)) ≡ old ++ take count buf
got_behind old all buf post tail len count total front long fits room =
    take_within (len + count) total ((take len all ++ (buf ++ post)) ++ tail) room ∙
    ap (take (len + count)) (append_assoc (take len all) (buf ++ post) tail ∙ ap (λ first. first ++ ((buf ++ post) ++ tail)) front) ∙
    ap (λ n. take (n + count) (old ++ ((buf ++ post) ++ tail))) long ∙ take_past old ((buf ++ post) ++ tail) count ∙
    ap (λ rest. old ++ rest) (ap (take count) (append_assoc buf post tail) ∙ take_first count buf (post ++ tail) fits)

take_front : (xs ys : List ℕ) → take (length xs) (xs ++ ys) ≡ xs
take_front [] ys = refl
take_front (x ∷ xs) ys = ap (λ rest. x ∷ rest) (take_front xs ys)

-- what room was made behind stands in front
pub room_behind : (made : Bool) (old zeros new : List ℕ) (len more : ℕ) → new ≡ (if made then take more old ++ zeros else old) → len ≡ length old →
    len ≤ more → take len new ≡ old
room_behind true old zeros new len more is long within =
    let fits : length old ≤ more = omega (arith, long, within) in
    ap (take len) is ∙ ap (λ n. take n (take more old ++ zeros)) long ∙ ap (λ first. take (length old) (first ++ zeros)) (take_all more old fits) ∙
    take_front old zeros
room_behind false old zeros new len more is long within = ap (take len) is ∙ take_all len old (omega (arith, long))

pub some_taken : (count : ℕ) (buf : List ℕ) → 0 < count → count ≤ length buf → 0 < length (take count buf)
some_taken zero buf some within = absurd (omega (arith, some))
some_taken (suc count) [] some within = absurd (omega (arith, within))
some_taken (suc count) (b ∷ buf) some within = omega arith
