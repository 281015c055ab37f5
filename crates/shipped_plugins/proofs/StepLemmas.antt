-- What single functions need: a read that is kept, the spans of a chunk as the core takes them, and lists that are as before.
use Rattle.std.proofs.Common.{◌≡◌, ℕ, ◌+◌, ◌-◌, ◌<◌, ◌≤◌, ◌^◌, List, [], ◌∷◌, ◌++◌, length, length-append, map, take, Option, Some, None, Result, Ok, Err, OnErr, nat_cmp, refl, sym, ap, subst, ◌∙◌, arith}
use Rattle.std.specs.Option.{option_to_list}
use Rattle.std.proofs.Common.{false}
use Rattle.std.specs.List.{AllByRecursion}
use Rattle.std.specs.Str.{encode_utf8_all}
use Rattle.std.specs.BTreeMap.{insert_entry}
use Rattle.std.proofs.lemmas.Bool.{cond-true, lt-ltb}
use Rattle.std.proofs.lemmas.List.{take_at}
use Rattle.plain_text.specs.Text.{byte_len}
use Rattle.plain_text.specs.declared.run.Run.{Run}
use Rattle.plain_text.proofs.callers.TextLemmas.{length-encodes}
use Rattle.xi_plain.specs.declared.command.Id.TheVariants.{NoId}
use Rattle.xi_plain.specs.declared.command.Act.TheVariants.{UpdateSpans}
use Rattle.xi_plain.specs.declared.command.Command.{Command}
use Rattle.xi_plain.specs.declared.span.WireSpan.{WireSpan}
use Rattle.find_core.proofs.ForCallers.{matches_of-inside}
use Rattle.plugin_side.specs.Range.{IsTakenSpan, IsTakenCommand}
use Rattle.shipped_plugins.specs.Turns.{Gives, Comes}
use Rattle.shipped_plugins.specs.Marks.{mark, marks_of, mark_span, spans_of}
use Rattle.shipped_plugins.specs.Todo.{Version, TodoState, read_ask, reads, spans_ask}

-- what holds at all holds at an error
pub on_err_any : {T E Q : Type 0} (r : Result T E) → Q → OnErr r Q
on_err_any (Ok x) q = tt
on_err_any (Err e) q = q

-- ---- a read that is kept

-- a read by the next id
pub Comes-read : (state : TodoState) (version : Version) (next : ℕ) (asked entries : List (ℕ × Version)) (command : Command) (from to : List (List ℕ))
    → record { next = next; asked = asked } ≡ state → state.next < 2 ^ 64 - 1 → command ≡ read_ask next version → entries ≡ insert_entry nat_cmp asked next version
    → Gives (command ∷ []) from to → Comes (reads state (Some version)) (record { next = next + 1; asked = entries }) from to
Comes-read state version next asked entries command from to is below asks puts gives =
    let after : TodoState = record { next = next + 1; asked = entries } in
    let low : next < 2 ^ 64 - 1 = subst (λ (s : TodoState). s.next < 2 ^ 64 - 1) (sym is) below in
    subst (λ s. Comes (reads s (Some version)) after from to) is
    (subst (λ step. Comes step after from to) (sym (cond-true _ _ _ (lt-ltb next (2 ^ 64 - 1) low)))
    (record { state = ap (λ es. record { next = next + 1; asked = es }) puts; gives = subst (λ c. Gives (c ∷ []) from to) asks gives }))

-- a line that was put at the end and taken off again
pub popped-back : (before after : List (List ℕ)) (line : List ℕ) (last : Option (List ℕ)) → before ++ line ∷ [] ≡ after ++ option_to_list last
    → (last ≡ None → before ++ line ∷ [] ≡ []) → after ≡ before
popped-back before after line None is none = absurd (omega (arith, ap length (none refl), length-append before (line ∷ [])))
popped-back before after line (Some last) is none =
    let long : length after ≡ length before = omega (arith, ap length is, length-append before (line ∷ []), length-append after (last ∷ [])) in
    sym (take_at after (last ∷ []) (length before) long) ∙ ap (take (length before)) (sym is) ∙ take_at before (line ∷ []) (length before) refl

-- ---- the spans of a chunk

pub spans_ask-is : (version : Version) (chunk view copied : List ℕ) (rev len : ℕ) (spans : List WireSpan) → record { view = view; rev = rev } ≡ version → copied ≡ view
    → len ≡ byte_len chunk → spans ≡ spans_of chunk → record { id = NoId; act = UpdateSpans copied rev 0 len spans } ≡ spans_ask version chunk
spans_ask-is version chunk view copied rev len spans is copies long made =
    (λ i. record { id = NoId; act = UpdateSpans (copies i) rev 0 (long i) (made i) }) ∙ ap (λ v. spans_ask v chunk) is

each_taken : (len long : ℕ) (runs : List Run) → long ≤ len → AllByRecursion (λ run. (run.start < run.end) × (run.end ≤ long)) runs
    → AllByRecursion (IsTakenSpan len) (map mark_span runs)
each_taken len long [] h all = tt
each_taken len long (run ∷ runs) h all = (
  record { ordered = omega (arith, all.0.0); within = omega (arith, h, all.0.1); weight = omega arith },
  each_taken len long runs h all.1,
)

pub IsTakenCommand-spans : (chunk copied : List ℕ) (rev len : ℕ) (spans : List WireSpan) → rev < 2 ^ 63 → len < 2 ^ 63 → len ≡ byte_len chunk → spans ≡ spans_of chunk
    → IsTakenCommand (record { id = NoId; act = UpdateSpans copied rev 0 len spans })
IsTakenCommand-spans chunk copied rev len spans below short long made =
    let inside : length (encode_utf8_all chunk) ≤ len = omega (arith, length-encodes chunk, long) in
    record {
      id = tt;
      act = (
        below,
        omega arith,
        short,
        subst (AllByRecursion (IsTakenSpan len)) (sym made)
            (each_taken len (length (encode_utf8_all chunk)) (marks_of chunk) inside (matches_of-inside (encode_utf8_all chunk) mark false)),
      );
    }
