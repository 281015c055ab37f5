-- Lines that are given, and lines that are heeded one after the other.
use Rattle.std.proofs.Common.{◌≡◌, ℕ, ◌+◌, suc, ◌<◌, ◌≤◌, List, [], ◌∷◌, ◌++◌, length, drop, get_or, refl, sym, ap, subst, ◌∙◌, append_assoc, append-nil, add-one}
use Rattle.std.proofs.Math.Seq.{drop-cons}
use Rattle.std.proofs.lemmas.List.{map-append, drop_all}
use Rattle.std.specs.List.{AllByRecursion}
use Rattle.std.specs.Str.{encode_utf8_all}
use Rattle.xi_plain.specs.declared.command.Command.{Command}
use Rattle.plugin_wire.specs.Asked.{ask_of}
use Rattle.plugin_side.specs.Asking.{turn_bytes}
use Rattle.plugin_side.specs.declared.heard.Heard.{Heard}
use Rattle.plugin_side.specs.Heard.{heard_in}
use Rattle.shipped_plugins.specs.Turns.{Upshot, utf8_of, command_lines, ReadsBack, Gives, GivesFirst, Comes, ComesFirst, heeded, HeedsAll, HeedsFirst}

-- ---- lines that are given

pub all_append : {A : Type 0} (P : A → Type 0) (xs ys : List A) → AllByRecursion P xs → AllByRecursion P ys → AllByRecursion P (xs ++ ys)
all_append P [] ys all each = each
all_append P (x ∷ xs) ys all each = (all.0, all_append P xs ys all.1 each)

pub Gives-none : (from : List (List ℕ)) → Gives [] from from
Gives-none from = record { put = sym (append-nil from); reads = tt }

pub Gives-one : (command : Command) (from to : List (List ℕ)) → to ≡ from ++ turn_bytes command ∷ [] → ReadsBack command → Gives (command ∷ []) from to
Gives-one command from to is back = record { put = is; reads = (back, tt) }

pub Gives-pushed : (command : Command) (line : List ℕ) (before after : List (List ℕ)) → encode_utf8_all line ≡ turn_bytes command → ask_of (encode_utf8_all line) ≡ command
    → after ≡ before ++ line ∷ []
    → Gives (command ∷ []) (utf8_of before) (utf8_of after)
Gives-pushed command line before after is back puts =
    Gives-one command (utf8_of before) (utf8_of after)
    (ap utf8_of puts ∙ map-append encode_utf8_all before (line ∷ []) ∙ ap (λ bytes. utf8_of before ++ bytes ∷ []) is)
    (sym (ap ask_of is) ∙ back)

-- ---- one after the other

pub Gives-then : (first later : List Command) (from between to : List (List ℕ)) → Gives first from between → Gives later between to → Gives (first ++ later) from to
Gives-then first later from between to h k = record {
  put =
      k.put ∙ ap (λ lines. lines ++ command_lines later) h.put ∙ append_assoc from (command_lines first) (command_lines later)
      ∙ ap (λ lines. from ++ lines) (sym (map-append turn_bytes first later));
  reads = all_append ReadsBack first later h.reads k.reads;
}

pub GivesFirst-none : (commands : List Command) (from : List (List ℕ)) → GivesFirst commands from from
GivesFirst-none commands from = record { said = []; unsaid = commands; parts = refl; gives = Gives-none from }

pub GivesFirst-all : (commands : List Command) (from to : List (List ℕ)) → Gives commands from to → GivesFirst commands from to
GivesFirst-all commands from to h = record { said = commands; unsaid = []; parts = sym (append-nil commands); gives = h }

pub GivesFirst-then : (first later : List Command) (from between to : List (List ℕ)) → Gives first from between → GivesFirst later between to → GivesFirst (first ++ later) from to
GivesFirst-then first later from between to h k = record {
  said = first ++ k.said;
  unsaid = k.unsaid;
  parts = ap (λ rest. first ++ rest) k.parts ∙ sym (append_assoc first k.said k.unsaid);
  gives = Gives-then first k.said from between to h k.gives;
}

pub GivesFirst-begun : (first later : List Command) (from to : List (List ℕ)) → Gives first from to → GivesFirst (first ++ later) from to
GivesFirst-begun first later from to h = GivesFirst-then first later from to to h (GivesFirst-none later to)

-- ---- lines that are heeded

module _ {S : Type 0} (step : S → Heard → Upshot S) where
  pub heeded-append-after : (state : S) (lines more : List (List ℕ)) → (heeded step state (lines ++ more)).after ≡ (heeded step (heeded step state lines).after more).after
  heeded-append-after state [] more = refl
  heeded-append-after state (line ∷ lines) more = heeded-append-after (step state (heard_in line)).after lines more

  pub heeded-append-asks : (state : S) (lines more : List (List ℕ)) →
      (heeded step state (lines ++ more)).asks ≡ (heeded step state lines).asks ++ (heeded step (heeded step state lines).after more).asks
  heeded-append-asks state [] more = refl
  heeded-append-asks state (line ∷ lines) more =
      let first = step state (heard_in line) in
      ap (λ asks. first.asks ++ asks) (heeded-append-asks first.after lines more)
      ∙ sym (append_assoc first.asks (heeded step first.after lines).asks (heeded step (heeded step first.after lines).after more).asks)

  -- the lines heeded so far, and the rest of them
  pub record HeededSoFar (start now : S) (lines : List (List ℕ)) (i : ℕ) (from to : List (List ℕ)) : Type 0 where
    pub front : List (List ℕ)
    pub parts : utf8_of lines ≡ front ++ utf8_of (drop i lines)
    pub heeds : HeedsAll step start now front from to

  pub HeededSoFar-start : (start : S) (lines from : List (List ℕ)) → HeededSoFar start start lines 0 from from
  HeededSoFar-start start lines from = record { front = []; parts = refl; heeds = record { state = refl; gives = Gives-none from } }

  -- one line more
  heeds_next : (start now after : S) (front : List (List ℕ)) (line : List ℕ) (from between to : List (List ℕ)) → HeedsAll step start now front from between
      → Comes (step now (heard_in line)) after between to → HeedsAll step start after (front ++ line ∷ []) from to
  heeds_next start now after front line from between to h k =
      let done = (heeded step start front).after in
      record {
        state = k.state ∙ ap (λ s. (step s (heard_in line)).after) h.state ∙ sym (heeded-append-after start front (line ∷ []));
        gives =
            subst (λ asks. Gives asks from to)
            (ap (λ s. (heeded step start front).asks ++ (step s (heard_in line)).asks) h.state
            ∙ ap (λ asks. (heeded step start front).asks ++ asks) (sym (append-nil (step done (heard_in line)).asks))
            ∙ sym (heeded-append-asks start front (line ∷ [])))
            (Gives-then (heeded step start front).asks (step now (heard_in line)).asks from between to h.gives k.gives);
      }

  left_now : (lines : List (List ℕ)) (i : ℕ) (line : List ℕ) → i < length lines → line ≡ get_or lines i line → drop i lines ≡ line ∷ drop (i + 1) lines
  left_now lines i line below is = drop-cons lines i line below ∙ ap (λ l. l ∷ drop (suc i) lines) (sym is) ∙ ap (λ j. line ∷ drop j lines) (sym (add-one i))

  pub HeededSoFar-next : (start now after : S) (lines : List (List ℕ)) (i : ℕ) (line : List ℕ) (from between to : List (List ℕ)) → HeededSoFar start now lines i from between
      → i < length lines → line ≡ get_or lines i line → Comes (step now (heard_in (encode_utf8_all line))) after between to → HeededSoFar start after lines (i + 1) from to
  HeededSoFar-next start now after lines i line from between to so below is comes = record {
    front = so.front ++ encode_utf8_all line ∷ [];
    parts =
        so.parts ∙ ap (λ rest. so.front ++ utf8_of rest) (left_now lines i line below is)
        ∙ sym (append_assoc so.front (encode_utf8_all line ∷ []) (utf8_of (drop (i + 1) lines)));
    heeds = heeds_next start now after so.front (encode_utf8_all line) from between to so.heeds comes;
  }

  pub HeededSoFar-end : (start now : S) (lines : List (List ℕ)) (i : ℕ) (from to : List (List ℕ)) → HeededSoFar start now lines i from to → length lines ≤ i
      → HeedsAll step start now (utf8_of lines) from to
  HeededSoFar-end start now lines i from to so end =
      let all : so.front ≡ utf8_of lines = sym (so.parts ∙ ap (λ rest. so.front ++ utf8_of rest) (drop_all i lines end) ∙ append-nil so.front) in
      subst (λ front. HeedsAll step start now front from to) all so.heeds

  -- ---- where memory was wanting

  pub HeedsFirst-none : (state : S) (lines from : List (List ℕ)) → HeedsFirst step state state lines from from
  HeedsFirst-none state lines from = record { front = []; back = lines; parts = refl; comes = record { state = refl; gives = GivesFirst-none [] from } }

  pub HeedsFirst-one : (before after : S) (line : List ℕ) (from to : List (List ℕ)) → ComesFirst (step before (heard_in line)) after from to
      → HeedsFirst step before after (line ∷ []) from to
  HeedsFirst-one before after line from to h = record {
    front = line ∷ [];
    back = [];
    parts = refl;
    comes = record { state = h.state; gives = subst (λ asks. GivesFirst asks from to) (sym (append-nil (step before (heard_in line)).asks)) h.gives };
  }

  pub HeedsFirst-all : (before after : S) (lines from to : List (List ℕ)) → HeedsAll step before after lines from to → HeedsFirst step before after lines from to
  HeedsFirst-all before after lines from to h = record {
    front = lines;
    back = [];
    parts = sym (append-nil lines);
    comes = record { state = h.state; gives = GivesFirst-all (heeded step before lines).asks from to h.gives };
  }

  -- lines that were heeded, and then lines of which the first were
  heeds_then : (start now after : S) (front lines : List (List ℕ)) (from between to : List (List ℕ)) → HeedsAll step start now front from between
      → ComesFirst (heeded step now lines) after between to → ComesFirst (heeded step start (front ++ lines)) after from to
  heeds_then start now after front lines from between to h k = record {
    state = k.state ∙ ap (λ s. (heeded step s lines).after) h.state ∙ sym (heeded-append-after start front lines);
    gives =
        subst (λ asks. GivesFirst asks from to)
        (ap (λ s. (heeded step start front).asks ++ (heeded step s lines).asks) h.state ∙ sym (heeded-append-asks start front lines))
        (GivesFirst-then (heeded step start front).asks (heeded step now lines).asks from between to h.gives k.gives);
  }

  pub HeededSoFar-short : (start now after : S) (lines : List (List ℕ)) (i : ℕ) (line : List ℕ) (from between to : List (List ℕ)) → HeededSoFar start now lines i from between
      → i < length lines → line ≡ get_or lines i line → HeedsFirst step now after (encode_utf8_all line ∷ []) between to → HeedsFirst step start after (utf8_of lines) from to
  HeededSoFar-short start now after lines i line from between to so below is short =
      let rest = utf8_of (drop (i + 1) lines) in
      record {
        front = so.front ++ short.front;
        back = short.back ++ rest;
        parts =
            so.parts ∙ ap (λ left. so.front ++ utf8_of left) (left_now lines i line below is)
            ∙ ap (λ first. so.front ++ (first ++ rest)) short.parts
            ∙ ap (λ left. so.front ++ left) (append_assoc short.front short.back rest)
            ∙ sym (append_assoc so.front short.front (short.back ++ rest));
        comes = heeds_then start now after so.front short.front from between to so.heeds short.comes;
      }
