-- Lemmas on what words ask for.
use Rattle.std.proofs.Common.{◌≡◌, ◌≤◌, ℕ, Bool, true, false, List, [], ◌∷◌, length, drop, Option, Some, None, refl, sym, subst, arith}
use Rattle.std.specs.Prelude.{if◌then◌else◌, ⊤, codes}
use Rattle.storm_lines.specs.declared.form.Form.{Form}
use Rattle.storm_lines.specs.declared.form.Form.TheVariants.{Threads, Alone, Storm}
use Rattle.storm_lines.specs.Forms.{form_in, is_named}
use Rattle.xi_core.specs.declared.words.Handed.{Handed}
use Rattle.xi_core.specs.declared.words.Invocation.{Invocation}
use Rattle.xi_core.specs.declared.words.Invocation.TheVariants.{Help, Version, Methods, Run, Record, Replay, Misused}
use Rattle.xi_core.specs.Words.{form_words, handed_by, invocation_in, invocation_of_one, recorded, replay_of, run_in, run_of}

-- ---- what holds of each that words may ask holds of what they ask

either : (P : Invocation → Type 0) (b : Bool) (one other : Invocation) → P one → P other → P (if b then one else other)
either P true one other first second = first
either P false one other first second = second

of_one : (P : Invocation → Type 0) (word : List ℕ) → P Help → P Version → P Methods → P (run_in (word ∷ [])) → P (invocation_of_one word)
of_one P word help version methods run =
    let third = if is_named word (codes "--methods") then Methods else run_in (word ∷ []) in
    let second = if is_named word (codes "--version") then Version else third in
    either P (is_named word (codes "--help")) Help second help (either P (is_named word (codes "--version")) Version third version
    (either P (is_named word (codes "--methods")) Methods (run_in (word ∷ [])) methods run))

of_more : (P : Invocation → Type 0) (word folder : List ℕ) (later : List (List ℕ)) → P (recorded (run_in later)) → P (replay_of later) →
    P (run_in (word ∷ folder ∷ later)) → P (invocation_in (word ∷ folder ∷ later))
of_more P word folder later kept played run =
    let run_words = run_in (word ∷ folder ∷ later) in
    let second = if is_named word (codes "replay") then replay_of later else run_words in
    either P (is_named word (codes "--record")) (recorded (run_in later)) second kept
    (either P (is_named word (codes "replay")) (replay_of later) run_words played run)

-- ---- what names a folder has a word for it

abbrev pub HasFolder : Invocation → Type 0
HasFolder (Record form handed) = ⊤
HasFolder Replay = ⊤
HasFolder Help = ⊥
HasFolder Version = ⊥
HasFolder Methods = ⊥
HasFolder (Run form handed) = ⊥
HasFolder Misused = ⊥

run_has_none : (form : Option Form) (handed : Handed) → HasFolder (run_of form handed) → ⊥
run_has_none None handed has = has
run_has_none (Some form) handed has = has

one_has_none : (word : List ℕ) → HasFolder (invocation_of_one word) → ⊥
one_has_none word =
    of_one (λ asked. HasFolder asked → ⊥) word (λ has. has) (λ has. has) (λ has. has)
    (run_has_none (form_in (form_words (word ∷ []))) (handed_by (word ∷ [])))

two_at_least : (words : List (List ℕ)) → HasFolder (invocation_in words) → 2 ≤ length words
two_at_least [] has = absurd has
two_at_least (word ∷ []) has = absurd (one_has_none word has)
two_at_least (word ∷ folder ∷ later) has = omega arith

pub has_room : (words : List (List ℕ)) (asked : Invocation) → invocation_in words ≡ asked → HasFolder asked → 2 ≤ length words
has_room words asked is has = two_at_least words (subst HasFolder (sym is) has)

-- ---- a run is asked for by all words, and one that is recorded by those behind its folder

abbrev pub AsksIn : List (List ℕ) → List (List ℕ) → Invocation → Type 0
AsksIn words later (Run form handed) = run_in words ≡ Run form handed
AsksIn words later (Record form handed) = run_in later ≡ Run form handed
AsksIn words later Help = ⊤
AsksIn words later Version = ⊤
AsksIn words later Methods = ⊤
AsksIn words later Replay = ⊤
AsksIn words later Misused = ⊤

run_asks : (words later : List (List ℕ)) (form : Option Form) (handed : Handed) → run_in words ≡ run_of form handed →
    AsksIn words later (run_of form handed)
run_asks words later None handed is = tt
run_asks words later (Some form) handed is = is

recorded_asks : (words later : List (List ℕ)) (run : Invocation) → run_in later ≡ run → AsksIn words later (recorded run)
recorded_asks words later (Run Threads handed) is = is
recorded_asks words later (Run Alone handed) is = is
recorded_asks words later (Run (Storm count seed) handed) is = tt
recorded_asks words later (Record form handed) is = tt
recorded_asks words later Help is = tt
recorded_asks words later Version is = tt
recorded_asks words later Methods is = tt
recorded_asks words later Replay is = tt
recorded_asks words later Misused is = tt

replay_asks : (words later behind : List (List ℕ)) → AsksIn words later (replay_of behind)
replay_asks words later [] = tt
replay_asks words later (word ∷ behind) = tt

itself_asks : (words later : List (List ℕ)) → AsksIn words later (run_in words)
itself_asks words later = run_asks words later (form_in (form_words words)) (handed_by words) refl

asks_in : (words : List (List ℕ)) → AsksIn words (drop 2 words) (invocation_in words)
asks_in [] = itself_asks [] []
asks_in (word ∷ []) = of_one (AsksIn (word ∷ []) []) word tt tt tt (itself_asks (word ∷ []) [])
asks_in (word ∷ folder ∷ later) =
    let words = word ∷ folder ∷ later in
    of_more (AsksIn words later) word folder later (recorded_asks words later (run_in later) refl) (replay_asks words later later)
    (itself_asks words later)

pub runs_itself : (words : List (List ℕ)) (form : Form) (handed : Handed) → invocation_in words ≡ Run form handed → run_in words ≡ Run form handed
runs_itself words form handed is = subst (AsksIn words (drop 2 words)) is (asks_in words)

pub runs_behind : (words : List (List ℕ)) (form : Form) (handed : Handed) → invocation_in words ≡ Record form handed →
    run_in (drop 2 words) ≡ Run form handed
runs_behind words form handed is = subst (AsksIn words (drop 2 words)) is (asks_in words)
