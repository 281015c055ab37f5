-- A book says a teller's texts.
use Rattle.std.proofs.Common.{◌≡◌, ⊎_elim, ℕ, ◌+◌, inl, inr, Bool, true, false, List, [], ◌∷◌, ◌++◌, Ok, Some, None, refl, ap, sym, ◌∙◌, subst}
use Rattle.std.specs.Prelude.{◌⊎◌, ◌||◌, ℤ, pos, negsuc, Option, Result, IsOk, if◌then◌else◌, ⊤}
use Rattle.std.specs.List.{AllByRecursion, list_any}
use Rattle.std.specs.Str.{bytes_eq, encode_utf8_all}
use Rattle.std.proofs.lemmas.Bool.{cases_Bool, eqb-true}
use Rattle.plain_text.specs.Text.{byte_len}
use Rattle.xi_plain.specs.declared.command.Id.{Id}
use Rattle.xi_plain.specs.declared.command.Id.TheVariants.{NoId, Num, Word}
use Rattle.xi_plain.specs.declared.command.Command.{Command}
use Rattle.xi_plain.specs.declared.config.Notice.{Notice}
use Rattle.plugin_side.specs.declared.heard.Told.{Told}
use Rattle.plugin_side.specs.declared.heard.Told.TheVariants.{Started, Opened, Changed, Closed, Stopped}
use Rattle.plugin_side.specs.declared.heard.Answered.{Answered}
use Rattle.plugin_side.specs.declared.heard.Answered.TheVariants.{Chunk, Edited, Lines, Null, Failed, Other}
use Rattle.plugin_side.specs.declared.heard.Heard.{Heard}
use Rattle.plugin_side.specs.declared.heard.Heard.TheVariants as Hears
use Rattle.plugin_mirror.specs.declared.fault.BookFault.{BookFault}
use Rattle.plugin_mirror.specs.declared.fault.BookFault.TheVariants.{Unread, Unknown}
use Rattle.plugin_mirror.specs.declared.leaf.Leaf.{Leaf}
use Rattle.plugin_mirror.specs.Leaf.{then_if_ok, opened, with_update, with_answer, given_up, is_of, is_ask, is_number, is_asked}
use Rattle.plugin_mirror.specs.Book.{Pages, at_leaf, with_opened, without, changed, is_to_nobody, after_answer, after_told, taken}
use Rattle.plugin_mirror.specs.Asks.{piece_ask, asks_of, next_after, commands, leaves_asked, asked}
use Rattle.plugin_mirror.specs.Teller.{Tales, ToldView, is_view, IsPiece, AnswersTruly, TellsChange, TellsClosing, TellsNotice, TellsAnswer, TellsLine}
use Rattle.plugin_mirror.specs.Laws.{Event, line, asking, Telling, start, after_asking, IsStep, AreSteps, SaysText, SayTexts, BooksSayTexts}
use Rattle.plugin_mirror.proofs.TellerLemmas.{IsIn, PageStands, Agrees, agrees_opened, agrees_update, agrees_chunk, agrees_given_up, agrees_asked}

-- ---- the pages of the views that were told

-- each page agrees with the view in its place
abbrev Agree : Tales → ℕ → List Command → List ToldView → List Leaf → Type 0
Agree tales piece asks [] [] = ⊤
Agree tales piece asks [] (leaf ∷ leaves) = ⊥
Agree tales piece asks (one ∷ views) [] = ⊥
Agree tales piece asks (one ∷ views) (leaf ∷ leaves) = Agrees tales piece asks one leaf × Agree tales piece asks views leaves

-- the page is of the view that the told one is
of_view : (view : List ℕ) (one : ToldView) (leaf : Leaf) (b : Bool) → leaf.view ≡ one.view → is_view view one ≡ b → is_of view leaf ≡ b
of_view view one leaf b same is = ap (λ v. bytes_eq (encode_utf8_all v) (encode_utf8_all view)) same ∙ is

-- ---- the first page that is meant

-- a step there
at_here : (meant : Leaf → Bool) (none : BookFault) (step : Leaf → Result Leaf BookFault) (leaf new : Leaf) (leaves : List Leaf) → meant leaf ≡ true →
    step leaf ≡ Ok new → at_leaf meant none step (leaf ∷ leaves) ≡ Ok (new ∷ leaves)
at_here meant none step leaf new leaves here is =
    let Here : Result (List Leaf) BookFault = then_if_ok (step leaf) (λ n. Ok (n ∷ leaves)) in
    let There : Result (List Leaf) BookFault = then_if_ok (at_leaf meant none step leaves) (λ news. Ok (leaf ∷ news)) in
    ap (λ (b : Bool). if b then Here else There) here ∙ ap (λ made. then_if_ok made (λ n. Ok (n ∷ leaves))) is

at_there : (meant : Leaf → Bool) (none : BookFault) (step : Leaf → Result Leaf BookFault) (leaf : Leaf) (leaves news : List Leaf) → meant leaf ≡ false →
    at_leaf meant none step leaves ≡ Ok news → at_leaf meant none step (leaf ∷ leaves) ≡ Ok (leaf ∷ news)
at_there meant none step leaf leaves news other is =
    let Here : Result (List Leaf) BookFault = then_if_ok (step leaf) (λ n. Ok (n ∷ leaves)) in
    let There : Result (List Leaf) BookFault = then_if_ok (at_leaf meant none step leaves) (λ news. Ok (leaf ∷ news)) in
    ap (λ (b : Bool). if b then Here else There) other ∙ ap (λ made. then_if_ok made (λ news. Ok (leaf ∷ news))) is

-- ---- notices

changed_told : (tales : Tales) (piece : ℕ) (asks : List Command) (notice : Notice) (views after : List ToldView) (leaves : List Leaf) →
    Agree tales piece asks views leaves → TellsChange tales notice views after → (news : List Leaf) × (changed notice leaves ≡ Ok news) × Agree tales piece asks after news
changed_told tales piece asks notice [] after leaves agree tells = absurd tells
changed_told tales piece asks notice (one ∷ views) [] leaves agree tells = absurd tells
changed_told tales piece asks notice (one ∷ views) (new ∷ after) [] agree tells = absurd agree
changed_told tales piece asks notice (one ∷ views) (new ∷ after) (leaf ∷ leaves) (agrees, agree) (inl (meant, tells, is, same)) =
    let (next, steps, right) = agrees_update tales piece asks one leaf notice agrees tells in (
      next ∷ leaves,
      at_here (is_of notice.view) (Unknown notice.view) (with_update notice) leaf next leaves (of_view notice.view one leaf true agrees.view meant) steps,
      (subst (λ told. Agrees tales piece asks told next) (sym is) right, subst (λ told. Agree tales piece asks told leaves) (sym same) agree),
    )
changed_told tales piece asks notice (one ∷ views) (new ∷ after) (leaf ∷ leaves) (agrees, agree) (inr (other, is, later)) =
    let (news, steps, right) = changed_told tales piece asks notice views after leaves agree later in (
      leaf ∷ news,
      at_there (is_of notice.view) (Unknown notice.view) (with_update notice) leaf leaves news (of_view notice.view one leaf false agrees.view other) steps,
      (subst (λ told. Agrees tales piece asks told leaf) (sym is) agrees, right),
    )

without_here : (view : List ℕ) (leaf : Leaf) (leaves : List Leaf) → is_of view leaf ≡ true → without view (leaf ∷ leaves) ≡ Ok leaves
without_here view leaf leaves here =
    let Here : Result (List Leaf) BookFault = Ok leaves in
    let There : Result (List Leaf) BookFault = then_if_ok (without view leaves) (λ rest. Ok (leaf ∷ rest)) in
    ap (λ (b : Bool). if b then Here else There) here

without_there : (view : List ℕ) (leaf : Leaf) (leaves news : List Leaf) → is_of view leaf ≡ false → without view leaves ≡ Ok news →
    without view (leaf ∷ leaves) ≡ Ok (leaf ∷ news)
without_there view leaf leaves news other is =
    let Here : Result (List Leaf) BookFault = Ok leaves in
    let There : Result (List Leaf) BookFault = then_if_ok (without view leaves) (λ rest. Ok (leaf ∷ rest)) in
    ap (λ (b : Bool). if b then Here else There) other ∙ ap (λ made. then_if_ok made (λ rest. Ok (leaf ∷ rest))) is

closed_told : (tales : Tales) (piece : ℕ) (asks : List Command) (view : List ℕ) (views after : List ToldView) (leaves : List Leaf) →
    Agree tales piece asks views leaves → TellsClosing view views after → (news : List Leaf) × (without view leaves ≡ Ok news) × Agree tales piece asks after news
closed_told tales piece asks view [] after leaves agree tells = absurd tells
closed_told tales piece asks view (one ∷ views) after [] agree tells = absurd agree
closed_told tales piece asks view (one ∷ views) after (leaf ∷ leaves) (agrees, agree) (inl (meant, same)) = (
  leaves,
  without_here view leaf leaves (of_view view one leaf true agrees.view meant),
  subst (λ told. Agree tales piece asks told leaves) (sym same) agree,
)
closed_told tales piece asks view (one ∷ views) after (leaf ∷ leaves) (agrees, agree) (inr (other, rest, same, later)) =
    let (news, steps, right) = closed_told tales piece asks view views rest leaves agree later in (
      leaf ∷ news,
      without_there view leaf leaves news (of_view view one leaf false agrees.view other) steps,
      subst (λ told. Agree tales piece asks told (leaf ∷ news)) (sym same) (agrees, right),
    )

opened_there : (view : List ℕ) (len : ℕ) (leaf : Leaf) (leaves : List Leaf) → is_of view leaf ≡ false →
    with_opened view len (leaf ∷ leaves) ≡ leaf ∷ with_opened view len leaves
opened_there view len leaf leaves other =
    let Here : List Leaf = opened view len ∷ leaves in
    let There : List Leaf = leaf ∷ with_opened view len leaves in
    ap (λ (b : Bool). if b then Here else There) other

opened_told : (tales : Tales) (piece : ℕ) (asks : List Command) (view : List ℕ) (len : ℕ) (new : ToldView) (views : List ToldView) (leaves : List Leaf) →
    AllByRecursion (λ one. is_view view one ≡ false) views → Agrees tales piece asks new (opened view len) → Agree tales piece asks views leaves →
    Agree tales piece asks (views ++ new ∷ []) (with_opened view len leaves)
opened_told tales piece asks view len new [] [] unknown right agree = (right, tt)
opened_told tales piece asks view len new [] (leaf ∷ leaves) unknown right agree = absurd agree
opened_told tales piece asks view len new (one ∷ views) [] unknown right agree = absurd agree
opened_told tales piece asks view len new (one ∷ views) (leaf ∷ leaves) (other, unknown) right (agrees, agree) =
    subst (λ all. Agree tales piece asks (one ∷ views ++ new ∷ []) all) (sym (opened_there view len leaf leaves (of_view view one leaf false agrees.view other)))
    (agrees, opened_told tales piece asks view len new views leaves unknown right agree)

notice_told : (tales : Tales) (piece : ℕ) (asks : List Command) (told : Told) (views after : List ToldView) (leaves : List Leaf) →
    Agree tales piece asks views leaves → TellsNotice tales told views after → (news : List Leaf) × (after_told told leaves ≡ Ok news) × Agree tales piece asks after news
notice_told tales piece asks (Started caller) views after leaves agree same = (leaves, refl, subst (λ told. Agree tales piece asks told leaves) (sym same) agree)
notice_told tales piece asks (Opened view len) views after leaves agree tells = (
  with_opened view len leaves,
  refl,
  subst (λ told. Agree tales piece asks told (with_opened view len leaves)) (sym tells.opened)
      (opened_told tales piece asks view len (record { view = view; last = 0 }) views leaves tells.unknown (agrees_opened tales piece asks view len tells.bytes) agree),
)
notice_told tales piece asks (Changed notice) views after leaves agree tells = changed_told tales piece asks notice views after leaves agree tells
notice_told tales piece asks (Closed view) views after leaves agree tells = closed_told tales piece asks view views after leaves agree tells
notice_told tales piece asks Stopped views after leaves agree same = (leaves, refl, subst (λ told. Agree tales piece asks told leaves) (sym same) agree)

-- ---- answers

or_later : (b c : Bool) → b ≡ false → (b || c) ≡ true → c ≡ true
or_later true c other any = absurd cc
or_later false c other any = any

answered_told : (tales : Tales) (piece : ℕ) (asks : List Command) (id : Id) (answer : Answered) (views : List ToldView) (leaves : List Leaf) →
    ((one : ToldView) (leaf : Leaf) → Agrees tales piece asks one leaf → is_asked id leaf ≡ true → (new : Leaf) × (with_answer answer leaf ≡ Ok new) × Agrees tales piece asks one new) →
    list_any (is_asked id) leaves ≡ true → Agree tales piece asks views leaves →
    (news : List Leaf) × (at_leaf (is_asked id) Unread (with_answer answer) leaves ≡ Ok news) × Agree tales piece asks views news
answered_told tales piece asks id answer views [] step any agree = absurd cc
answered_told tales piece asks id answer [] (leaf ∷ leaves) step any agree = absurd agree
answered_told tales piece asks id answer (one ∷ views) (leaf ∷ leaves) step any (agrees, agree) =
    ⊎_elim
    (λ (here : is_asked id leaf ≡ true).
    let (new, steps, right) = step one leaf agrees here in
    (new ∷ leaves, at_here (is_asked id) Unread (with_answer answer) leaf new leaves here steps, (right, agree)))
    (λ (other : is_asked id leaf ≡ false).
    let (news, steps, right) = answered_told tales piece asks id answer views leaves step (or_later (is_asked id leaf) (list_any (is_asked id) leaves) other any) agree in
    (leaf ∷ news, at_there (is_asked id) Unread (with_answer answer) leaf leaves news other steps, (agrees, right)))
    (cases_Bool (is_asked id leaf))

-- an open ask with an id has its number
number_is : (ask : Option ℕ) (z : ℤ) → is_number ask z ≡ true → (n : ℕ) × (ask ≡ Some n) × (Num (pos n) ≡ Num z)
number_is None z is = absurd cc
number_is (Some n) (pos m) is = (n, refl, ap (λ k. Num (pos k)) (eqb-true n m is))
number_is (Some n) (negsuc m) is = absurd cc

ask_is : (id : Id) (ask : Option ℕ) → is_ask id ask ≡ true → (n : ℕ) × (ask ≡ Some n) × (Num (pos n) ≡ id)
ask_is NoId ask is = absurd cc
ask_is (Num z) ask is = number_is ask z is
ask_is (Word text) ask is = absurd cc

all_in : (P : Command → Type 0) (command : Command) (asks : List Command) → IsIn command asks → AllByRecursion P asks → P command
all_in P command [] is all = absurd is
all_in P command (other ∷ asks) (inl same) all = subst P same all.0
all_in P command (other ∷ asks) (inr later) all = all_in P command asks later all.1

chunk_told : (tales : Tales) (piece : ℕ) (asks : List Command) (id : Id) (text : List ℕ) (offset : ℕ) →
    AllByRecursion (λ command. command.id ≡ id → AnswersTruly tales text offset command.act) asks → (one : ToldView) (leaf : Leaf) → Agrees tales piece asks one leaf →
    is_asked id leaf ≡ true → (new : Leaf) × (with_answer (Chunk text offset) leaf ≡ Ok new) × Agrees tales piece asks one new
chunk_told tales piece asks id text offset truly one leaf agrees is =
    let (n, some, same) = ask_is id leaf.ask is in
    let P : Command → Type 0 = λ command. command.id ≡ id → AnswersTruly tales text offset command.act in
    let says = all_in P (piece_ask piece n leaf) asks (agrees.asks n some) truly same refl in
    let from : IsPiece (tales one.view 0) (byte_len leaf.page.text) piece text =
    subst (λ view. IsPiece (tales view 0) (byte_len leaf.page.text) piece text) agrees.view says.1 in
    agrees_chunk tales piece asks one leaf n text offset agrees some says.0 from

answer_told : (tales : Tales) (piece : ℕ) (asks : List Command) (id : Id) (answer : Answered) (views : List ToldView) (leaves : List Leaf) → is_to_nobody id answer ≡ false →
    ((one : ToldView) (leaf : Leaf) → Agrees tales piece asks one leaf → is_asked id leaf ≡ true → (new : Leaf) × (with_answer answer leaf ≡ Ok new) × Agrees tales piece asks one new) →
    list_any (is_asked id) leaves ≡ true → Agree tales piece asks views leaves →
    (news : List Leaf) × (after_answer id answer leaves ≡ Ok news) × Agree tales piece asks views news
answer_told tales piece asks id answer views leaves some step any agree =
    let (news, steps, right) = answered_told tales piece asks id answer views leaves step any agree in
    let Kept : Result (List Leaf) BookFault = Ok leaves in
    let Now : Result (List Leaf) BookFault = at_leaf (is_asked id) Unread (with_answer answer) leaves in
    (news, ap (λ (b : Bool). if b then Kept else Now) some ∙ steps, right)

not_nobody : (id : Id) (text : List ℕ) (offset : ℕ) → is_to_nobody id (Chunk text offset) ≡ false
not_nobody NoId text offset = refl
not_nobody (Num z) text offset = refl
not_nobody (Word word) text offset = refl

nobody_told : (id : Id) (answer : Answered) (leaves : List Leaf) → is_to_nobody id answer ≡ true → after_answer id answer leaves ≡ Ok leaves
nobody_told id answer leaves none =
    let Kept : Result (List Leaf) BookFault = Ok leaves in
    let Now : Result (List Leaf) BookFault = at_leaf (is_asked id) Unread (with_answer answer) leaves in
    ap (λ (b : Bool). if b then Kept else Now) none

open_still : (id : Id) (answer : Answered) (leaves : List Leaf) → is_to_nobody id answer ≡ false →
    (list_any (is_asked id) leaves ≡ true) ⊎ (is_to_nobody id answer ≡ true) → list_any (is_asked id) leaves ≡ true
open_still id answer leaves some (inl any) = any
open_still id answer leaves some (inr none) = absurd cc

reply_told : (tales : Tales) (piece : ℕ) (asks : List Command) (id : Id) (answer : Answered) (views : List ToldView) (leaves : List Leaf) → TellsAnswer tales id answer asks leaves →
    Agree tales piece asks views leaves → (news : List Leaf) × (after_answer id answer leaves ≡ Ok news) × Agree tales piece asks views news
reply_told tales piece asks id (Chunk text offset) views leaves tells agree =
    answer_told tales piece asks id (Chunk text offset) views leaves (not_nobody id text offset) (chunk_told tales piece asks id text offset tells.1) tells.0 agree
reply_told tales piece asks id (Failed code message) views leaves tells agree =
    ⊎_elim
    (λ (nobody : is_to_nobody id (Failed code message) ≡ true). (leaves, nobody_told id (Failed code message) leaves nobody, agree))
    (λ (some : is_to_nobody id (Failed code message) ≡ false).
    answer_told tales piece asks id (Failed code message) views leaves some
    (λ one leaf agrees is. (given_up leaf, refl, agrees_given_up tales piece asks one leaf agrees))
    (open_still id (Failed code message) leaves some tells) agree)
    (cases_Bool (is_to_nobody id (Failed code message)))
reply_told tales piece asks id (Edited rev group) views leaves tells agree = absurd tells
reply_told tales piece asks id (Lines n) views leaves tells agree = absurd tells
reply_told tales piece asks id Null views leaves tells agree = absurd tells
reply_told tales piece asks id Other views leaves tells agree = absurd tells

line_told : (tales : Tales) (piece : ℕ) (asks : List Command) (heard : Heard) (views after : List ToldView) (leaves : List Leaf) → Agree tales piece asks views leaves →
    TellsLine tales heard asks leaves views after → (news : List Leaf) × (taken heard leaves ≡ Ok news) × Agree tales piece asks after news
line_told tales piece asks (Hears.Told told) views after leaves agree tells = notice_told tales piece asks told views after leaves agree tells
line_told tales piece asks (Hears.Answer id answer) views after leaves agree (tells, same) =
    let (news, steps, right) = reply_told tales piece asks id answer views leaves tells agree in
    (news, steps, subst (λ told. Agree tales piece asks told news) (sym same) right)
line_told tales piece asks Hears.Nothing views after leaves agree tells = absurd tells

-- ---- asks

in_left : (command : Command) (some more : List Command) → IsIn command some → IsIn command (some ++ more)
in_left command [] more is = absurd is
in_left command (other ∷ some) more (inl same) = inl same
in_left command (other ∷ some) more (inr later) = inr (in_left command some more later)

in_right : (command : Command) (some more : List Command) → IsIn command more → IsIn command (some ++ more)
in_right command [] more is = is
in_right command (other ∷ some) more is = inr (in_right command some more is)

asked_told : (tales : Tales) (piece next : ℕ) (asks all : List Command) (views : List ToldView) (leaves : List Leaf) → ((c : Command) → IsIn c asks → IsIn c all) →
    ((c : Command) → IsIn c (commands piece next leaves) → IsIn c all) → Agree tales piece asks views leaves → Agree tales piece all views (leaves_asked next leaves)
asked_told tales piece next asks all [] [] more has agree = tt
asked_told tales piece next asks all [] (leaf ∷ leaves) more has agree = absurd agree
asked_told tales piece next asks all (one ∷ views) [] more has agree = absurd agree
asked_told tales piece next asks all (one ∷ views) (leaf ∷ leaves) more has (agrees, agree) =
    let later = commands piece (next_after next leaf) leaves in (
      agrees_asked tales piece asks all one leaf next agrees more (λ c is. has c (in_left c (asks_of piece next leaf) later is)),
      asked_told tales piece (next_after next leaf) asks all views leaves more (λ c is. has c (in_right c (asks_of piece next leaf) later is)) agree,
    )

-- ---- a run

-- the book asks for pieces of this length, and its pages agree
record Stands (tales : Tales) (piece : ℕ) (now : Telling) : Type 0 where
  asks : now.book.piece ≡ piece
  agree : Agree tales piece now.commands now.views now.book.leaves

ok_same : (news leaves : List Leaf) (made : Result (List Leaf) BookFault) → made ≡ Ok news → made ≡ Ok leaves → news ≡ leaves
ok_same news leaves made is has = cc

stands_step : (tales : Tales) (piece : ℕ) (event : Event) (old new : Telling) → Stands tales piece old → IsStep tales event old new → Stands tales piece new
stands_step tales piece (line heard) old new stands is =
    let (news, steps, right) = line_told tales piece old.commands heard old.views new.views old.book.leaves stands.agree is.tells in
    let same : news ≡ new.book.leaves = ok_same news new.book.leaves (taken heard old.book.leaves) steps is.takes in
    record {
      asks = ap (λ (book : Pages). book.piece) is.book ∙ stands.asks;
      agree =
          subst (λ leaves. Agree tales piece new.commands new.views leaves) same
          (subst (λ asks. Agree tales piece asks new.views news) (sym is.commands) right);
    }
stands_step tales piece asking old new stands is =
    let all = old.commands ++ asked old.book in
    let now : Stands tales piece (after_asking old) =
    record {
      asks = stands.asks;
      agree =
          asked_told tales piece old.book.next old.commands all old.views old.book.leaves (λ c is_in. in_left c old.commands (asked old.book) is_in)
          (λ c is_in. in_right c old.commands (asked old.book) (subst (λ p. IsIn c (commands p old.book.next old.book.leaves)) (sym stands.asks) is_in)) stands.agree;
    } in
    subst (λ telling. Stands tales piece telling) (sym is) now

stands_after : (tales : Tales) (piece : ℕ) (old : Telling) (events : List Event) (new : Telling) → Stands tales piece old → AreSteps tales old events new → Stands tales piece new
stands_after tales piece old [] new stands is = subst (λ telling. Stands tales piece telling) (sym is) stands
stands_after tales piece old (event ∷ events) new stands (next, step, later) =
    stands_after tales piece next events new (stands_step tales piece event old next stands step) later

says_rev : (tales : Tales) (one : ToldView) (leaf : Leaf) → leaf.page.whole ≡ true → PageStands tales one leaf → leaf.page.rev ≡ one.last
says_rev tales one leaf whole (inl (still, is)) = is.rev
says_rev tales one leaf whole (inr (part, is)) = absurd cc

says_text : (tales : Tales) (one : ToldView) (leaf : Leaf) → leaf.page.whole ≡ true → PageStands tales one leaf → leaf.page.text ≡ tales one.view one.last
says_text tales one leaf whole (inl (still, is)) = is.text
says_text tales one leaf whole (inr (part, is)) = absurd cc

says : (tales : Tales) (piece : ℕ) (asks : List Command) (one : ToldView) (leaf : Leaf) → Agrees tales piece asks one leaf → SaysText tales one leaf
says tales piece asks one leaf agrees =
    record { view = agrees.view; rev = λ whole. says_rev tales one leaf whole agrees.stands; text = λ whole. says_text tales one leaf whole agrees.stands }

say_all : (tales : Tales) (piece : ℕ) (asks : List Command) (views : List ToldView) (leaves : List Leaf) → Agree tales piece asks views leaves → SayTexts tales views leaves
say_all tales piece asks [] [] agree = tt
say_all tales piece asks [] (leaf ∷ leaves) agree = absurd agree
say_all tales piece asks (one ∷ views) [] agree = absurd agree
say_all tales piece asks (one ∷ views) (leaf ∷ leaves) (agrees, agree) = (says tales piece asks one leaf agrees, say_all tales piece asks views leaves agree)

pub books_say : BooksSayTexts
books_say tales piece events now are =
    let stands = stands_after tales piece (start piece) events now (record { asks = refl; agree = tt }) are in (
      say_all tales piece now.commands now.views now.book.leaves stands.agree,
      λ heard views tells.
          let (news, steps, right) = line_told tales piece now.commands heard now.views views now.book.leaves stands.agree tells in
          subst IsOk (sym steps) refl,
    )
