-- A run that nothing outside stops ends well.
use Rattle.std.proofs.Common.{◌≡◌, ℕ, ◌<◌, ◌≤◌, inl, inr, List, [], ◌∷◌, ◌++◌, length, Option, Some, None, Ok, Err, refl, ap, sym, ◌∙◌, subst, append_assoc, length-append, arith, true, false}
use Rattle.std.specs.Prelude.{if◌then◌else◌, ◌==◌, IfSome}
use Rattle.std.specs.List.{AllByRecursion}
use Rattle.xi_plain.specs.declared.entry.Entry.{Entry}
use Rattle.plain_text.specs.InputLines.{ended_lines, unended, lines_of}
use Rattle.plain_text.proofs.callers.InputLemmas.{ended_lines-append, unended-append}
use Rattle.outside.specs.Source.{Gives}
use Rattle.xi_top.specs.declared.ending.Ending.TheVariants.{NoMemory, SourceFault, SinkFault, TooMany, TooLong}
use Rattle.xi_top.specs.Ending.{Outcome, status_of, most_lines, too_long}
use Rattle.xi_top.specs.Lines.{IsNextTooLong}
use Rattle.xi_top.specs.Run.{Passage, IsRun, RunsAlone}
use Rattle.xi_top.specs.Calm.{IsModest, IsCalm, EndsWell}

-- what holds of each line holds of each of the last ones
each_back : (P : List ℕ → Type 0) (front back : List (List ℕ)) → AllByRecursion P (front ++ back) → AllByRecursion P back
each_back P [] back each = each
each_back P (line ∷ front) back each = each_back P front back each.1

-- a begun line that is too long stays so, where no line that ends is
begun_stays : (limit : ℕ) (begun more : List ℕ) → limit ≤ length begun →
    AllByRecursion (λ line. length line ≤ limit) (ended_lines begun more) → limit ≤ length (unended begun more)
begun_stays limit begun [] long each = long
begun_stays limit begun (b ∷ more) long each =
    let longer : limit < length (begun ++ b ∷ []) = omega (arith, long, length-append begun (b ∷ [])) in
    (elim (b == 10) as (λ ends.
    AllByRecursion (λ line. length line ≤ limit) (if ends then (begun ++ b ∷ []) ∷ ended_lines [] more else ended_lines (begun ++ b ∷ []) more) →
    limit ≤ length (if ends then unended [] more else unended (begun ++ b ∷ []) more)) [
      | true ↦ λ each. omega (arith, longer, each.0)
      | false ↦ λ each. begun_stays limit (begun ++ b ∷ []) more (omega (arith, longer)) each
    ]) each

-- an input that a run can take has no line that is too long
not_long : (taken left : List ℕ) (lines : List (List ℕ)) → IsModest (taken ++ left) → IsNextTooLong taken lines → ⊥
not_long taken left lines modest next =
    let more = next.more ++ left in
    let same : taken ++ left ≡ next.front ++ more = ap (λ t. t ++ left) next.cut ∙ append_assoc next.front next.more left in
    let all = subst IsModest same modest in
    let each = subst (AllByRecursion (λ line. length line ≤ too_long)) (ended_lines-append [] next.front more) all.ended in
    let stays = begun_stays too_long (unended [] next.front) more next.long (each_back _ (ended_lines [] next.front) (ended_lines (unended [] next.front) more) each) in
    omega (arith, stays, all.last, ap length (unended-append [] next.front more))

-- nor has it as many lines as a run takes
not_many : (taken left : List ℕ) (lines later : List (List ℕ)) → IsModest (taken ++ left) → lines_of (taken ++ left) ≡ lines ++ later →
    length lines ≡ most_lines → ⊥
not_many taken left lines later modest first count = omega (arith, count, modest.few, ap length first, length-append lines later)

-- what a source gave and what it has left is what it told
pub told_input : (before after : Option (List ℕ)) (bytes taken left : List ℕ) → before ≡ Some bytes → Gives before after taken →
    IfSome after (λ rest. rest ≡ left) → bytes ≡ taken ++ left
told_input before after bytes taken left is gives leaves = by after (subst (λ b. Gives b after taken) is gives) leaves
  where
    by : (after : Option (List ℕ)) → Gives (Some bytes) after taken → IfSome after (λ rest. rest ≡ left) → bytes ≡ taken ++ left
    by None gives leaves = absurd gives
    by (Some rest) gives leaves = gives ∙ ap (λ r. taken ++ r) leaves

ends_well : (plugins : ℕ) (passage : Passage) (journal : List Entry) (outcome : Outcome) → IsRun plugins passage journal outcome → IsCalm passage → EndsWell (status_of outcome)
ends_well plugins passage journal (Ok done) run calm = inl refl
ends_well plugins passage journal (Err NoMemory) run calm = inr refl
ends_well plugins passage journal (Err SourceFault) run calm = absurd (calm.source_calm run.source_failed)
ends_well plugins passage journal (Err SinkFault) run calm = absurd (calm.sink_calm run.written.rose)
ends_well plugins passage journal (Err TooMany) run calm =
    let input = told_input _ _ calm.bytes run.taken run.left calm.input run.gives run.leaves in
    absurd (not_many run.taken run.left run.lines.lines run.lines.later (subst IsModest input calm.modest) run.lines.first run.lines.so_many)
ends_well plugins passage journal (Err TooLong) run calm =
    let input = told_input _ _ calm.bytes run.taken run.left calm.input run.gives run.leaves in
    absurd (not_long run.taken run.left run.lines.lines (subst IsModest input calm.modest) run.lines.so_many)

pub EndsWell-calm : (plugins : ℕ) (passage : Passage) (journal : List Entry) (status : ℕ) → RunsAlone plugins passage journal status → IsCalm passage → EndsWell status
EndsWell-calm plugins passage journal status (inl (outcome, is, run)) calm = subst EndsWell (sym is) (ends_well plugins passage journal outcome run calm)
EndsWell-calm plugins passage journal status (inr (is, none)) calm = inr is
