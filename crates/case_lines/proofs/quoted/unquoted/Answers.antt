use Rattle.std.proofs.Common.{◌≡◌, ◌+◌, ◌++◌, [], ◌∷◌, List, ℕ, Bool, true, false, Some, drop, get_or, arith, sym, ◌∙◌, subst}
use Rattle.std.specs.Prelude.{◌==◌}
use Rattle.std.proofs.lemmas.Grind.{common_steps}
use Rattle.std.proofs.lemmas.Bool.Decides.{nat_tests}
use Rattle.case_lines.specs.Quoted.{meant_by}
use Rattle.case_lines.proofs.QuotedLemmas.{Left, meant_step, mark_step, itself_step}
use Rattle.case_lines.proofs.quoted.unquoted.Goals as goal
use Rattle.case_lines.proofs.quoted.unquoted.Goals.{then-is_marked+in-Some+in_ok-push, else-is_marked+then-byte-eq92, else-is_marked+else-byte-eq92+in_ok-push-2}

pub loop-byte-preserved : goal.loop-byte-preserved
loop-byte-preserved c =
    let s = c.args.written.now in
    let i = c.loop-byte.byte-index in
    let b = get_or s i 0 in
    let rest = drop (i + 1) s in
    let text = c.loop-byte.text.items in
    let here : drop i s ≡ b ∷ rest = grind (arith, common_steps) in
    let before : Left s text c.loop-byte.is_marked (b ∷ rest) = subst (λ (left : List ℕ). Left s text c.loop-byte.is_marked left) here c.loop-byte.invariant in
    elim c.if-is_marked.branch [
      | then-is_marked+in-Some+in_ok-push w ↦
          let marked : Left s text true (b ∷ rest) = subst (λ (flag : Bool). Left s text flag (b ∷ rest)) w.if-is_marked.true before in
          let meant : meant_by b ≡ Some w.in-Some.meant = grind (arith, common_steps) in
          let new : c.if-is_marked.text.items ≡ text ++ w.in-Some.meant ∷ [] = grind (arith, common_steps) in
          let after = meant_step s text b w.in-Some.meant rest meant marked in
          subst (λ (flag : Bool). Left s c.if-is_marked.text.items flag rest) (sym w.is_marked-is)
          (subst (λ (t : List ℕ). Left s t false rest) (sym new) after)
      | else-is_marked+then-byte-eq92 w ↦
          let plain : Left s text false (b ∷ rest) = subst (λ (flag : Bool). Left s text flag (b ∷ rest)) w.if-is_marked.false before in
          let test : (b == 92) ≡ true = grind (arith, nat_tests) in
          let new : c.if-is_marked.text.items ≡ text = grind (arith, common_steps) in
          let after = mark_step s text b rest test plain in
          subst (λ (flag : Bool). Left s c.if-is_marked.text.items flag rest) (sym w.is_marked-is)
          (subst (λ (t : List ℕ). Left s t true rest) (sym new) after)
      | else-is_marked+else-byte-eq92+in_ok-push-2 w ↦
          let plain : Left s text false (b ∷ rest) = subst (λ (flag : Bool). Left s text flag (b ∷ rest)) w.if-is_marked.false before in
          let test : (b == 92) ≡ false = grind (arith, nat_tests) in
          let new : c.if-is_marked.text.items ≡ text ++ b ∷ [] = grind (arith, common_steps) in
          let after = itself_step s text b rest test plain in
          subst (λ (flag : Bool). Left s c.if-is_marked.text.items flag rest) (sym (w.is_marked-is ∙ w.if-is_marked.false))
          (subst (λ (t : List ℕ). Left s t false rest) (sym new) after)
    ]
