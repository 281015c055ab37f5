-- A DOOR TO AN OBJECT that its caller alone uses.
use Rattle.std.proofs.Common.{ap, sym, ◌∙◌, subst}
use Rattle.std.proofs.lemmas.List.{append_assoc, append-nil}
use Rattle.std.specs.Prelude.{◌≡◌, ℕ, ◌<◌, List, [], ◌∷◌, ◌++◌}
use Rattle.std.specs.List.{AllByRecursion}
use Rattle.xi_plain.specs.declared.entry.Entry.{Entry}
use Rattle.xi_plain.specs.declared.ask.Ask.{Ask}
use Rattle.plugin_session.specs.Call.{IsPluginAsk}

-- the caller is one of plugins, which may ask what plugins ask
pub record IsReady {O : Type 0} (fits : O → ℕ → Ask → Type 0) (caller : ℕ) (object : O) : Type 0 where
  pub plugin : 0 < caller
  pub asks : (ask : Ask) → IsPluginAsk ask → fits object caller ask

-- each new entry is the caller's
abbrev pub OnlyAdds : ℕ → List Entry → List Entry → Type 0
OnlyAdds caller before after = (more : List Entry) × (after ≡ before ++ more) × AllByRecursion (λ entry. entry.caller ≡ caller) more

-- laws of this: nothing is added by nothing, and what is added after what was added is so
all_append : (caller : ℕ) (xs ys : List Entry) → AllByRecursion (λ entry. entry.caller ≡ caller) xs
    → AllByRecursion (λ entry. entry.caller ≡ caller) ys → AllByRecursion (λ entry. entry.caller ≡ caller) (xs ++ ys)
all_append caller [] ys all each = each
all_append caller (x ∷ xs) ys all each = (all.0, all_append caller xs ys all.1 each)

pub OnlyAdds-same : (caller : ℕ) (a : List Entry) → OnlyAdds caller a a
OnlyAdds-same caller a = ([], sym (append-nil a), tt)

pub OnlyAdds-trans : (caller same : ℕ) (a b c : List Entry) → same ≡ caller → OnlyAdds caller a b → OnlyAdds same b c → OnlyAdds caller a c
OnlyAdds-trans caller same a b c is (first, begins, all) (second, then, each) = (
  first ++ second,
  then ∙ ap (λ x. x ++ second) begins ∙ append_assoc a first second,
  all_append caller first second all (subst (λ x. AllByRecursion (λ entry. entry.caller ≡ x) second) is each),
)
