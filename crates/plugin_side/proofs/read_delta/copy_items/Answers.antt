use Rattle.std.proofs.Common.{◌≡◌, ℕ, ◌<◌, ◌≤◌, ◌^◌, length, List, [], ◌∷◌, None, refl, arith}
use Rattle.serde_json.specs.View.{items_view}
use Rattle.serde_json.specs.declared.value.Value.{Value}
use Rattle.plugin_wire.specs.Shapes.{copy_items}
use Rattle.plugin_side.proofs.read_delta.copy_items.Goals as goal
use Rattle.plugin_side.proofs.read_delta.copy_items.Goals.{in_default-via-then-items-lt2, in_default-via-else-items-lt2+else-items-lt3}

too_few : (limit : ℕ) (items : List Value) → length items < 2 → None ≡ copy_items limit (items_view items)
too_few limit [] h = refl
too_few limit (a ∷ []) h = refl
too_few limit (a ∷ b ∷ items) h = absurd (omega (arith, h))

too_many : (limit : ℕ) (items : List Value) → 3 ≤ length items → None ≡ copy_items limit (items_view items)
too_many limit [] h = absurd (omega (arith, h))
too_many limit (a ∷ []) h = absurd (omega (arith, h))
too_many limit (a ∷ b ∷ []) h = absurd (omega (arith, h))
too_many limit (a ∷ b ∷ c ∷ items) h = refl

pub returns-in_default : goal.returns-in_default
returns-in_default c =
    elim c.in_default.branch [
      | in_default-via-then-items-lt2 w ↦ too_few (2 ^ 64) c.args.items.now (grind arith)
      | in_default-via-else-items-lt2+else-items-lt3 w ↦ too_many (2 ^ 64) c.args.items.now (grind arith)
    ]
