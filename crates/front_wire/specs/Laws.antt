-- Laws: what each method asks stands in the order of the table.
use Rattle.std.specs.Prelude.{◌≡◌, ℕ, List, Option, map}
use Rattle.serde_json.specs.Data.{Data}
use Rattle.case_front.specs.Table.{front_names, edit_names}
use Rattle.front_wire.specs.Edits.{edit_acts}
use Rattle.front_wire.specs.Front.{line_acts}

-- what each method asks stands under its own name, in the row that the table has for it
pub record MethodsStandAsInTheTable : Type 0 where
  pub lines : (params : Data) → map (λ a. a.0) (line_acts params) ≡ front_names
  pub edits : (m : ℕ → Option Data) → map (λ a. a.0) (edit_acts m) ≡ edit_names
