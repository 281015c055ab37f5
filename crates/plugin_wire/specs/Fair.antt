-- The notices that a line of JSON can hold: their texts are characters of Unicode, and their numbers have at most 64 bits.
use Rattle.std.specs.Prelude.{◌≡◌, ℕ, ◌^◌, ◌<◌, List, true, ⊤}
use Rattle.std.specs.List.{AllByRecursion}
use Rattle.std.specs.Str.{all_scalars}
use Rattle.plain_edits.specs.declared.delta.El.{El}
use Rattle.plain_edits.specs.declared.delta.El.TheVariants.{Copy, Insert}
use Rattle.plain_edits.specs.declared.delta.Delta.{Delta}
use Rattle.xi_plain.specs.declared.config.Notice.{Notice}
use Rattle.plugin_wire.specs.Told.{Told, started, opened, changed, closed, stopped}

-- each character is one of Unicode
abbrev pub HasScalars : List ℕ → Type 0
HasScalars text = all_scalars text ≡ true

-- an element whose offsets are below the limit, and whose text is one of Unicode
abbrev pub IsFairEl : ℕ → El → Type 0
IsFairEl limit (Copy a b) = (a < limit) × (b < limit)
IsFairEl limit (Insert text) = HasScalars text

-- such a delta
pub record IsFairDelta (limit : ℕ) (delta : Delta) : Type 0 where
  pub base_len : delta.base_len < limit
  pub els : AllByRecursion (IsFairEl limit) delta.els

-- the notice of a revision
pub record IsFairNotice (notice : Notice) : Type 0 where
  pub view : HasScalars notice.view
  pub author : notice.author < 2 ^ 64
  pub rev : notice.rev < 2 ^ 64
  pub new_len : notice.new_len < 2 ^ 64
  pub delta : IsFairDelta (2 ^ 64) notice.delta

-- what a plugin is told
abbrev pub IsFairTold : Told → Type 0
IsFairTold (started caller) = caller < 2 ^ 64
IsFairTold (opened view len) = HasScalars view × (len < 2 ^ 64)
IsFairTold (changed notice) = IsFairNotice notice
IsFairTold (closed view) = HasScalars view
IsFairTold stopped = ⊤
