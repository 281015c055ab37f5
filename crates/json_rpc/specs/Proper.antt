-- What every value that a line reads as is. Where such a value holds no float, its own line reads as the value.
use Rattle.std.specs.Prelude.{◌≡◌, ℕ, ◌^◌, ◌<◌, pos, negsuc, List, IsUtf8, ⊤}
use Rattle.std.specs.Ordering.{nat_cmp}
use Rattle.std.specs.Cmp.Lexicographic.{slice_cmp}
use Rattle.std.specs.declared.cmp.Ordering.TheVariants.{Less}
use Rattle.serde_json.specs.Data.{Num, unsigned, negative, float, Data, null, boolean, number, string, array, object, Items, no_items, item, Members, no_members, member}

-- a whole number is from -2^63 to 2^64 - 1, and `negative` exactly where it is below 0
abbrev pub IsProperNumber : Num → Type 0
IsProperNumber (unsigned n) = n < 2 ^ 64
IsProperNumber (negative (pos n)) = ⊥
IsProperNumber (negative (negsuc n)) = n < 2 ^ 63
IsProperNumber (float x) = ⊤

-- the key comes before each name in the order of bytes
abbrev pub IsBelow : List ℕ → Members → Type 0
IsBelow key no_members = ⊤
IsBelow key (member k d ms) = (slice_cmp nat_cmp key k ≡ Less) × IsBelow key ms

-- every whole number is in range, every text and name is UTF-8, and the names of each object rise
abbrev mutual
  pub IsProper : Data → Type 0
  IsProper null = ⊤
  IsProper (boolean b) = ⊤
  IsProper (number n) = IsProperNumber n
  IsProper (string s) = IsUtf8 s
  IsProper (array ds) = AreProper ds
  IsProper (object ms) = HasProper ms

  pub AreProper : Items → Type 0
  AreProper no_items = ⊤
  AreProper (item d ds) = IsProper d × AreProper ds

  pub HasProper : Members → Type 0
  HasProper no_members = ⊤
  HasProper (member k d ms) = IsUtf8 k × IsProper d × IsBelow k ms × HasProper ms
