-- What a script says of one end of a run.
use Rattle.std.specs.Prelude.{ℕ, List}

-- the bytes that the source gives or the sink is to take, the numbers of the calls that fail, and how many bytes a call moves at most
pub record Stream : Type 0 where
  pub bytes : List ℕ
  pub failing : List ℕ
  pub piece : ℕ
