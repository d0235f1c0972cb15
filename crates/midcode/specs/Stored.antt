-- What an object is seen as.
use Rattle.std.specs.Prelude.{ℕ, List}
use Rattle.midcode.specs.declared.object.FirstPart.{FirstPart}

-- so many bytes of private memory, and what they hold at first
pub record Stored : Type 0 where
  pub bytes : ℕ
  pub first : List FirstPart
