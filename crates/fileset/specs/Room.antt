-- A room of a fixed size, and the bytes that stand in it.
use Rattle.std.specs.Prelude.{ℕ, List}

pub record Space : Type 0 where
  pub taken : List ℕ
  pub size : ℕ
