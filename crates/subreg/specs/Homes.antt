-- What an assignment of homes is seen as.
use Rattle.std.specs.Prelude.{ℕ, List}
use Rattle.subreg.specs.declared.home.Home.{Home}

pub record Homes : Type 0 where
  pub homes : List Home
  pub spills : ℕ
