-- That the parts of an image are numbers of their types.
use Rattle.std.specs.Prelude.{◌^◌, ◌<◌}
use Rattle.std.specs.List.{AllByRecursion}
use Rattle.isa.specs.Image.{Contents}

-- each word, and the value of each note, is a number of four bytes
pub record IsRanged (i : Contents) : Type 0 where
  pub words : AllByRecursion (λ w. w < 2 ^ 32) i.words
  pub notes : AllByRecursion (λ n. n.value < 2 ^ 32) i.notes
