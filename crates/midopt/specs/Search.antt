-- Of the proof of a search: the highest bit below a number that is the given one, with its definition kept closed.
use Rattle.std.specs.Prelude.{ℕ}
use Rattle.midcode.specs.Value.{leftmost}

unfoldable pub below : ℕ → ℕ → ℕ → ℕ
below n a bit = leftmost n a bit
