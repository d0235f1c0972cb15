-- The numbers of moves between scratch registers and slots are in their ranges.
use Rattle.std.specs.Prelude.{ℕ, ◌+◌, ◌*◌, ◌%◌, ◌≤◌}
use Rattle.std.proofs.Common.{arith, lit≤}
use Rattle.prunum.specs.Width.{byte_count}
use Rattle.prunum.specs.declared.width.Width.{Width}
use Rattle.prunum.specs.declared.width.Width.TheVariants.{B1, B2, B4}

pub some_byte : (w : Width) → 1 ≤ byte_count w
some_byte B1 = lit≤ tt
some_byte B2 = lit≤ tt
some_byte B4 = lit≤ tt

pub below : (r : ℕ) (w : Width) → 4 * (26 + r % 3) + 0 + byte_count w ≤ 120
below r B1 = omega arith
below r B2 = omega arith
below r B4 = omega arith
