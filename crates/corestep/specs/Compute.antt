-- What instructions compute, and when branches are taken: SPRUIJ2. Sources are numbers of 32 bits, compared without a sign.
use Rattle.std.specs.Prelude.{ℕ, zero, suc, ◌+◌, ◌-◌, ◌%◌, ◌^◌, ◌==◌, min, max, Bool, nat_lt, nat_le}
use Rattle.std.specs.Prelude.{not, if◌then◌else◌, bit_and, bit_or, bit_xor}
use Rattle.std.specs.Int.{w32, bit_at, bit_not}
use Rattle.prunum.specs.Number.{shl, shr_u}
use Rattle.isa.specs.declared.control.Condition.{Condition}
use Rattle.isa.specs.declared.control.Condition.TheVariants.{Lt, Eq, Le, Gt, Ne, Ge, BitClear, BitSet}
use Rattle.isa.specs.declared.inst.AluOp.{AluOp}
use Rattle.isa.specs.declared.inst.AluOp.TheVariants.{Add, Sub, Lsl, Lsr, Rsb, And, Or, Xor, Min, Max, Clr, Set}

-- the difference, which wraps
abbrev pub difference : ℕ → ℕ → ℕ
difference a b = (a + 2 ^ 32 - b) % 2 ^ 32

-- what is written of A and B. Shifts and bit numbers are taken modulo 32.
abbrev pub computed : AluOp → ℕ → ℕ → ℕ
computed Add a b = (a + b) % 2 ^ 32
computed Sub a b = difference a b
computed Lsl a b = shl a b
computed Lsr a b = shr_u a b
computed Rsb a b = difference b a
computed And a b = bit_and a b
computed Or a b = bit_or a b
computed Xor a b = bit_xor a b
computed Min a b = min a b
computed Max a b = max a b
computed Clr a b = bit_and a (bit_not w32 (2 ^ (b % 32)))
computed Set a b = bit_or a (2 ^ (b % 32))

-- the greatest number below the bound of a bit of a that is `bit`, or 32
unfoldable pub leftmost_below : ℕ → ℕ → ℕ → ℕ
leftmost_below a bit zero = 32
leftmost_below a bit (suc n) = if bit_at a n == bit then n else leftmost_below a bit n

-- LMBD: the greatest number of a bit of A that is bit 0 of B, or 32
abbrev pub leftmost : ℕ → ℕ → ℕ
leftmost a b = leftmost_below a (b % 2) 32

-- whether a branch is taken
abbrev pub is_taken : Condition → ℕ → ℕ → Bool
is_taken Lt a b = nat_lt b a
is_taken Eq a b = b == a
is_taken Le a b = nat_le b a
is_taken Gt a b = nat_lt a b
is_taken Ne a b = not (b == a)
is_taken Ge a b = nat_le a b
is_taken BitClear a b = bit_at a (b % 32) == 0
is_taken BitSet a b = bit_at a (b % 32) == 1
