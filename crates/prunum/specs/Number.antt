-- Numbers of one, two and four bytes, in whole-number arithmetic. The sizes are those of the PRU C compiler guide
-- (SPRUHV7). What division by 0 and shift counts of 32 and more give is this project's own choice.
use Rattle.std.specs.Prelude.{◌≡◌, ◌==◌, ℕ, ◌-◌, ◌*◌, ◌/◌, ◌%◌, ◌^◌, ◌<◌, nat_lt, if◌then◌else◌, ℤ, pos, neg_ℤ}
use Rattle.std.specs.Prelude.{◌+ℤ◌, ◌-ℤ◌, ◌*ℤ◌, ◌≤ℤ◌, ◌<ℤ◌, unsigned_abs, int_div, int_rem}
use Rattle.std.specs.Int.{int_rem_euclid, int_div_euclid}
use Rattle.prunum.specs.Width.{byte_count}
use Rattle.prunum.specs.declared.width.Width.{Width}
use Rattle.prunum.specs.declared.width.Width.TheVariants.{B4}

-- how many bits a width has
abbrev pub bit_count : Width → ℕ
bit_count w = 8 * byte_count w

-- ---- one number in two readings

-- a and b differ by a multiple of m
abbrev pub IsCongruent : ℕ → ℤ → ℤ → Type 0
IsCongruent m a b = (j : ℕ) × (k : ℕ) × (a +ℤ pos (j * m) ≡ b +ℤ pos (k * m))

-- what v leaves at a width
abbrev pub wrap : Width → ℕ → ℕ
wrap w v = v % 2 ^ bit_count w

-- the same of a number with a sign
abbrev pub wrap_signed : Width → ℤ → ℕ
wrap_signed w z = unsigned_abs (int_rem_euclid z (pos (2 ^ bit_count w)))

-- the low bits of v as two's complement
unfoldable pub sext : Width → ℕ → ℤ
sext w v =
    if nat_lt (wrap w v) (2 ^ (bit_count w - 1)) then pos (wrap w v) else pos (wrap w v) -ℤ pos (2 ^ bit_count w)

-- z is the number from -2^(n-1) to 2^(n-1)-1 that equals v modulo 2^n
pub record IsSignedOf (n v : ℕ) (z : ℤ) : Type 0 where
  pub least : neg_ℤ (pos (2 ^ (n - 1))) ≤ℤ z
  pub greatest : z <ℤ pos (2 ^ (n - 1))
  pub same : IsCongruent (2 ^ n) z (pos v)

-- ---- quotients

abbrev pub quot_u : ℕ → ℕ → ℕ
quot_u a b = if b == 0 then 2 ^ 32 - 1 else a / b

abbrev pub rem_u : ℕ → ℕ → ℕ
rem_u a b = if b == 0 then a else a % b

-- of the numbers that the bits mean as two's complement, cut towards 0
unfoldable pub quot_s : ℕ → ℕ → ℕ
quot_s a b = if b == 0 then 2 ^ 32 - 1 else wrap_signed B4 (int_div (sext B4 a) (sext B4 b))

unfoldable pub rem_s : ℕ → ℕ → ℕ
rem_s a b = if b == 0 then a else wrap_signed B4 (int_rem (sext B4 a) (sext B4 b))

-- a divided by b is q with r left over: q is cut towards 0, so r is nearer to 0 than b, on the side of a
pub record IsCutDivision (a b q r : ℤ) : Type 0 where
  pub sum : q *ℤ b +ℤ r ≡ a
  pub nearer : unsigned_abs r < unsigned_abs b
  pub above : pos 0 ≤ℤ a → pos 0 ≤ℤ r
  pub below : a ≤ℤ pos 0 → r ≤ℤ pos 0

-- the quotient's 32 bits are c, and those of what is left over are d
pub record IsCutDivisionOfBits (a b c d : ℕ) : Type 0 where
  pub q : ℤ
  pub r : ℤ
  pub division : IsCutDivision (sext B4 a) (sext B4 b) q r
  pub quotient : IsCongruent (2 ^ 32) (pos c) q
  pub rest : IsCongruent (2 ^ 32) (pos d) r

-- ---- shifts, whose counts are taken modulo 32

abbrev pub shl : ℕ → ℕ → ℕ
shl a n = a * 2 ^ (n % 32) % 2 ^ 32

abbrev pub shr_u : ℕ → ℕ → ℕ
shr_u a n = a / 2 ^ (n % 32)

-- the quotient that is rounded down, which copies the sign
unfoldable pub shr_s : ℕ → ℕ → ℕ
shr_s a n = wrap_signed B4 (int_div_euclid (sext B4 a) (pos (2 ^ (n % 32))))
