-- Operations compute what operators of C mean.
use Rattle.std.proofs.Common.{◌≡◌, ℕ, zero, suc, ◌+◌, ◌-◌, ◌*◌, ◌/◌, ◌%◌, ◌^◌, ◌<◌, ◌≤◌, ◌==◌, Bool, true, false, not}
use Rattle.std.proofs.Common.{inl, inr, if◌then◌else◌, refl, sym, ap, ◌∙◌, arith, lit<, lit≤}
use Rattle.std.specs.Prelude.{ℤ, pos, negsuc}
use Rattle.std.proofs.Math.Nat.{div-le_self, mod-le, mod-eq_of_lt}
use Rattle.std.proofs.lemmas.Nat.{mod_below, and_le_l, or_of_32, xor_of_32}
use Rattle.std.proofs.lemmas.Bool.{eq-eqb, ne_eqb, eqb-true, eqb-false, cases_Bool}
use Rattle.prunum.specs.Number.{wrap, bit_count, wrap_signed, quot_u, quot_s, rem_u, rem_s, shr_s}
use Rattle.prunum.specs.declared.width.Width.{Width}
use Rattle.prunum.specs.declared.width.Width.TheVariants.{B1, B2, B4}
use Rattle.csyn.specs.declared.specifiers.Sign.{Sign}
use Rattle.csyn.specs.declared.specifiers.Sign.TheVariants.{Signed, Unsigned}
use Rattle.csyn.specs.declared.operator.BinaryOperator.{BinaryOperator}
use Rattle.csyn.specs.declared.operator.BinaryOperator.TheVariants as source
use Rattle.midcode.specs.declared.op.UnaryOp.TheVariants as one
use Rattle.midcode.specs.Value.{unary_value, binary_value}
use Rattle.cprogram.specs.declared.value.UnaryOperator.TheVariants.{Minus, Complement}
use Rattle.csyn.specs.declared.operator.ComparisonOperator.{ComparisonOperator}
use Rattle.csyn.specs.declared.operator.ComparisonOperator.TheVariants as order
use Rattle.midcode.specs.declared.op.BinaryOp.{BinaryOp}
use Rattle.midcode.specs.declared.op.BinaryOp.TheVariants as two
use Rattle.midcode.specs.declared.op.OpKind.TheVariants as op
use Rattle.midcode.specs.declared.op.Operand.{Operand}
use Rattle.midcode.specs.declared.register.VReg.{VReg}
use Rattle.midcode.specs.Cost.{charge}
use Rattle.midcode.specs.Value.{leftmost}
use Rattle.cmean.specs.Datum.{unary, binary, comparison, truth_number, leftmost_below, leftmost_bit}
use Rattle.lowerstate.specs.Operators.{operation, comparing, is_swapped}

-- ---- numbers that fit

-- a number that fits a width is not cut by it
pub wrap-small : (w : Width) (n : ℕ) → n < 2 ^ bit_count w → wrap w n ≡ n
wrap-small w n small = mod-eq_of_lt small

pub wrap-below : (w : Width) (n : ℕ) → wrap w n < 2 ^ bit_count w
wrap-below B1 n = mod_below n (2 ^ 8) (lit< tt)
wrap-below B2 n = mod_below n (2 ^ 16) (lit< tt)
wrap-below B4 n = mod_below n (2 ^ 32) (lit< tt)

pub signed-below : (z : ℤ) → wrap_signed B4 z < 2 ^ 32
signed-below (pos a) = mod_below a (2 ^ 32) (lit< tt)
signed-below (negsuc a) = omega arith

either-below : (b : Bool) (x y k : ℕ) → x < k → y < k → (if b then x else y) < k
either-below true x y k less more = less
either-below false x y k less more = more

quotient-below : (a b : ℕ) → a < 2 ^ 32 → quot_u a b < 2 ^ 32
quotient-below a b small =
    either-below (b == 0) (2 ^ 32 - 1) (a / b) (2 ^ 32) (lit< tt) (let less = div-le_self a b in omega (arith, less, small))

signed-quotient-below : (a b : ℕ) → quot_s a b < 2 ^ 32
unfolding quot_s
signed-quotient-below a b = either-below (b == 0) (2 ^ 32 - 1) _ (2 ^ 32) (lit< tt) (signed-below _)

rest-below : (a b : ℕ) → a < 2 ^ 32 → rem_u a b < 2 ^ 32
rest-below a b small = either-below (b == 0) a (a % b) (2 ^ 32) small (let less = mod-le a b in omega (arith, less, small))

signed-rest-below : (a b : ℕ) → a < 2 ^ 32 → rem_s a b < 2 ^ 32
unfolding rem_s
signed-rest-below a b small = either-below (b == 0) a _ (2 ^ 32) small (signed-below _)

-- ---- operators

pub unary-agrees-minus : (n : ℕ) → (unary_value one.Negate n ≡ unary Minus n) × (unary Minus n < 2 ^ 32)
unfolding unary_value
unary-agrees-minus n = (refl, mod_below (2 ^ 32 - n) (2 ^ 32) (lit< tt))

pub unary-agrees-complement : (n : ℕ) → (unary_value one.Complement n ≡ unary Complement n) × (unary Complement n < 2 ^ 32)
unfolding unary_value
unary-agrees-complement n = (refl, omega arith)

pub binary-agrees : (o : BinaryOperator) (sign : Sign) (a b : ℕ) → binary_value (operation o sign) a b ≡ binary o sign a b
unfolding binary_value
binary-agrees source.Multiply sign a b = refl
binary-agrees source.Divide Signed a b = refl
binary-agrees source.Divide Unsigned a b = refl
binary-agrees source.Remainder Signed a b = refl
binary-agrees source.Remainder Unsigned a b = refl
binary-agrees source.Add sign a b = refl
binary-agrees source.Subtract sign a b = refl
binary-agrees source.ShiftLeft sign a b = refl
binary-agrees source.ShiftRight Signed a b = refl
binary-agrees source.ShiftRight Unsigned a b = refl
binary-agrees source.BitAnd sign a b = refl
binary-agrees source.BitXor sign a b = refl
binary-agrees source.BitOr sign a b = refl

shifted-below : (a n : ℕ) → shr_s a n < 2 ^ 32
unfolding shr_s
shifted-below a n = signed-below _

pub binary-below : (o : BinaryOperator) (sign : Sign) (a b : ℕ) → a < 2 ^ 32 → b < 2 ^ 32 → binary o sign a b < 2 ^ 32
binary-below source.Multiply sign a b x y = mod_below (a * b) (2 ^ 32) (lit< tt)
binary-below source.Divide Signed a b x y = signed-quotient-below a b
binary-below source.Divide Unsigned a b x y = quotient-below a b x
binary-below source.Remainder Signed a b x y = signed-rest-below a b x
binary-below source.Remainder Unsigned a b x y = rest-below a b x
binary-below source.Add sign a b x y = mod_below (a + b) (2 ^ 32) (lit< tt)
binary-below source.Subtract sign a b x y = mod_below (a + (2 ^ 32 - b)) (2 ^ 32) (lit< tt)
binary-below source.ShiftLeft sign a b x y = mod_below (a * 2 ^ (b % 32)) (2 ^ 32) (lit< tt)
binary-below source.ShiftRight Signed a b x y = shifted-below a b
binary-below source.ShiftRight Unsigned a b x y = let less = div-le_self a (2 ^ (b % 32)) in omega (arith, less, x)
binary-below source.BitAnd sign a b x y = let less = and_le_l a b in omega (arith, less, x)
binary-below source.BitXor sign a b x y = xor_of_32 a b x y
binary-below source.BitOr sign a b x y = or_of_32 a b x y

-- the most cycles of a binary operation
pub binary-charge : (o : BinaryOp) (to left : VReg) (right : Operand) → charge (op.Binary o to left right) ≤ 447
binary-charge two.Add to left right = lit≤ tt
binary-charge two.Subtract to left right = lit≤ tt
binary-charge two.And to left right = lit≤ tt
binary-charge two.Or to left right = lit≤ tt
binary-charge two.Xor to left right = lit≤ tt
binary-charge two.ShiftLeft to left right = lit≤ tt
binary-charge two.ShiftRight to left right = lit≤ tt
binary-charge two.ShiftRightSigned to left right = lit≤ tt
binary-charge two.Multiply to left right = lit≤ tt
binary-charge two.Quotient to left right = lit≤ tt
binary-charge two.QuotientSigned to left right = lit≤ tt
binary-charge two.Remainder to left right = lit≤ tt
binary-charge two.RemainderSigned to left right = lit≤ tt
binary-charge two.Equal to left right = lit≤ tt
binary-charge two.NotEqual to left right = lit≤ tt
binary-charge two.Less to left right = lit≤ tt
binary-charge two.LessSigned to left right = lit≤ tt
binary-charge two.LessOrEqual to left right = lit≤ tt
binary-charge two.LessOrEqualSigned to left right = lit≤ tt
binary-charge two.LeftmostBit to left right = lit≤ tt

-- ---- comparisons

pub truth-below : (b : Bool) → truth_number b < 2 ^ 32
truth-below true = lit< tt
truth-below false = lit< tt

-- numbers are equal where they are above the least by as much
same-ranked : (a b : ℕ) → a < 2 ^ 32 → b < 2 ^ 32 → ((a + 2 ^ 31) % 2 ^ 32 == (b + 2 ^ 31) % 2 ^ 32) ≡ (a == b)
same-ranked a b x y = elim (cases_Bool (a == b)) [
  | inl yes' ↦
      let same = eqb-true a b yes' in
      eq-eqb _ _ (ap (λ n. (n + 2 ^ 31) % 2 ^ 32) same) ∙ sym yes'
  | inr no' ↦
      ne_eqb _ _ (λ ranked. eqb-false a b no' (omega (arith, ranked, x, y))) ∙ sym no'
]

pub comparison-agrees : (o : ComparisonOperator) (sign : Sign) (a b : ℕ) → a < 2 ^ 32 → b < 2 ^ 32
    → (if is_swapped o then binary_value (comparing o sign) b a else binary_value (comparing o sign) a b) ≡ comparison o sign a b
unfolding binary_value
comparison-agrees order.Less Signed a b x y = refl
comparison-agrees order.Less Unsigned a b x y = refl
comparison-agrees order.Greater Signed a b x y = refl
comparison-agrees order.Greater Unsigned a b x y = refl
comparison-agrees order.LessEqual Signed a b x y = refl
comparison-agrees order.LessEqual Unsigned a b x y = refl
comparison-agrees order.GreaterEqual Signed a b x y = refl
comparison-agrees order.GreaterEqual Unsigned a b x y = refl
comparison-agrees order.Equal Signed a b x y = ap truth_number (sym (same-ranked a b x y))
comparison-agrees order.Equal Unsigned a b x y = refl
comparison-agrees order.NotEqual Signed a b x y = ap (λ e. truth_number (not e)) (sym (same-ranked a b x y))
comparison-agrees order.NotEqual Unsigned a b x y = refl

-- ---- the highest bit that is like another

leftmost-same : (n a b : ℕ) → leftmost n a (b % 2) ≡ leftmost_below n a b
leftmost-same zero a b = refl
leftmost-same (suc n) a b = ap (λ rest. if a / 2 ^ n % 2 == b % 2 then n else rest) (leftmost-same n a b)

pub leftmost-agrees : (a b : ℕ) → binary_value two.LeftmostBit a b ≡ leftmost_bit a b
unfolding binary_value
leftmost-agrees a b = leftmost-same 32 a b

either-few : (e : Bool) (n m : ℕ) → n ≤ 32 → m ≤ 32 → (if e then n else m) ≤ 32
either-few true n m few less = few
either-few false n m few less = less

leftmost-few : (n a b : ℕ) → n ≤ 32 → leftmost_below n a b ≤ 32
leftmost-few zero a b few = lit≤ tt
leftmost-few (suc n) a b few =
    either-few (a / 2 ^ n % 2 == b % 2) n (leftmost_below n a b) (omega (arith, few)) (leftmost-few n a b (omega (arith, few)))

pub leftmost-below : (a b : ℕ) → leftmost_bit a b < 2 ^ 32
leftmost-below a b = let few = leftmost-few 32 a b (lit≤ tt) in omega (arith, few)
