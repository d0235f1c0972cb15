-- Calls of intrinsics, with as many arguments as they take.
use Rattle.std.proofs.Common.{arith}
use Rattle.std.proofs.lemmas.Bool.Decides.{nat_tests}
use Rattle.std.specs.Prelude.{Bool, IsTrue, None, Option, Some, nat_le, ℕ, ◌&&◌, ◌≤◌}
use Rattle.csyn.specs.declared.cause.Cause.TheVariants.{S14, S6}
use Rattle.csyn.specs.declared.mark.Mark.{Mark}
use Rattle.csyn.specs.declared.specifiers.Sign.TheVariants.{Unsigned}
use Rattle.cfault.specs.Asked.{both, found, judged}
use Rattle.cfault.specs.Ruled.{Ruled, built}
use Rattle.cprogram.specs.declared.value.Delay.{Delay}
use Rattle.csize.specs.Elements.{where_true}
use Rattle.cexpr.specs.Ask.{at_node, integer}
use Rattle.cexpr.specs.Assign.{written}
use Rattle.cexpr.specs.Constant.{word}
use Rattle.cexpr.specs.Number.{arithmetic_part, void_type, widened}
use Rattle.cexpr.specs.declared.item.IntegerItem.{IntegerItem}
use Rattle.cexpr.specs.declared.item.ValueItem.{ValueItem}
use Rattle.cexpr.specs.declared.node.Operation.TheVariants as operation
use Rattle.cexpr.specs.declared.node.Operation.{Operation}

-- ---- `__halt()`

abbrev pub halted : {V : Type 0} → Mark → ValueItem (Operation V)
halted m = written void_type m operation.Halt

-- ---- `__delay_cycles(n)`

abbrev pub is_delay : ℕ → Bool
is_delay n = nat_le 1 n && nat_le n 1000000

pub some_cycle : (n : ℕ) → IsTrue (is_delay n) → 1 ≤ n
some_cycle n h = grind (arith, nat_tests)

pub at_most : (n : ℕ) → IsTrue (is_delay n) → n ≤ 1000000
at_most n h = grind (arith, nat_tests)

abbrev pub delay_made : (n : ℕ) → IsTrue (is_delay n) → Delay
delay_made n h = record { cycles = n; some_cycle = some_cycle n h; at_most = at_most n h }

abbrev pub delay_of : Option ℕ → Option Delay
delay_of None = None
delay_of (Some n) = where_true (is_delay n) (λ h. Some (delay_made n h))

abbrev pub delayed_by : {V : Type 0} → Mark → Delay → ValueItem (Operation V)
delayed_by m d = written void_type m (operation.Delay d)

unfoldable pub delayed : {V : Type 0} → Mark → Option (ValueItem V) → Ruled (ValueItem (Operation V))
delayed m a = built (delayed_by m) (judged (at_node m S14) (found (delay_of (word a))))

-- ---- `__lmbd(a, b)`, of two numbers as unsigned int

unfoldable pub leftmost_made : {V : Type 0} → Mark → IntegerItem V → IntegerItem V → ValueItem (Operation V)
leftmost_made m a b = arithmetic_part Unsigned None m (operation.LeftmostBit (widened a) (widened b))

unfoldable pub leftmost : {V : Type 0} → Mark → Option (ValueItem V) → Option (ValueItem V) → Ruled (ValueItem (Operation V))
leftmost m a b = built (λ p. leftmost_made m p.0 p.1) (judged (at_node m S6) (both (integer a) (integer b)))
