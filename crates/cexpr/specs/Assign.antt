-- `=`: what is assigned becomes what its target's type is.
use Rattle.std.specs.Prelude.{Bool, None, Option, Some, false, ℕ, ◌==◌}
use Rattle.csyn.specs.declared.cause.Cause.TheVariants.{S4, S5}
use Rattle.csyn.specs.declared.mark.Mark.{Mark}
use Rattle.cfault.specs.Asked.{asked_of, both, judged}
use Rattle.cfault.specs.Ruled.{Ruled, built, over}
use Rattle.cfault.specs.declared.asked.Asked.TheVariants.{No, Yes}
use Rattle.cfault.specs.declared.asked.Asked.{Asked}
use Rattle.cprogram.specs.declared.access.Access.{Access}
use Rattle.cprogram.specs.declared.scalar.Conversion.{Conversion}
use Rattle.ctypes.specs.Convert.{implied}
use Rattle.ctypes.specs.Shape.{Shape}
use Rattle.cexpr.specs.Ask.{at_node, target}
use Rattle.cexpr.specs.declared.item.Item.{Item}
use Rattle.cexpr.specs.declared.item.OperandItem.{OperandItem}
use Rattle.cexpr.specs.declared.item.TargetItem.{TargetItem}
use Rattle.cexpr.specs.declared.item.ValueItem.{ValueItem}
use Rattle.cexpr.specs.declared.node.Assignment.TheVariants as assignment
use Rattle.cexpr.specs.declared.node.Assignment.{Assignment}

-- the constant 0
abbrev pub is_zero : Option ℕ → Bool
is_zero None = false
is_zero (Some n) = n == 0

abbrev pub as_operand : {V : Type 0} → ValueItem V → Option Conversion → Asked (OperandItem V)
as_operand v (Some c) = Yes (record { conversion = c; value = v.value })
as_operand _ None = No

-- what turns a value into one of a type without a cast
unfoldable pub implied_from : {V : Type 0} → ValueItem V → Shape → Option Conversion
implied_from v t = implied (is_zero v.number) v.ctype t

-- a value that converts so
unfoldable pub implied_to : {V : Type 0} → Shape → ValueItem V → Asked (OperandItem V)
implied_to t v = as_operand v (implied_from v t)

-- a target, and a value that converts to its type
unfoldable pub assigned : {V P : Type 0} → Option (TargetItem P) → Option (ValueItem V) → Asked (TargetItem P × OperandItem V)
assigned t b = asked_of t (λ t. both (Yes t) (asked_of b (implied_to t.ctype)))

abbrev pub access_of : {P : Type 0} → TargetItem P → Access
access_of t = record { kind = t.reach; scalar = t.scalar }

-- the value of an assignment is the converted value
abbrev pub written : {N : Type 0} → Shape → Mark → N → ValueItem N
written t m kind = record { ctype = t; number = None; own = None; value = record { mark = m; kind = kind } }

unfoldable pub assign_made : {V P : Type 0} → Mark → TargetItem P → OperandItem V → ValueItem (Assignment V P)
assign_made m t b = written t.ctype m (assignment.Assign (access_of t) t.place b)

abbrev pub assign_to : {V P : Type 0} → Mark → Option (TargetItem P) → Option (ValueItem V) → Ruled (ValueItem (Assignment V P))
assign_to m t b = built (λ p. assign_made m p.0 p.1) (judged (at_node m S4) (assigned t b))

abbrev pub assign_over : {V P : Type 0} → Mark → Ruled (TargetItem P) → Option (ValueItem V) → Ruled (ValueItem (Assignment V P))
assign_over m t b = over t.faults (assign_to m t.gives b)

unfoldable pub assign : {V P : Type 0} → Mark → Option (Item V P) → Option (ValueItem V) → Ruled (ValueItem (Assignment V P))
assign m a b = assign_over m (judged (at_node m S5) (target a)) b
