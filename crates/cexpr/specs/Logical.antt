-- `&&` and `||`.
use Rattle.std.specs.Prelude.{Option, ℕ, ◌==◌, if◌then◌else◌}
use Rattle.csyn.specs.declared.cause.Cause.TheVariants.{S4}
use Rattle.csyn.specs.declared.mark.Mark.{Mark}
use Rattle.csyn.specs.declared.operator.LogicalOperator.TheVariants.{And, Or}
use Rattle.csyn.specs.declared.operator.LogicalOperator.{LogicalOperator}
use Rattle.csyn.specs.declared.specifiers.Sign.TheVariants.{Signed}
use Rattle.cfault.specs.Asked.{both, judged}
use Rattle.cfault.specs.Ruled.{Ruled, built}
use Rattle.cexpr.specs.Ask.{at_node, scalar}
use Rattle.cexpr.specs.Number.{arithmetic_part, folded}
use Rattle.cexpr.specs.declared.item.ValueItem.{ValueItem}
use Rattle.cexpr.specs.declared.node.Operation.TheVariants as operation
use Rattle.cexpr.specs.declared.node.Operation.{Operation}

abbrev pub logical_number : LogicalOperator → ℕ → ℕ → ℕ
logical_number And a b = if a == 0 then 0 else if b == 0 then 0 else 1
logical_number Or a b = if a == 0 then (if b == 0 then 0 else 1) else 1

unfoldable pub logical_made : {V : Type 0} → Mark → LogicalOperator → ValueItem V → ValueItem V → ValueItem (Operation V)
logical_made m o a b = arithmetic_part Signed (folded (logical_number o) a.number b.number) m (operation.Logical o a.value b.value)

-- of integers and pointers
unfoldable pub logical : {V : Type 0} → Mark → LogicalOperator → Option (ValueItem V) → Option (ValueItem V) →
    Ruled (ValueItem (Operation V))
logical m o a b = built (λ p. logical_made m o p.0 p.1) (judged (at_node m S4) (both (scalar a) (scalar b)))
