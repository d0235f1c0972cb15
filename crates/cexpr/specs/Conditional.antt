-- `a ? b : c` and `a, b`.
use Rattle.std.specs.Prelude.{None, Option, Some, option_map, ℕ, ◌==◌, if◌then◌else◌}
use Rattle.csyn.specs.declared.cause.Cause.TheVariants.{S4}
use Rattle.csyn.specs.declared.mark.Mark.{Mark}
use Rattle.cfault.specs.Asked.{asked_of, both, judged}
use Rattle.cfault.specs.Ruled.{Ruled, built, over, unsaid}
use Rattle.cfault.specs.declared.asked.Asked.TheVariants.{Yes}
use Rattle.cfault.specs.declared.asked.Asked.{Asked}
use Rattle.cprogram.specs.Scalar.{arithmetic}
use Rattle.cprogram.specs.declared.scalar.Conversion.TheVariants.{Same}
use Rattle.cprogram.specs.declared.scalar.Integer.{Integer}
use Rattle.ctypes.specs.Convert.{common}
use Rattle.ctypes.specs.Shape.{Shape, scalar_of}
use Rattle.cexpr.specs.Ask.{at_node, scalar, value_scalar}
use Rattle.cexpr.specs.Assign.{written}
use Rattle.cexpr.specs.Number.{arithmetic_part, as_word, void_type, widened}
use Rattle.cexpr.specs.Pair.{operand_part, paired}
use Rattle.cexpr.specs.declared.item.IntegerItem.{IntegerItem}
use Rattle.cexpr.specs.declared.item.OperandItem.{OperandItem}
use Rattle.cexpr.specs.declared.item.ValueItem.{ValueItem}
use Rattle.cexpr.specs.declared.node.Operation.TheVariants as operation
use Rattle.cexpr.specs.declared.node.Operation.{Operation}
use Rattle.cexpr.specs.declared.pair.Pair.TheVariants as pair
use Rattle.cexpr.specs.declared.pair.Pair.{Pair}

-- what a condition is asked for stands at the condition itself
unfoldable pub condition : {V : Type 0} → Option (ValueItem V) → Ruled (ValueItem V)
condition None = unsaid
condition (Some c) = judged (at_node c.value.mark S4) (scalar (Some c))

-- the number of the arm that the condition chooses
abbrev pub chosen_number : Integer → Integer → ℕ → ℕ → ℕ → ℕ
chosen_number i j c a b = if c == 0 then as_word j b else as_word i a

abbrev pub chosen : Integer → Integer → Option ℕ → Option ℕ → Option ℕ → Option ℕ
chosen i j (Some c) (Some a) (Some b) = Some (chosen_number i j c a b)
chosen _ _ _ _ _ = None

unfoldable pub integer_arms : {V : Type 0} → Mark → ValueItem V → IntegerItem V → IntegerItem V → ValueItem (Operation V)
integer_arms m c a b =
    let sign = common a.integer b.integer in
    arithmetic_part sign (chosen a.integer b.integer c.number a.number b.number) m
    (operation.Conditional (Some (arithmetic sign)) c.value (widened a) (widened b))

unfoldable pub other_arms : {V : Type 0} → Mark → ValueItem V → Shape → OperandItem V → OperandItem V → ValueItem (Operation V)
other_arms m c t a b = written t m (operation.Conditional (scalar_of t.base t.steps) c.value a b)

abbrev pub conditional_made : {V : Type 0} → Mark → ValueItem V → Pair V → ValueItem (Operation V)
conditional_made m c (pair.Integers a b) = integer_arms m c a b
conditional_made m c (pair.Pointers t a b) = other_arms m c t a b
conditional_made m c (pair.Voids a b) = other_arms m c void_type (operand_part a Same) (operand_part b Same)

-- the condition, where it breaks no rule
abbrev pub asked_condition : {V : Type 0} → Option (ValueItem V) → Asked (ValueItem V)
asked_condition c = asked_of c Yes

abbrev pub arms : {V : Type 0} → Mark → Option (ValueItem V) → Option (ValueItem V) → Option (ValueItem V) → Ruled (ValueItem (Operation V))
arms m c a b = built (λ p. conditional_made m p.0 p.1) (judged (at_node m S4) (both (asked_condition c) (paired a b)))

abbrev pub arms_over : {V : Type 0} → Mark → Ruled (ValueItem V) → Option (ValueItem V) → Option (ValueItem V) → Ruled (ValueItem (Operation V))
arms_over m c a b = over c.faults (arms m c.gives a b)

unfoldable pub conditional : {V : Type 0} → Mark → Option (ValueItem V) → Option (ValueItem V) → Option (ValueItem V) →
    Ruled (ValueItem (Operation V))
conditional m c a b = arms_over m (condition c) a b

-- ---- a comma breaks no rule

abbrev pub comma_made : {V : Type 0} → Mark → ValueItem V → ValueItem V → ValueItem (Operation V)
comma_made m a b = written b.ctype m (operation.Comma (value_scalar b) a.value b.value)

abbrev pub both_values : {V : Type 0} → Option (ValueItem V) → Option (ValueItem V) → Option (ValueItem V × ValueItem V)
both_values (Some a) (Some b) = Some (a, b)
both_values _ _ = None

unfoldable pub comma : {V : Type 0} → Mark → Option (ValueItem V) → Option (ValueItem V) → Option (ValueItem (Operation V))
comma m a b = option_map (λ p. comma_made m p.0 p.1) (both_values a b)
