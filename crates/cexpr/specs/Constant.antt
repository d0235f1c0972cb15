-- Constants, where the language wants one: whether one stands there is judged as it is written, also where a part of it has no type.
use Rattle.std.specs.Prelude.{None, Option, Some, nat_le, ℕ, ◌&&◌, if◌then◌else◌}
use Rattle.csyn.specs.declared.cause.Cause.TheVariants.{S23, S7, S8}
use Rattle.csyn.specs.declared.cause.Cause.{Cause}
use Rattle.csyn.specs.declared.mark.Mark.{Mark}
use Rattle.cfault.specs.Asked.{asked_of, found, judged}
use Rattle.cfault.specs.Ruled.{Ruled, over}
use Rattle.cfault.specs.declared.asked.Asked.TheVariants.{No, Yes}
use Rattle.cfault.specs.declared.asked.Asked.{Asked}
use Rattle.cprogram.specs.declared.scalar.Scalar.TheVariants as scalars
use Rattle.cprogram.specs.declared.scalar.Scalar.{Scalar}
use Rattle.cexpr.specs.Ask.{at_node, value_scalar}
use Rattle.cexpr.specs.Number.{as_word, folded_one}
use Rattle.cexpr.specs.declared.item.ValueItem.{ValueItem}

abbrev pub word_by : Option Scalar → Option ℕ → Option ℕ
word_by (Some (scalars.Integer i)) n = folded_one (as_word i) n
word_by _ _ = None

-- the number of a constant of an integer type, widened to four bytes
unfoldable pub word : {V : Type 0} → Option (ValueItem V) → Option ℕ
word None = None
word (Some v) = word_by (value_scalar v) v.number

-- a constant, where the rule of this cause wants one
unfoldable pub wanted : {V : Type 0} → Mark → Cause → Option (ValueItem V) → Ruled ℕ
wanted m cause a = judged (at_node m cause) (found (word a))

abbrev pub within : ℕ → ℕ → ℕ → Asked ℕ
within low high n = if nat_le low n && nat_le n high then Yes n else No

-- an array's length: a constant of 1 to 4,096
abbrev pub length_of : Mark → Option ℕ → Ruled ℕ
length_of m n = judged (at_node m S8) (asked_of n (within 1 4096))

abbrev pub length_over : Mark → Ruled ℕ → Ruled ℕ
length_over m n = over n.faults (length_of m n.gives)

unfoldable pub array_length : {V : Type 0} → Mark → Option (ValueItem V) → Ruled ℕ
array_length m a = length_over m (wanted m S7 a)

-- the constant of a case
abbrev pub case_number : {V : Type 0} → Mark → Option (ValueItem V) → Ruled ℕ
case_number m a = wanted m S23 a
